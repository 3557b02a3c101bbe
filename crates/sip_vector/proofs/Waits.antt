-- An addition that waits as one entry or as several.
use Rattle.std.proofs.Common.{◌≡◌, ℕ, ◌+◌, ◌^◌, ◌<◌, ◌≤◌, Bool, false, eqb, List, [], ◌∷◌, ◌++◌, length, get_or, set, take, All, ℤ, pos, ◌+ℤ◌, ◌-ℤ◌, nat_abs, refl, sym, ap, ◌∙◌, if◌then◌else◌, true, arith}
use Rattle.std.proofs.lemmas.Int.{ints}
use Rattle.std.proofs.lemmas.List.{length-append, take-append-le}
use Rattle.std.proofs.lemmas.List.Elements.{All-push}
use Rattle.sip_vector.specs.declared.update.Entry.{Entry}
use Rattle.sip_vector.specs.Streams.{int_sum, most_weight}
use Rattle.sip_vector.specs.inside.Gathered.{value_at, sum_at, abs_sum, gathered, IsAdded, IsGathered}
use Rattle.sip_vector.proofs.Gathers.{same_gathered, gathered-push, IsGathered-push}
use Rattle.sip_vector.proofs.Merges.{sum_at-append, abs_sum-append, value_at-both}

-- so much of an addition is left, and `after` has the rest of it behind those before
pub record IsPartOf (index : ℕ) (delta left : ℤ) (before after : List Entry) : Type 0 where
  pub sums : (k : ℕ) → sum_at after k +ℤ value_at (record { index = index; value = left }) k
      ≡ sum_at before k +ℤ value_at (record { index = index; value = delta }) k
  pub light : abs_sum after + nat_abs left ≤ abs_sum before + nat_abs delta
  pub within : (n : ℕ) → index < n → All (λ (e : Entry). e.index < n) before
      → All (λ (e : Entry). e.index < n) after
  pub longer : length before ≤ length after
  pub kept : take (length before) after ≡ before
  pub least : nat_abs left ≤ nat_abs delta

pub part-init : (index : ℕ) (delta : ℤ) (before : List Entry)
    → take (length before) before ≡ before → IsPartOf index delta delta before before
part-init index delta before all = record {
  sums = λ k. refl;
  light = omega arith;
  within = λ n below inside. inside;
  longer = omega arith;
  kept = all;
  least = omega arith;
}

parted : (left part : ℤ) → part +ℤ (left -ℤ part) ≡ left
parted left part = omega (arith, ints)

regrouped : (s v a b d : ℤ) → s +ℤ v ≡ d → v ≡ a +ℤ b → (s +ℤ (a +ℤ pos 0)) +ℤ b ≡ d
regrouped s v a b d e f = omega (arith, ints, e, f)

module _ (index : ℕ) (delta left part : ℤ) (before after : List Entry)
    (so_far : IsPartOf index delta left before after) where
  abbrev piece : Entry
  piece = record { index = index; value = part }

  pub part-more : nat_abs left ≡ nat_abs part + nat_abs (left -ℤ part)
      → IsPartOf index delta (left -ℤ part) before (after ++ piece ∷ [])
  part-more split = record {
    sums = λ k.
        let whole = value_at (record { index = index; value = left }) k in
        let rest = value_at (record { index = index; value = left -ℤ part }) k in
        let both : whole ≡ value_at piece k +ℤ rest =
        ap (λ z. value_at (record { index = index; value = z }) k) (sym (parted left part))
        ∙ value_at-both index part (left -ℤ part) k in
        rw (sum_at-append after (piece ∷ []) k)
        (regrouped (sum_at after k) whole (value_at piece k) rest _ (so_far.sums k) both);
    light = omega (arith, split, so_far.light, abs_sum-append after (piece ∷ []));
    within = λ n below inside.
        All-push (λ (e : Entry). e.index < n) after piece (so_far.within n below inside) below;
    longer = omega (arith, so_far.longer, length-append after (piece ∷ []));
    kept = take-append-le (length before) after (piece ∷ []) so_far.longer ∙ so_far.kept;
    least = omega (arith, split, so_far.least);
  }

value_at-none : (index : ℕ) (left : ℤ) (k : ℕ) → left ≡ pos 0
    → value_at (record { index = index; value = left }) k ≡ pos 0
value_at-none index left k none = rw none (if_same (eqb index k))
  where
    if_same : (b : Bool) → (if b then pos 0 else pos 0) ≡ pos 0
    if_same true = refl
    if_same false = refl

without : (s v d : ℤ) → s +ℤ v ≡ d → v ≡ pos 0 → s ≡ d
without s v d e f = omega (arith, ints, e, f)

pub part-done : (index : ℕ) (delta left : ℤ) (before after : List Entry)
    → IsPartOf index delta left before after → left ≡ pos 0 → 0 < length after
    → IsAdded index delta before after
part-done index delta left before after so_far none some = record {
  sums = λ k. without _ _ _ (so_far.sums k) (value_at-none index left k none);
  light = omega (arith, so_far.light);
  within = so_far.within;
  some = some;
}

-- ---- a vector with one more addition

same_at : (l a b v : ℤ) → a ≡ b +ℤ v → l +ℤ a ≡ l +ℤ (b +ℤ (v +ℤ pos 0))
same_at l a b v e = omega (arith, ints, e)

module _ (depth : ℕ) (list pending : List Entry) (total : ℤ) (weight : ℕ)
    (is : IsGathered depth list pending total weight)
    (index : ℕ) (delta : ℤ) (below : index < 2 ^ depth)
    (light : weight + nat_abs delta ≤ most_weight)
    (after : List Entry) (added : IsAdded index delta pending after) where
  abbrev addition : Entry
  addition = record { index = index; value = delta }

  as_pushed : gathered depth list after ≡ gathered depth list (pending ++ addition ∷ [])
  as_pushed =
      same_gathered depth list (pending ++ addition ∷ []) list after is.sparse is.sparse same
    where
      same : (k : ℕ) → sum_at list k +ℤ sum_at after k
          ≡ sum_at list k +ℤ sum_at (pending ++ addition ∷ []) k
      same k = rw (sum_at-append pending (addition ∷ []) k)
          (same_at (sum_at list k) (sum_at after k) (sum_at pending k) (value_at addition k)
          (added.sums k))

  pub gathered-added : gathered depth list after
      ≡ set (gathered depth list pending) index
      (get_or (gathered depth list pending) index (pos 0) +ℤ delta)
  gathered-added =
      as_pushed ∙ gathered-push depth list pending total weight is index delta below light

  pub IsGathered-added : IsGathered depth list after (total +ℤ delta) (weight + nat_abs delta)
  IsGathered-added =
      let pushed = IsGathered-push depth list pending total weight is index delta below light in
      record {
        sparse = is.sparse;
        within = added.within (2 ^ depth) below is.within;
        sums = pushed.sums ∙ ap int_sum (sym as_pushed);
        light = omega (arith, added.light, is.light);
        most = light;
      }

-- a list with something in it is not empty
pub some_wait : (n : ℕ) → 0 < n → eqb n 0 ≡ false
some_wait n some = grind arith
