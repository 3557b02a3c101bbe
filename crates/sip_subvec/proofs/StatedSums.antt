-- The whole check is that one sum is the root.
use Rattle.std.proofs.Common.{◌≡◌, ℕ, zero, suc, ◌+◌, ◌-◌, ◌*◌, ◌%◌, ◌^◌, ◌<◌, ◌≤◌, ℤ, pos, Bool, true, false, Result, Ok, List, [], ◌∷◌, ◌++◌, length, map, inl, inr, All, refl, sym, ap, ◌∙◌, arith}
use Rattle.std.specs.Prelude.{nat_eq, nat_lt, ◌==◌}
use Rattle.std.specs.List.{range_with_len, list_all}
use Rattle.std.specs.Cmp.Lexicographic.{pointwise}
use Rattle.std.proofs.Math.Bool.{and-true}
use Rattle.std.proofs.Math.Nat.{mod-eq_of_lt}
use Rattle.std.proofs.lemmas.Bool.{and_parts, cases_eq, eq-eqb, ne_eqb, ltb-true, leb-true}
use Rattle.std.proofs.lemmas.List.Folds.{list_all-append}
use Rattle.std.proofs.lemmas.List.Elements.{All-map}
use Rattle.std.proofs.lemmas.List.FromFn.{length-map-range_with_len}
use Rattle.std.proofs.lemmas.List.Sums.{sum_by-cons}
use Rattle.sip_field.specs.Residue.{residue}
use Rattle.sip_vector.specs.Steps.{◌>>=◌, needs}
use Rattle.sip_vector.specs.Weights.{weight_above, weighted_sum}
use Rattle.sip_vector.specs.declared.update.Entry.{Entry}
use Rattle.sip_vector.proofs.TreeResidues.{residue_below}
use Rattle.sip_vector.proofs.TreeSums.{weighted_sum-cons}
use Rattle.sip_wire.specs.declared.message.Reason.{Reason}
use Rattle.sip_subvec.specs.AcceptsSub.{Stated, stated_value, stated_level, folded, gives_root}
use Rattle.sip_subvec.specs.Replies.{with_entries}
use Rattle.sip_subvec.specs.Checking.{entries_sum, siblings_sum, stated_sum, HasPassed}
use Rattle.sip_subvec.proofs.WeightedFolds.{fold_of_level}
use Rattle.sip_subvec.proofs.StatedEntries.{value-there}

-- ---- sums along indices

-- the sum of f over n indices from lo on
abbrev sum_along : (ℕ → ℕ) → ℕ → ℕ → ℕ
sum_along f lo zero = 0
sum_along f lo (suc n) = f lo + sum_along f (lo + 1) n

along_same : (f g : ℕ → ℕ) (lo n : ℕ) → ((i : ℕ) → lo ≤ i → f i ≡ g i) → sum_along f lo n ≡ sum_along g lo n
along_same f g lo zero same = refl
along_same f g lo (suc n) same =
    ap (λ k. k + sum_along f (lo + 1) n) (same lo (omega arith)) ∙ ap (λ k. g lo + k) (along_same f g (lo + 1) n (λ i le. same i (omega arith)))

along_zero : (f : ℕ → ℕ) (lo n : ℕ) → ((i : ℕ) → f i ≡ 0) → sum_along f lo n ≡ 0
along_zero f lo zero none = refl
along_zero f lo (suc n) none = omega (arith, none lo, along_zero f (lo + 1) n none)

-- two functions that differ at one index, where one of them is 0
along_point : (f g : ℕ → ℕ) (k lo n : ℕ) → lo ≤ k → k < lo + n → ((i : ℕ) → (k ≡ i → ⊥) → f i ≡ g i) → g k ≡ 0 → sum_along f lo n ≡ f k + sum_along g lo n
along_point f g k lo zero low high same none = absurd (omega arith)
along_point f g k lo (suc n) low high same none = elim (cases_eq k lo) [
  | inl here ↦
      let rest : sum_along f (lo + 1) n ≡ sum_along g (lo + 1) n = along_same f g (lo + 1) n (λ i le. same i (λ e. omega arith)) in
      omega (arith, rest, ap f here, ap g here)
  | inr other ↦
      let rest : sum_along f (lo + 1) n ≡ f k + sum_along g (lo + 1) n = along_point f g k (lo + 1) n (omega arith) (omega arith) same none in
      omega (arith, rest, same lo other)
]

-- a level that is given by its indices
by_index : (p : ℕ) (challenges : List ℕ) (level : ℕ) (f : ℕ → ℕ) (lo n : ℕ)
    → weighted_sum p challenges level lo (map f (range_with_len lo n)) ≡ sum_along (λ i. f i * weight_above p challenges level i) lo n
by_index p challenges level f lo zero = refl
by_index p challenges level f lo (suc n) =
    weighted_sum-cons p challenges level lo (f lo) (map f (range_with_len (lo + 1) n))
    ∙ ap (λ k. f lo * weight_above p challenges level lo + k) (by_index p challenges level f (lo + 1) n)

-- ---- entries that passed

-- the indices rise from `least` on, up to hi
abbrev pub AreRising : ℕ → ℕ → List Entry → Type 0
AreRising least hi [] = Unit {0}
AreRising least hi (e ∷ es) = (least ≤ e.index) × (e.index ≤ hi) × AreRising (e.index + 1) hi es

passed : {X : Type 0} (test : Bool) (reason : Reason) (rest : Result X Reason) (x : X) → (needs test reason >>= λ _. rest) ≡ Ok x → (test ≡ true) × (rest ≡ Ok x)
passed true reason rest x e = (refl, e)
passed false reason rest x e = absurd cc

rising : (lo hi least : ℕ) (before es after : List Entry) → ((i : ℕ) → lo ≤ i → list_all (λ b. nat_lt b.index i) before ≡ true → least ≤ i) → with_entries lo hi before es ≡ Ok after → AreRising least hi es
rising lo hi least before [] after above is = tt
rising lo hi least before (e ∷ es) after above is =
    let order = passed _ _ _ _ is in
    let room = passed _ _ _ _ order.1 in
    let tests = and_parts _ _ order.0 in
    let within = and_parts _ _ tests.0 in
    let low : lo ≤ e.index = leb-true lo e.index within.0 in
    let high : e.index ≤ hi = leb-true e.index hi within.1 in (
      above e.index low tests.1,
      high,
      rising lo hi (e.index + 1) (before ++ e ∷ []) es after (λ i le all.
          let behind = and_parts _ _ (sym (list_all-append (λ (b : Entry). nat_lt b.index i) before (e ∷ [])) ∙ all) in
          let one = and_parts _ _ behind.1 in
          let less : e.index < i = ltb-true e.index i one.0 in
          omega arith) room.1,
    )

-- no value is stated before the first index
unstated : (least hi : ℕ) (es : List Entry) (i : ℕ) → AreRising least hi es → i < least → stated_value es i ≡ pos 0
unstated least hi [] i rise before = refl
unstated least hi (e ∷ es) i rise before =
    rw (ne_eqb e.index i (λ same. omega (arith, rise.0))) (unstated (e.index + 1) hi es i rise.2 (omega (arith, rise.0)))

pub value_here : (e : Entry) (es : List Entry) → stated_value (e ∷ es) e.index ≡ e.value
value_here e es = rw (eq-eqb e.index e.index refl)

module _ (p lo hi : ℕ) (challenges : List ℕ) (some : 0 < p) where
  -- a value at an index, times its weight
  abbrev term : ℤ → ℕ → ℕ
  term v i = residue p v * weight_above p challenges 0 i

  term_of_zero : (v : ℤ) (i : ℕ) → v ≡ pos 0 → term v i ≡ 0
  term_of_zero v i none = ap (λ x. term x i) none ∙ ap (λ k. k * weight_above p challenges 0 i) (mod-eq_of_lt some) ∙ omega arith

  entries_along : (least : ℕ) (es : List Entry) → lo ≤ least → AreRising least hi es → sum_along (λ i. term (stated_value es i) i) lo (hi + 1 - lo) ≡ entries_sum p challenges es
  entries_along least [] le rise = along_zero (λ i. term (pos 0) i) lo (hi + 1 - lo) (λ i. term_of_zero (pos 0) i refl)
  entries_along least (e ∷ es) le rise =
      let low : lo ≤ e.index = omega (arith, rise.0) in
      let high : e.index < lo + (hi + 1 - lo) = omega (arith, rise.1) in
      let none : stated_value es e.index ≡ pos 0 = unstated (e.index + 1) hi es e.index rise.2 (omega arith) in
      along_point (λ i. term (stated_value (e ∷ es) i) i) (λ i. term (stated_value es i) i) e.index lo (hi + 1 - lo) low high
      (λ i other. ap (λ v. term v i) (value-there e es i other)) (term_of_zero (stated_value es e.index) e.index none)
      ∙ ap (λ v. term v e.index + sum_along (λ i. term (stated_value es i) i) lo (hi + 1 - lo)) (value_here e es)
      ∙ ap (λ k. term e.value e.index + k) (entries_along (e.index + 1) es (omega arith) rise.2)
      ∙ sym (sum_by-cons (λ (x : Entry). residue p x.value * weight_above p challenges 0 x.index) e es)

  -- the stated level has the weighted sum of the entries
  pub level_of_rising : (es : List Entry) → AreRising lo hi es → weighted_sum p challenges 0 lo (stated_level p lo hi es) ≡ entries_sum p challenges es
  level_of_rising es rise =
      by_index p challenges 0 (λ i. residue p (stated_value es i)) lo (hi + 1 - lo) ∙ entries_along lo es (omega arith) rise

  pub level_of_entries : (es : List Entry) → with_entries lo hi [] es ≡ Ok es → weighted_sum p challenges 0 lo (stated_level p lo hi es) ≡ entries_sum p challenges es
  level_of_entries es is = level_of_rising es (rising lo hi lo [] es es (λ i le all. le) is)

  -- the last fold is the sum of all that is stated
  pub folded_is_sum : (s : Stated) → lo ≤ hi → hi < 2 ^ length challenges → length s.siblings ≡ length challenges → HasPassed lo hi s → folded p lo hi challenges s ≡ stated_sum p lo hi challenges s ∷ []
  folded_is_sum s order within all passed =
      let half : hi < 2 ^ length s.siblings = rw all within in
      let level : List ℕ = stated_level p lo hi s.entries in
      let below : All (λ x. x < p) level = All-map (λ (x : ℕ). x < p) (λ i. residue p (stated_value s.entries i)) (range_with_len lo (hi + 1 - lo)) (λ k d h. residue_below p _ some) in
      fold_of_level p challenges 0 lo hi level s.siblings some (omega (arith, all)) order half (length-map-range_with_len (λ i. residue p (stated_value s.entries i)) lo (hi + 1 - lo)) below passed.siblings
      ∙ ap (λ k. ((k + siblings_sum p challenges 0 lo hi s.siblings) % p) ∷ []) (level_of_entries s.entries passed.entries)

  -- so the whole check is that this sum is the root
  pub root_is_sum : (root : ℕ) (s : Stated) → lo ≤ hi → hi < 2 ^ length challenges → length s.siblings ≡ length challenges → HasPassed lo hi s → gives_root p root lo hi challenges s ≡ (stated_sum p lo hi challenges s == root)
  root_is_sum root s order within all passed =
      ap (λ (l : List ℕ). pointwise nat_eq l (root ∷ [])) (folded_is_sum s order within all passed) ∙ and-true (stated_sum p lo hi challenges s == root)
