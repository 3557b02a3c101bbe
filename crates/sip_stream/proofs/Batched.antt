-- One more record in a batch.
use Rattle.std.proofs.Common.{◌≡◌, ◌≢◌, ℕ, ◌+◌, ◌-◌, ◌*◌, ◌%◌, ◌^◌, ◌<◌, ◌≤◌, pos, nat_abs, bit_or, List, [], ◌∷◌, ◌++◌, false, true, refl, sym, ap, ◌∙◌, arith, subst}
use Rattle.std.proofs.lemmas.List.{length-append}
use Rattle.std.proofs.lemmas.List.Elements.{All-append, All-cons, All-nil}
use Rattle.std.proofs.lemmas.Nat.{le_or_l, le_or_r}
use Rattle.sip_vector.specs.declared.update.Side.{Side}
use Rattle.sip_vector.specs.declared.update.Side.TheVariants.{First, Second}
use Rattle.sip_vector.specs.declared.update.Update.{Update}
use Rattle.sip_vector.specs.Streams.{same_side, weight, most_weight, IsLegal}
use Rattle.sip_vector.proofs.Sides.{weight-append, weight-one, weight-one_other_side}
use Rattle.sip_stream.specs.declared.batch.Batch.{Batch}
use Rattle.sip_stream.specs.Reading.{Reading, HasRoom, IsAfter, weight_of}
use Rattle.sip_stream.specs.Spellings.{side_number}
use Rattle.sip_stream.specs.Batches.{IsClean, IsFew, IsLight, TakesOne, most_counted, reader_of}

-- what holds of both sides holds of any
by_side : (P : Side → Type 0) → P First → P Second → (s : Side) → P s
by_side P first second First = first
by_side P first second Second = second

-- the weights of a side with one more update
own_more : (before : List Update) (u : Update) (s : Side) → same_side u.side s ≡ true → weight (before ++ u ∷ []) s ≡ weight before s + nat_abs u.delta
own_more before u s same = weight-append before (u ∷ []) s ∙ ap (λ n. weight before s + n) (weight-one u s same)

other_more : (before : List Update) (u : Update) (s : Side) → same_side u.side s ≡ false → weight (before ++ u ∷ []) s ≡ weight before s
other_more before u s other = omega (arith, weight-append before (u ∷ []) s, weight-one_other_side u s other)

-- a reader that has read one more
after_more : (old new : Reading) (u : Update) (before : List Update) → HasRoom old u → IsAfter old before → new.depth ≡ old.depth → new.is_spent ≡ old.is_spent → new.count ≡ old.count + 1
    → ((s : Side) → weight_of new s ≡ weight (before ++ u ∷ []) s) → new.first ≤ most_weight → new.second ≤ most_weight → IsAfter new (before ++ u ∷ [])
after_more old new u before room is depth spent count weights first second = record {
  count = omega (arith, count, is.count, length-append before (u ∷ []));
  weights = weights;
  legal = subst (λ d. IsLegal d (before ++ u ∷ [])) (sym depth) (record {
    items = All-append (λ v. v.item < 2 ^ old.depth) before (u ∷ []) is.legal.items (All-cons (λ v. v.item < 2 ^ old.depth) u [] room.item (All-nil (λ v. v.item < 2 ^ old.depth)));
    deltas = All-append (λ v. v.delta ≢ pos 0) before (u ∷ []) is.legal.deltas (All-cons (λ v. v.delta ≢ pos 0) u [] room.delta (All-nil (λ v. v.delta ≢ pos 0)));
    first = omega (arith, weights First, first);
    second = omega (arith, weights Second, second);
  });
  ready = spent ∙ is.ready;
}

-- the bits of a batch with one more record
abbrev pub bits_with : ℕ → ℕ → ℕ
bits_with sizes size = bit_or sizes ((size + 18446744073709551615) % 18446744073709551616)

module _ (sizes size : ℕ) (few : bits_with sizes size ≤ most_weight) where
  pub sizes_few : sizes ≤ most_weight
  sizes_few = omega (arith, few, le_or_l sizes ((size + 18446744073709551615) % 18446744073709551616))

  less : (size + 18446744073709551615) % 18446744073709551616 ≤ most_weight
  less = omega (arith, few, le_or_r sizes ((size + 18446744073709551615) % 18446744073709551616))

  pub size_some : 1 ≤ size
  size_some = omega (arith, less)

  pub size_few : size ≤ 18446744073709551615 → size ≤ most_weight + 1
  size_few short = omega (arith, less, short)

-- a batch, and the same with one more record
module _ (old new : Batch) (size : ℕ) (u : Update) (is : size ≡ nat_abs u.delta) (short : size ≤ 9223372036854775808) (items : new.items ≡ bit_or old.items u.item)
    (count : new.count ≡ (old.count + 1) % 18446744073709551616) (sum : new.total ≡ (old.total + size) % 18446744073709551616) (sizes : new.sizes ≡ bits_with old.sizes size) where
  bits_few : new.sizes ≤ most_weight → bits_with old.sizes size ≤ most_weight
  bits_few few = omega (arith, few, sizes)

  -- the sum did not wrap where no size is too much
  exact : (n : ℕ) → n ≤ most_counted → IsFew n old → new.sizes ≤ most_weight → (new.total ≡ old.total + size) × (old.total ≤ (n + 1) * (most_weight + 1)) × (size ≤ most_weight + 1)
  exact n most were few =
      let bits = bits_few few in
      let weight : old.total ≤ (n + 1) * (most_weight + 1) = were (sizes_few old.sizes size bits) in
      let small : size ≤ most_weight + 1 = size_few old.sizes size bits (omega (arith, short)) in (
        omega (arith, sum, weight, small, most),
        weight,
        small,
      )

  pub is_few : (n m : ℕ) → n < m → m ≤ most_counted → IsFew n old → IsFew m new
  is_few n m more most were few = let so = exact n (omega (arith, more, most)) were few in omega (arith, so.0, so.1, so.2, more)

  pub was_clean : (depth n : ℕ) → n ≤ most_counted → IsFew n old → IsClean depth new → IsClean depth old
  was_clean depth n most were clean = record {
    items = omega (arith, clean.items, items, le_or_l old.items u.item);
    sizes = sizes_few old.sizes size (bits_few clean.sizes);
    total = omega (arith, clean.total, (exact n most were clean.sizes).0);
  }

  module _ (r : Reading) (clean : IsClean r.depth new) (light : IsLight old) where
    few : new.total ≤ most_weight
    few = clean.total

    some : 1 ≤ size
    some = size_some old.sizes size (bits_few clean.sizes)

    whole : new.total ≡ old.total + size
    whole = omega (arith, sum, light.total, short)

    next : new.count ≡ old.count + 1
    next = omega (arith, count, light.count, light.total)

    light_with : new.second ≤ new.total → IsLight new
    light_with below = record {
      total = omega (arith, few);
      second = below;
      first_few = omega (arith, few);
      second_few = omega (arith, few, below);
      count = omega (arith, next, light.count, whole, some);
    }

    room_with : weight_of (reader_of r old) u.side + nat_abs u.delta ≤ most_weight → HasRoom (reader_of r old) u
    room_with weight = record {
      item = omega (arith, clean.items, items, le_or_r old.items u.item);
      delta = λ e. absurd (let none : nat_abs u.delta ≡ 0 = rw e refl in omega (arith, none, is, some));
      weight = weight;
    }

    takes_first : u.side ≡ First → new.second ≡ old.second → TakesOne r old new u
    takes_first side same =
        let below : new.second ≤ new.total = omega (arith, same, whole, light.second) in
        let first : new.total - new.second ≡ old.total - old.second + size = omega (arith, same, whole, light.second) in
        let light_now = light_with below in
        let room = room_with (subst (λ s. weight_of (reader_of r old) s + nat_abs u.delta ≤ most_weight) (sym side) (omega (arith, few, first, is))) in
        record {
          light = light_now;
          room = room;
          heavier = omega (arith, whole, some);
          after = λ before so. after_more (reader_of r old) (reader_of r new) u before room so refl refl next
              (by_side (λ s. weight_of (reader_of r new) s ≡ weight (before ++ u ∷ []) s)
              (omega (arith, first, is, so.weights First, own_more before u First (ap (λ s. same_side s First) side)))
              (omega (arith, same, so.weights Second, other_more before u Second (ap (λ s. same_side s Second) side)))) light_now.first_few light_now.second_few;
        }

    takes_second : u.side ≡ Second → new.second ≡ (old.second + size) % 18446744073709551616 → TakesOne r old new u
    takes_second side more =
        let second : new.second ≡ old.second + size = omega (arith, more, light.second, light.total, short) in
        let below : new.second ≤ new.total = omega (arith, second, whole, light.second) in
        let first : new.total - new.second ≡ old.total - old.second = omega (arith, second, whole, light.second) in
        let light_now = light_with below in
        let room = room_with (subst (λ s. weight_of (reader_of r old) s + nat_abs u.delta ≤ most_weight) (sym side) (omega (arith, few, second, below, is))) in
        record {
          light = light_now;
          room = room;
          heavier = omega (arith, whole, some);
          after = λ before so. after_more (reader_of r old) (reader_of r new) u before room so refl refl next
              (by_side (λ s. weight_of (reader_of r new) s ≡ weight (before ++ u ∷ []) s)
              (omega (arith, first, so.weights First, other_more before u First (ap (λ s. same_side s First) side)))
              (omega (arith, second, is, so.weights Second, own_more before u Second (ap (λ s. same_side s Second) side)))) light_now.first_few light_now.second_few;
        }

    takes_by : (s : Side) → u.side ≡ s → new.second ≡ (old.second + size * side_number s % 18446744073709551616) % 18446744073709551616 → TakesOne r old new u
    takes_by First side more =
        let none : new.second ≡ (old.second + size * 0 % 18446744073709551616) % 18446744073709551616 = more in
        takes_first side (omega (arith, none, light.second, light.total))
    takes_by Second side more =
        let all : new.second ≡ (old.second + size * 1 % 18446744073709551616) % 18446744073709551616 = more in
        takes_second side (omega (arith, all, short))

    -- the weight of the second side grows by the size as often as the number of the side says
    pub takes_one : (n : ℕ) → n ≡ side_number u.side → new.second ≡ (old.second + size * n % 18446744073709551616) % 18446744073709551616 → TakesOne r old new u
    takes_one n number more =
        takes_by u.side refl (more ∙ ap (λ m. (old.second + size * m % 18446744073709551616) % 18446744073709551616) number)
