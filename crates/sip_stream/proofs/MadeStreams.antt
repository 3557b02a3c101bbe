-- Made streams are legal and strict.
use Rattle.std.proofs.Common.{◌≡◌, ◌≢◌, ℕ, zero, suc, ◌+◌, ◌*◌, ◌/◌, ◌%◌, ◌^◌, ◌<◌, ◌≤◌, true, false, cond, ◌==◌, List, [], ◌∷◌, map, filter, sum_by, All, ℤ, pos, ◌≤ℤ◌, nat_abs, inl, inr, arith}
use Rattle.std.specs.List.{range_with_len}
use Rattle.std.proofs.Math.Nat.{mod-lt, pow-le-pow_right}
use Rattle.std.specs.Prelude.{nat_le}
use Rattle.std.proofs.lemmas.Bool.{cases_lt}
use Rattle.std.proofs.lemmas.Bool.Decides.{nat_tests}
use Rattle.std.proofs.lemmas.Int.{ints}
use Rattle.std.proofs.lemmas.List.Sums.{sum_by-cons}
use Rattle.std.proofs.lemmas.List.Elements.{All-nil, All-cons, All-head, All-tail, All-map, All-filter}
use Rattle.sip_vector.specs.declared.update.Side.{Side}
use Rattle.sip_vector.specs.declared.update.Side.TheVariants.{First, Second}
use Rattle.sip_vector.specs.declared.update.Update.{Update}
use Rattle.sip_vector.specs.Limits.{most_depth}
use Rattle.sip_vector.specs.Streams.{int_sum, same_side, of_side, weight, frequency, IsLegal, IsStrict}
use Rattle.sip_stream.specs.Layouts.{made_form, deepest_in}
use Rattle.sip_stream.specs.Made.{next_state, made_item, made_delta, made_update, made}

item_below : (depth x : ℕ) → 1 ≤ depth → made_item depth x < 2 ^ depth
unfolding made_item
item_below depth x some =
    let power : 2 ^ 1 ≤ 2 ^ depth = pow-le-pow_right (omega arith) some in
    let bit : x / 2 ^ 15 % 2 < 2 = mod-lt (x / 2 ^ 15) (omega arith) in
    elim (x / 2 ^ 8 % 4 == 0) as (λ b. cond b (x / 2 ^ 15 % 2) (x / 2 ^ 15 % 2 ^ depth) < 2 ^ depth) [
      | true ↦ omega (arith, power, bit)
      | false ↦ mod-lt (x / 2 ^ 15) (omega (arith, power))
    ]

delta_small : (x : ℕ) → nat_abs (made_delta x) ≤ 8
unfolding made_delta
delta_small x = let bits : x / 2 ^ 12 % 8 < 8 = mod-lt (x / 2 ^ 12) (omega arith) in omega (arith, bits)

delta_above : (x : ℕ) → pos 0 ≤ℤ made_delta x
unfolding made_delta
delta_above x = omega (arith, ints)

delta_some : (x : ℕ) → made_delta x ≢ pos 0
unfolding made_delta
delta_some x none = omega (arith, ints, none)

-- each made update is one of a state
all_made : (P : Update → Type 0) (depth : ℕ) → ((x : ℕ) → P (made_update depth x)) → (x count : ℕ) → All P (made x count depth)
all_made P depth each x zero = All-nil P
all_made P depth each x (suc count) = All-cons P (made_update depth (next_state x)) (made (next_state x) count depth) (each (next_state x)) (all_made P depth each (next_state x) count)

-- an update in front weighs its delta at most
weight_cons : (u : Update) (us : List Update) (side : Side) → weight (u ∷ us) side ≤ nat_abs u.delta + weight us side
weight_cons u us side =
    elim (same_side u.side side) as (λ b. sum_by (λ (v : Update). nat_abs v.delta) (cond b (u ∷ of_side us side) (of_side us side)) ≤ nat_abs u.delta + weight us side) [
      | true ↦ omega (arith, sum_by-cons (λ (v : Update). nat_abs v.delta) u (of_side us side))
      | false ↦ omega arith
    ]

-- each update weighs 8 at most
pub weight_made : (x count depth : ℕ) (side : Side) → weight (made x count depth) side ≤ 8 * count
weight_made x zero depth side = omega arith
weight_made x (suc count) depth side =
    omega (arith, weight_cons (made_update depth (next_state x)) (made (next_state x) count depth) side, delta_small (next_state x), weight_made (next_state x) count depth side)

pub made_is_legal : (x count depth : ℕ) → 1 ≤ depth → count ≤ 10_000_000 → IsLegal depth (made x count depth)
made_is_legal x count depth some most = record {
  items = all_made (λ u. u.item < 2 ^ depth) depth (λ y. item_below depth y some) x count;
  deltas = all_made (λ u. u.delta ≢ pos 0) depth delta_some x count;
  first = omega (arith, weight_made x count depth First, most);
  second = omega (arith, weight_made x count depth Second, most);
}

-- a sum of numbers that are not negative is not negative
int_sum_above : (zs : List ℤ) → All (λ z. pos 0 ≤ℤ z) zs → pos 0 ≤ℤ int_sum zs
int_sum_above [] above = omega (arith, ints)
int_sum_above (z ∷ zs) above =
    omega (arith, ints, All-head (λ z. pos 0 ≤ℤ z) z zs above, int_sum_above zs (All-tail (λ z. pos 0 ≤ℤ z) z zs above))

-- an item's frequency, where no delta is negative
frequency_above : (us : List Update) (side : Side) (item : ℕ) → All (λ u. pos 0 ≤ℤ u.delta) us → pos 0 ≤ℤ frequency us side item
frequency_above us side item above =
    let of_item = filter (λ (u : Update). u.item == item) us in
    int_sum_above (map (λ (u : Update). u.delta) (of_side of_item side)) (All-map (λ z. pos 0 ≤ℤ z) (λ (u : Update). u.delta) (of_side of_item side) (
    All-filter (λ (u : Update). same_side u.side side) (λ (u : Update). pos 0 ≤ℤ u.delta) of_item (
    All-filter (λ (u : Update). u.item == item) (λ (u : Update). pos 0 ≤ℤ u.delta) us above)))

all_items : (P : ℕ → Type 0) → ((i : ℕ) → P i) → (is : List ℕ) → All P is
all_items P each [] = All-nil P
all_items P each (i ∷ is) = All-cons P i is (each i) (all_items P each is)

pub made_is_strict : (x count depth : ℕ) (side : Side) → IsStrict depth (made x count depth) side
made_is_strict x count depth side =
    let stream = made x count depth in
    let above : All (λ u. pos 0 ≤ℤ u.delta) stream = all_made (λ u. pos 0 ≤ℤ u.delta) depth delta_above x count in
    All-map (λ a. pos 0 ≤ℤ a) (frequency stream side) (range_with_len 0 (2 ^ depth)) (
    all_items (λ i. pos 0 ≤ℤ frequency stream side i) (λ i. frequency_above stream side i above) (range_with_len 0 (2 ^ depth)))

-- a made stream's form has room for its items
pub made_form_deep : (depth : ℕ) → depth ≤ most_depth → depth ≤ deepest_in (made_form depth)
made_form_deep depth most = elim (cases_lt 32 depth) [
  | inl above ↦ let wide : nat_le depth 32 ≡ false = grind (arith, nat_tests) in rw wide most
  | inr most_narrow ↦ let narrow : nat_le depth 32 ≡ true = grind (arith, nat_tests) in rw narrow most_narrow
]
