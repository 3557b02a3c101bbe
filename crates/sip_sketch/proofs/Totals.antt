-- A side's total before and after more updates, alone and with the greatest weight added.
use Rattle.std.proofs.Common.{◌≡◌, ℕ, ◌+◌, ◌-◌, ◌^◌, ◌<◌, ◌≤◌, Bool, true, false, ◌||◌, ℤ, pos, negsuc, ◌+ℤ◌, nat_abs, List, [], ◌∷◌, sum_by, refl, arith}
use Rattle.std.specs.Prelude.{◌-ℤ◌, int_lt}
use Rattle.std.specs.List.{list_any}
use Rattle.std.proofs.lemmas.Int.{ints}
use Rattle.std.proofs.lemmas.List.Sums.{sum_by-cons}
use Rattle.sip_tree.specs.Blocks.{total_after}
use Rattle.sip_vector.specs.Streams.{most_weight}
use Rattle.sip_vector.specs.declared.update.Update.{Update}
use Rattle.sip_verifier.proofs.SeatTotals.{size}
use Rattle.sip_sketch.specs.declared.cursor.Size.TheVariants.{Long}
use Rattle.sip_sketch.specs.Fields.{IsValue}
use Rattle.sip_sketch.specs.Sketches.{total_field}
use Rattle.sip_sketch.proofs.Whole.{ranged_from, ranged_value}

-- a total that is not below the least one is told by its sum with the greatest weight
pub told_back : (t : ℤ) → nat_abs t ≤ most_weight → pos (nat_abs (t +ℤ pos most_weight)) -ℤ pos most_weight ≡ t
told_back t few = omega (arith, ints, few)

pub told_small : (t : ℤ) → nat_abs t ≤ most_weight → nat_abs (t +ℤ pos most_weight) ≤ most_weight + most_weight
told_small t few = omega (arith, ints, few)

-- updates change a total by their weight at the most
pub moved : (updates : List Update) (total : ℤ) → nat_abs (total_after total updates -ℤ total) ≤ sum_by size updates
moved [] total = omega (arith, ints)
moved (u ∷ updates) total =
    let rest = moved updates (total +ℤ u.delta) in
    omega (arith, ints, rest, sum_by-cons size u updates)

is_positive : (d : ℤ) → int_lt d (pos 0) ≡ false → d ≡ pos (nat_abs d)
is_positive (pos n) none = refl
is_positive (negsuc n) none = absurd cc

pub neither : (a b : Bool) → (a || b) ≡ false → (a ≡ false) × (b ≡ false)
neither true b none = absurd cc
neither false b none = (refl, none)

-- where no delta is below 0, by their weight
pub risen : (updates : List Update) (total : ℤ) → list_any (λ (u : Update). int_lt u.delta (pos 0)) updates ≡ false
    → total_after total updates ≡ total +ℤ pos (sum_by size updates)
risen [] total none = omega (arith, ints)
risen (u ∷ updates) total none =
    let both = neither (int_lt u.delta (pos 0)) (list_any (λ (v : Update). int_lt v.delta (pos 0)) updates) none in
    let here = is_positive u.delta both.0 in
    let rest = risen updates (total +ℤ u.delta) both.1 in
    omega (arith, ints, here, rest, sum_by-cons size u updates)

-- ---- the same of totals with the greatest weight

pub told_moved : (t t' : ℤ) (v : ℕ) → nat_abs t ≤ most_weight → nat_abs t' ≤ most_weight → nat_abs (t' -ℤ t) ≤ v
    → (nat_abs (t' +ℤ pos most_weight) ≤ nat_abs (t +ℤ pos most_weight) + v) × (nat_abs (t +ℤ pos most_weight) ≤ nat_abs (t' +ℤ pos most_weight) + v)
told_moved t t' v few few' near = (omega (arith, ints, few, few', near), omega (arith, ints, few, few', near))

pub told_risen : (t t' : ℤ) (v : ℕ) → nat_abs t ≤ most_weight → nat_abs t' ≤ most_weight → t' ≡ t +ℤ pos v
    → nat_abs (t' +ℤ pos most_weight) ≡ nat_abs (t +ℤ pos most_weight) + v
told_risen t t' v few few' is = omega (arith, ints, few, few', is)

-- a total is a value of its field behind more updates
pub total_more : (w v : ℕ) (is_open more : Bool) (x y : ℕ) → IsValue (total_field w is_open) x → y < 256 ^ 8
    → y ≤ x + v → x ≤ y + v → ((is_open || more) ≡ false → y ≡ x + v) → IsValue (total_field (w + v) (is_open || more)) y
total_more w v true more x y value room up down exact =
    let (low, high) = ranged_from Long (most_weight - w) (most_weight + w) x value in
    ranged_value Long (most_weight - (w + v)) (most_weight + (w + v)) y (omega (arith, low, down)) (omega (arith, high, up)) room
total_more w v false true x y value room up down exact =
    let (low, high) = ranged_from Long (most_weight + w) (most_weight + w) x value in
    ranged_value Long (most_weight - (w + v)) (most_weight + (w + v)) y (omega (arith, low, down)) (omega (arith, high, up)) room
total_more w v false false x y value room up down exact =
    let (low, high) = ranged_from Long (most_weight + w) (most_weight + w) x value in
    let is = exact refl in
    ranged_value Long (most_weight + (w + v)) (most_weight + (w + v)) y (omega (arith, low, is)) (omega (arith, high, is)) room
