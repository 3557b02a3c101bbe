-- The sum that a seat for heavy hitters keeps is the total of its side, and the updates of a legal stream keep it within the greatest weight.
use Rattle.std.proofs.Common.{◌≡◌, ℕ, zero, suc, ◌+◌, ◌-◌, ◌*◌, true, false, ◌^◌, ◌<◌, ◌≤◌, ℤ, pos, ◌+ℤ◌, nat_abs, List, [], ◌∷◌, ◌++◌, length, map, get_or, take, fold, sum_by, All, refl, sym, ap, ◌∙◌, subst, arith}
use Rattle.std.specs.Prelude.{IsTrue}
use Rattle.std.proofs.Math.Nat.{pow-succ'}
use Rattle.std.proofs.lemmas.Int.{ints}
use Rattle.std.proofs.lemmas.List.{length-map}
use Rattle.std.proofs.lemmas.List.Sums.{sum_by-cons}
use Rattle.sip_field.specs.Moduli.{m61_modulus}
use Rattle.sip_tree.specs.Blocks.{total_after, weight_after}
use Rattle.sip_tree.specs.StandsFor.{AugRootStandsFor, SplitRootStandsFor}
use Rattle.sip_vector.specs.declared.query.Query.{Query}
use Rattle.sip_vector.specs.declared.query.Query.TheVariants.{Sub, Range, F2, Inner, Heavy, Share, Above}
use Rattle.sip_vector.specs.declared.update.Side.{Side}
use Rattle.sip_vector.specs.declared.update.Side.TheVariants.{First, Second}
use Rattle.sip_vector.specs.declared.update.Update.{Update}
use Rattle.sip_vector.specs.Splits.{weights}
use Rattle.sip_vector.specs.Streams.{int_sum, same_side, of_side, total, weight, most_weight, vector, IsLegal}
use Rattle.sip_vector.specs.Trees.{Counted, leaf, up3}
use Rattle.sip_vector.proofs.Sides.{total-is, weight-append}
use Rattle.sip_vector.proofs.Splits.{weights_sum}
use Rattle.sip_vector.proofs.Sums.{nat_abs-add-le}
use Rattle.sip_heavy.specs.HonestMarks.{mark_leaves}
use Rattle.sip_heavy.proofs.MarkLeaves.{long_marks}
use Rattle.sip_verifier.specs.QuerySeats.{HaveRoom, RunningNumbers, RunsOn, Seated, StandsFor, aug_root_is, concerns, is_heavy_of, split_root_is}
use Rattle.sip_verifier.specs.Seats.{AreSeats, Seating}
use Rattle.sip_verifier.proofs.Seating.{same_true}

-- ---- the count at the top of the augmented tree

abbrev counts_of : List Counted → ℤ
counts_of level = int_sum (map (λ (n : Counted). n.count) level)

-- a level has half as many nodes as the one below, and the same sum of counts
up_counts : (p r : ℕ) (level : List Counted) (n : ℕ) → length level ≡ 2 * n → (length (up3 p level r) ≡ n) × (counts_of (up3 p level r) ≡ counts_of level)
up_counts p r [] n long = (omega (arith, long), refl)
up_counts p r (x ∷ []) n long = absurd (omega (arith, long))
up_counts p r (x ∷ y ∷ level) n long =
    let rest : length level ≡ 2 * (n - 1) = omega (arith, long) in
    let above = up_counts p r level (n - 1) rest in
    (omega (arith, long, above.0), omega (arith, ints, above.1))

top_counts : (p : ℕ) (challenges : List ℕ) (level : List Counted) (d : Counted) → length level ≡ 2 ^ length challenges
    → (get_or (fold (up3 p) level challenges) 0 d).count ≡ counts_of level
top_counts p [] [] d long = absurd (omega (arith, long))
top_counts p [] (x ∷ []) d long = omega (arith, ints)
top_counts p [] (x ∷ y ∷ level) d long = absurd (omega (arith, long))
top_counts p (r ∷ challenges) level d long =
    let twice : length level ≡ 2 * 2 ^ length challenges = long ∙ pow-succ' 2 (length challenges) in
    let above = up_counts p r level (2 ^ length challenges) twice in
    top_counts p challenges (up3 p level r) d above.0 ∙ above.1

leaf_counts : (p : ℕ) (numbers : List ℤ) → counts_of (map (leaf p) numbers) ≡ int_sum numbers
leaf_counts p [] = refl
leaf_counts p (a ∷ numbers) = ap (λ z. a +ℤ z) (leaf_counts p numbers)

-- the sum that is kept is that of the numbers
pub root_total : (p : ℕ) (block : List ℕ) (hash : ℕ) (total : ℤ) (numbers : List ℤ) → AugRootStandsFor p block hash total numbers → total ≡ int_sum numbers
root_total p block hash total numbers stands =
    let long : length (map (leaf p) numbers) ≡ 2 ^ length block = length-map numbers (leaf p) ∙ stands.whole in
    ap (λ (n : Counted). n.count) stands.same ∙ top_counts p block (map (leaf p) numbers) (leaf p (pos 0)) long ∙ leaf_counts p numbers

-- and the weight that is kept is the sum of the weights
mark_counts : (p : ℕ) (values weights : List ℤ) → length values ≡ length weights → counts_of (mark_leaves p values weights) ≡ int_sum weights
mark_counts p [] [] long = refl
mark_counts p [] (w ∷ weights) long = absurd (omega (arith, long))
mark_counts p (a ∷ values) [] long = absurd (omega (arith, long))
mark_counts p (a ∷ values) (w ∷ weights) long = ap (λ z. w +ℤ z) (mark_counts p values weights (omega (arith, long)))

pub split_total : (p : ℕ) (block : List ℕ) (hash weight : ℕ) (values weights : List ℤ) → SplitRootStandsFor p block hash weight values weights → pos weight ≡ int_sum weights
split_total p block hash weight values weights stands =
    let same = stands.whole ∙ sym stands.weighed in
    let long : length (mark_leaves p values weights) ≡ 2 ^ length block = long_marks p values weights same ∙ stands.weighed in
    ap (λ (n : Counted). n.count) stands.same ∙ top_counts p block (mark_leaves p values weights) (leaf p (pos 0)) long ∙ mark_counts p values weights same

-- it is that of a side which concerns the query
pub weight_kept : (depth : ℕ) (stream : List Update) (query : Query) (block : List ℕ) (side : Side) (hash kept : ℕ) → All (λ (u : Update). u.item < 2 ^ depth) stream
    → RunsOn depth stream query block (split_root_is hash kept) → IsTrue (concerns query side) → kept ≡ weight stream side
weight_kept depth stream (Sub lo hi) block side hash kept below runs own = absurd runs
weight_kept depth stream (Range side' lo hi) block side hash kept below runs own = absurd runs
weight_kept depth stream (F2 side') block side hash kept below runs own = absurd runs
weight_kept depth stream Inner block side hash kept below runs own = absurd runs
weight_kept depth stream (Heavy side' least) block side hash kept below runs own = absurd runs
weight_kept depth stream (Share side' num den) block side hash kept below runs own = absurd runs
weight_kept depth stream (Above side' least) block side hash kept below runs own =
    ap nat_abs (split_total m61_modulus block hash kept (vector depth stream side') (weights depth stream side') runs ∙ sym (weights_sum depth stream side' below))
    ∙ ap (weight stream) (sym (same_true side side' own))

-- ---- a sum behind more updates

abbrev pub size : Update → ℕ
size u = nat_abs u.delta

pub light_after : (updates : List Update) (total : ℤ) (w k : ℕ) → nat_abs total ≤ w → nat_abs (total_after total (take k updates)) ≤ w + sum_by size updates
light_after updates total w zero light = omega (arith, light)
light_after [] total w (suc k) light = omega (arith, light)
light_after (u ∷ updates) total w (suc k) light =
    let next : nat_abs (total +ℤ u.delta) ≤ w + size u = omega (arith, light, nat_abs-add-le total u.delta) in
    omega (arith, light_after updates (total +ℤ u.delta) (w + size u) k next, sum_by-cons size u updates)

pub weight_after_is : (updates : List Update) (w : ℕ) → weight_after w updates ≡ w + sum_by size updates
weight_after_is [] w = omega arith
weight_after_is (u ∷ updates) w = omega (arith, weight_after_is updates (w + size u), sum_by-cons size u updates)

-- a sum of deltas is no greater than their weight
pub light_sum : (updates : List Update) → nat_abs (int_sum (map (λ (u : Update). u.delta) updates)) ≤ sum_by size updates
light_sum [] = omega arith
light_sum (u ∷ updates) =
    let rest = int_sum (map (λ (v : Update). v.delta) updates) in
    omega (arith, light_sum updates, nat_abs-add-le u.delta rest, sum_by-cons size u updates)

light_side : (depth : ℕ) (stream : List Update) (side : Side) → IsLegal depth stream → weight stream side ≤ most_weight
light_side depth stream First legal = legal.first
light_side depth stream Second legal = legal.second

-- ---- seats

-- a seat for heavy hitters keeps its side's total
pub seat_total : (depth : ℕ) (stream : List Update) (s : Seated) (side : Side) (hash : ℕ) (sum : ℤ) → All (λ (u : Update). u.item < 2 ^ depth) stream
    → StandsFor depth stream s → IsTrue (is_heavy_of s.query side) → s.running ≡ aug_root_is hash sum → sum ≡ total stream side
seat_total depth stream s side hash sum below stands heavy is =
    by_query s.query heavy (subst (λ (r : RunningNumbers). RunsOn depth stream s.query s.block r) is stands)
  where
    by_side : (own : Side) → same_side side own ≡ true → AugRootStandsFor m61_modulus s.block hash sum (vector depth stream own) → sum ≡ total stream side
    by_side own same runs =
        root_total m61_modulus s.block hash sum (vector depth stream own) runs
        ∙ ap (λ (t : Side). int_sum (vector depth stream t)) (sym (same_true side own same))
        ∙ sym (total-is depth stream side below)

    by_query : (query : Query) → IsTrue (is_heavy_of query side) → RunsOn depth stream query s.block (aug_root_is hash sum) → sum ≡ total stream side
    by_query (Sub lo hi) own runs = absurd runs
    by_query (Range side' lo hi) own runs = absurd runs
    by_query (F2 side') own runs = absurd runs
    by_query Inner own runs = absurd runs
    by_query (Heavy side' least) own runs = by_side side' own runs
    by_query (Share side' num den) own runs = by_side side' own runs
    by_query (Above side' least) own runs = absurd runs

-- and no weight
no_weight : (depth : ℕ) (stream : List Update) (query : Query) (block : List ℕ) (side : Side) (hash kept : ℕ) → IsTrue (is_heavy_of query side) → RunsOn depth stream query block (split_root_is hash kept) → ⊥
no_weight depth stream (Sub lo hi) block side hash kept heavy runs = absurd runs
no_weight depth stream (Range side' lo hi) block side hash kept heavy runs = absurd runs
no_weight depth stream (F2 side') block side hash kept heavy runs = absurd runs
no_weight depth stream Inner block side hash kept heavy runs = absurd runs
no_weight depth stream (Heavy side' least) block side hash kept heavy runs = absurd runs
no_weight depth stream (Share side' num den) block side hash kept heavy runs = absurd runs
no_weight depth stream (Above side' least) block side hash kept heavy runs = absurd (let no : false ≡ true = heavy in cc)

-- seats have room for what a legal stream goes on with
pub legal_room : (depth : ℕ) (queries : List Query) (blocks : List (List ℕ)) (stream updates : List Update) (s : Seating)
    → AreSeats depth queries blocks stream s → All (λ (u : Update). u.item < 2 ^ depth) stream → IsLegal depth (stream ++ updates) → (side : Side) → HaveRoom s.seats updates side
legal_room depth queries blocks stream updates s are below legal side = λ k d lt heavy.
    let seat = get_or s.seats k d in
    let own = of_side updates side in
    let stands = are.stand k d lt in
    record {
      sums = λ hash sum is n few.
          let kept = seat_total depth stream seat side hash sum below stands heavy is in
          let before : nat_abs sum ≤ weight stream side = subst (λ z. nat_abs z ≤ weight stream side) (sym kept) (light_sum (of_side stream side)) in
          omega (arith, light_after own sum (weight stream side) n before, weight-append stream updates side, light_side depth (stream ++ updates) side legal);
      weights = λ hash kept is. absurd (no_weight depth stream seat.query seat.block side hash kept heavy (subst (λ (r : RunningNumbers). RunsOn depth stream seat.query seat.block r) is stands));
    }
