use Rattle.std.proofs.Common.{◌≡◌, ℕ, ℤ, List, ◌∷◌, pos, ◌+◌, ◌≤◌, ◌+ℤ◌, nat_abs, FitsSigned, w64, to_z, of_z, drop, get_or, ap, ◌∙◌, arith}
use Rattle.std.proofs.lemmas.List.{drop_more, drop_all}
use Rattle.sip_vector.specs.Streams.{most_weight}
use Rattle.sip_vector.specs.declared.update.Entry.{Entry}
use Rattle.sip_vector.specs.inside.Gathered.{abs_sum}
use Rattle.sip_vector.proofs.Kept.{fits, same_z}
use Rattle.sip_vector.proofs.Sums.{nat_abs-add-le}
use Rattle.sip_sums.specs.Claims.{range_sum, value_within}
use Rattle.sip_sums.proofs.ClaimWalks.{within-light, sums-on, no_rest, from_nothing}
use Rattle.sip_sums.proofs.claims.sum_within.Goals as goal

-- what one entry does to the sum
record Step (lo hi : ℕ) (sum all x : ℤ) (rest : List Entry) : Type 0 where
  same : to_z w64 (of_z w64 x) ≡ x
  total_fits : FitsSigned w64 (sum +ℤ x)
  total : to_z w64 (of_z w64 (sum +ℤ x)) ≡ sum +ℤ x
  room : nat_abs (sum +ℤ x) + abs_sum rest ≤ most_weight
  sums : (sum +ℤ x) +ℤ range_sum lo hi rest ≡ all

step : (lo hi : ℕ) (sum all x : ℤ) (e : Entry) (rest : List Entry) → x ≡ value_within lo hi e → nat_abs sum + abs_sum (e ∷ rest) ≤ most_weight
    → sum +ℤ range_sum lo hi (e ∷ rest) ≡ all → Step lo hi sum all x rest
step lo hi sum all x e rest is room sums =
    let light : nat_abs x ≤ nat_abs e.value = rw is (within-light lo hi e) in
    let add = nat_abs-add-le sum x in
    let next : nat_abs (sum +ℤ x) + abs_sum rest ≤ most_weight = omega (arith, light, add, room) in
    record {
      same = same_z x (omega (arith, light, room));
      total_fits = fits (sum +ℤ x) (omega (arith, next));
      total = same_z (sum +ℤ x) (omega (arith, next));
      room = next;
      sums = sums-on sum x (range_sum lo hi rest) all (ap (λ z. sum +ℤ (z +ℤ range_sum lo hi rest)) is ∙ sums);
    }

its_step : (c : goal.After-value_within-sum)
    → Step c.args.lo c.args.hi (to_z w64 c.loop-entry.sum-bits) (range_sum c.args.lo c.args.hi c.args.entries.now) c.value_within-sum.result (drop (c.loop-entry.entry-index + 1) c.args.entries.now)
its_step c =
    let es = c.args.entries.now in
    let d : Entry = record { index = 0; value = pos 0 } in
    let more = drop_more es c.loop-entry.entry-index d c.loop-entry-test.true in
    step _ _ _ _ _ (get_or es c.loop-entry.entry-index d) _ c.value_within-sum.ensures (rw more at c.loop-entry.invariant.room) (rw more at c.loop-entry.invariant.sum)

pub loop-entry-init : goal.loop-entry-init
loop-entry-init c = record { sum = from_nothing _; room = omega (arith, c.requires) }

pub overflow_add-sum : goal.overflow_add-sum
overflow_add-sum c = let s = its_step c in rw s.same s.total_fits

pub loop-entry-preserved : goal.loop-entry-preserved
loop-entry-preserved c = let s = its_step c in rw (s.same, s.total) (record { sum = s.sums; room = s.room })

pub returns-clause-sum : goal.returns-clause-sum
returns-clause-sum c =
    let rest = drop_all c.loop-entry.entry-index c.args.entries.now (omega (arith, c.loop-entry-test.false)) in
    no_rest _ _ (rw rest at c.loop-entry.invariant.sum)

pub returns-clause-fits : goal.returns-clause-fits
returns-clause-fits c = omega (arith, c.loop-entry.invariant.room)
