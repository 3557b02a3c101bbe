-- A question is refused where the answer may be too wide, and a prover that begins has the lowest level.
use Rattle.std.proofs.Common.{◌≡◌, ℕ, ◌^◌, ◌≤◌, true, false, Some, Ok, Err, inr, nat_abs, refl, sym, ap, ◌∙◌, arith, rules}
use Rattle.sip_vector.specs.Streams.{int_sum, most_weight}
use Rattle.sip_vector.specs.Thresholds.{is_wide}
use Rattle.sip_helper.specs.KindRows.{too_many}
use Rattle.sip_above.specs.UnderWay.{weighed_by}
use Rattle.sip_above.proofs.OpenLarges.{asked_is, begun_has, can_be_marked, ready_by}
use Rattle.sip_above.proofs.under_way.LargeUnderWay.begin.Goals as goal

pub returns-then-is_wide-clause-asked : goal.returns-then-is_wide-clause-asked
returns-then-is_wide-clause-asked c =
    let e = c.of.ensures in
    (_, asked_is c.of.result c.args.large _ e.large e.made e.revealed e.owed)

pub returns-then-is_wide-clause-ready : goal.returns-then-is_wide-clause-ready
returns-then-is_wide-clause-ready c =
    let e = c.of.ensures in
    let v = weighed_by c.args.values.now c.args.weights.now in
    let wide : is_wide c.args.large.at_least (int_sum c.args.weights.now.numbers) ≡ true = search rules in
    ready_by c.args.values.now.depth (Some v) c.of.result c.args.large (Err too_many) (omega arith) e.large e.made e.revealed e.owed
    (inr (refl, v, refl, wide))

pub returns-in-Ok-Some-clause-asked : goal.returns-in-Ok-Some-clause-asked
returns-in-Ok-Some-clause-asked c =
    let e = c.of-in-Ok-Some.ensures in
    (_, asked_is c.of-in-Ok-Some.result c.args.large _ e.large e.made e.revealed e.owed)

pub returns-in-Ok-Some-clause-ready : goal.returns-in-Ok-Some-clause-ready
returns-in-Ok-Some-clause-ready c =
    let e = c.of-in-Ok-Some.ensures in
    let values = c.args.values.now in
    let weights = c.args.weights.now in
    let depth : ℕ = values.depth in
    let same : depth ≡ weights.depth = search rules in
    let narrow : is_wide c.args.large.at_least (int_sum weights.numbers) ≡ false = search rules in
    let light : nat_abs (int_sum weights.numbers) ≤ most_weight = omega (arith, ap nat_abs c.total.ensures.same, c.total.ensures.light, c.weight.ensures.same, c.weight.ensures.most) in
    let weighed = rw c.in-Ok-Some.field-0-is at c.in-Ok-Some.ensures.weighed in
    let can = can_be_marked depth values.numbers weights.numbers (omega arith) (omega arith) (c.depth.ensures.numbers ∙ ap (λ (d : ℕ). 2 ^ d) c.depth.ensures.same)
    (c.depth-3.ensures.numbers ∙ ap (λ (d : ℕ). 2 ^ d) (c.depth-3.ensures.same ∙ sym same)) (omega (arith, c.weight-2.ensures.light, c.weight-2.ensures.most)) light (weighed.0 refl) in
    ready_by depth (Some (weighed_by values weights)) c.of-in-Ok-Some.result c.args.large (Ok c.in-Ok-Some.prover) (omega arith) e.large e.made e.revealed e.owed
    (begun_has depth (weighed_by values weights) c.args.large can.0 c.in-Ok-Some.prover can.1 narrow (rw c.in-Ok-Some.field-0-is at c.in-Ok-Some.ensures.begun) (rw c.in-Ok-Some.field-0-is at c.in-Ok-Some.ensures.length))
