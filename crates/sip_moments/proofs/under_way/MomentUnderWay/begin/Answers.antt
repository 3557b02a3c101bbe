-- A prover that begins stands for the moment.
use Rattle.std.proofs.Common.{◌≡◌, ℕ, refl, sym, ap, subst, ◌∙◌, arith}
use Rattle.std.specs.Prelude.{IfSome}
use Rattle.sip_field.specs.Moduli.{m61_modulus}
use Rattle.sip_vector.specs.Vectors.{contents}
use Rattle.sip_helper.specs.Shown.{shown_vector}
use Rattle.sip_helper.specs.Turns.{whole_of}
use Rattle.sip_moments.specs.Honest.{Proving, begun}
use Rattle.sip_moments.proofs.OpenMoments.{asked_is, ready_by, same_depth}
use Rattle.sip_moments.proofs.under_way.MomentUnderWay.begin.Goals as goal

pub returns-in-Some-clause-asked : goal.returns-in-Some-clause-asked
returns-in-Some-clause-asked c =
    let e = c.start.ensures in
    (_, asked_is c.start.result c.args.side c.args.degree e.side e.degree e.revealed e.owed)

pub returns-in-None-clause-asked : goal.returns-in-None-clause-asked
returns-in-None-clause-asked c =
    let e = c.refused.ensures in
    (_, asked_is c.refused.result c.args.side c.args.degree e.side e.degree e.revealed e.owed)

pub returns-in-Some-clause-ready : goal.returns-in-Some-clause-ready
returns-in-Some-clause-ready c =
    let helper = c.args.core.now in
    let depth : ℕ = c.args.depth in
    let q = c.start.result in
    let v = contents c.in-Some.vector.now in
    let deep : v.depth ≡ depth = same_depth (whole_of helper.heard) v.depth depth c.in-Some.ensures.depth c.requires.whole in
    let begins =
    subst (λ (k : ℕ). IfSome q.prover (λ (x : Proving). x ≡ begun m61_modulus k v.numbers))
    (sym c.start.ensures.degree) c.start.ensures.begun in
    ready_by helper depth q v c.requires.whole (omega arith)
    (ap (shown_vector helper) c.start.ensures.side ∙ c.in-Some.ensures.shown) deep
    c.start.ensures.revealed c.start.ensures.owed begins c.start.ensures.level
