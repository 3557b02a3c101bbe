use Rattle.std.proofs.Common.{refl, ap, ◌∙◌, arith}
use Rattle.sip_words.specs.Plan.{source_ports}
use Rattle.sip_words.proofs.plan.PortPlan.of.Goals as goal

pub returns-in-Gen : goal.returns-in-Gen
returns-in-Gen c = λ spells.
    let s = rw c.in-Gen.is at spells in
    let n = s.0.shaped 0 (omega arith) in
    let k = s.0.shaped 1 (omega arith) in
    let least = s.0.least in
    let made = c.numbers.ensures n.0 k.0 n.2 k.2 (omega arith) n.3 k.3 in
    rw c.in-Gen.is (n.0, k.0, n.2, k.1, n.3, k.3, c.source.ensures ∙ ap source_ports (c.unwrap_or.ensures ∙ rw made refl))
