use Rattle.std.proofs.Common.{length, ap, sym, ◌∙◌}
use Rattle.std.proofs.lemmas.Bool.{ltb-true, ltb-false}
use Rattle.sip_wire.specs.declared.message.Node.{Node}
use Rattle.sip_heavy.proofs.LightNodes.{count_there, none_there}
use Rattle.sip_heavy.proofs.spots.count_at.Goals as goal

pub returns-in-Some-clause-exact : goal.returns-in-Some-clause-exact
returns-in-Some-clause-exact c =
    let node = c.in-Some.node.now in
    let got = c.in-Some.ensures.lookup in
    ap (λ (x : Node). x.count) got.1 ∙ count_there c.args.place c.args.spots.now node (ltb-true c.args.place (length c.args.spots.now) (sym got.0))

pub returns-in-None-clause-exact : goal.returns-in-None-clause-exact
returns-in-None-clause-exact c = none_there c.args.place c.args.spots.now (ltb-false c.args.place (length c.args.spots.now) (sym c.in-None.ensures.lookup.0))
