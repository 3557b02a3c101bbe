-- A refusal for want of memory stands for any side.
use Rattle.std.proofs.Common.{Err, inl, refl}
use Rattle.sip_helper.specs.KindRows.{want_of_memory}
use Rattle.sip_above.proofs.OpenLarges.{asked_is, ready_by}
use Rattle.sip_above.proofs.under_way.LargeUnderWay.refused.Goals as goal

pub returns-clause-asked : goal.returns-clause-asked
returns-clause-asked c =
    let e = c.of.ensures in
    asked_is c.of.result c.args.large _ e.large e.made e.revealed e.owed

pub returns-clause-ready : goal.returns-clause-ready
returns-clause-ready c = λ depth side some.
    let e = c.of.ensures in
    ready_by depth side c.of.result c.args.large (Err want_of_memory) some e.large e.made e.revealed e.owed (inl refl)
