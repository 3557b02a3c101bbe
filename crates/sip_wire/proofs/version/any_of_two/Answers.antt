use Rattle.std.proofs.Common.{rules, tests}
use Rattle.std.proofs.lemmas.Iterator.{YieldsList-from_slice}
use Rattle.std.proofs.lemmas.Iterator.Search.{any_from_yields_List}
use Rattle.sip_wire.specs.Versions.{is_of_two}
use Rattle.sip_wire.proofs.version.any_of_two.Goals as goal

pub returns : goal.returns
returns c = any_from_yields_List is_of_two _ _ _ c.any.ensures.ran (YieldsList-from_slice c.args.queries.now cc) (λ x b q k. search (rules, tests))
