use Rattle.sip_wire.proofs.Asking.{query-fits, needed-speaks}
use Rattle.sip_wire.proofs.laws.queries_have_spellings.Goals as goal

pub returns-clause-fits : goal.returns-clause-fits
returns-clause-fits c = query-fits

pub returns-clause-least : goal.returns-clause-least
returns-clause-least c = needed-speaks
