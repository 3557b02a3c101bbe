-- What is posed without a link comes to what is asked over one.
use Rattle.sip_steps.proofs.Posings.{comes, waits_for}
use Rattle.sip_steps.proofs.laws.posings_are_asked.Goals as goal

pub returns-clause-comes : goal.returns-clause-comes
returns-clause-comes c = comes

pub returns-clause-waits : goal.returns-clause-waits
returns-clause-waits c = waits_for
