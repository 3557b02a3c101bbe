-- What is looked up without a link comes to what is looked up over one.
use Rattle.sip_steps.proofs.Awaiting.{look_due}
use Rattle.sip_steps.proofs.Lookings.{look_said}
use Rattle.sip_steps.proofs.laws.lookups_are_asked.Goals as goal

pub returns-clause-comes : goal.returns-clause-comes
returns-clause-comes c stream events l said of is says = look_said l.version l.depth stream l.lookup l.root.seat l.root.value of.some of.stands events l.step is said says

pub returns-clause-waits : goal.returns-clause-waits
returns-clause-waits c stream events l of is hears = look_due l.version l.depth stream l.lookup l.root.seat l.root.value of.stands events l.step is hears
