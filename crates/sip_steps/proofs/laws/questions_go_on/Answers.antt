-- By the kind and the stage.
use Rattle.sip_steps.proofs.Judged.{goes_on, hears_only}
use Rattle.sip_steps.proofs.laws.questions_go_on.Goals as goal

pub returns-clause-goes_on : goal.returns-clause-goes_on
returns-clause-goes_on c a still_open silent = goes_on a still_open silent

pub returns-clause-one : goal.returns-clause-one
returns-clause-one c a hears = hears_only a hears
