use Rattle.sip_sums.proofs.CallSteps.{finish_step, round_step, start_step}
use Rattle.sip_sums.proofs.laws.calls_are_steps_of_the_definition.Goals as goal

pub returns : goal.returns
returns c = record { start = start_step; round = round_step; finish = finish_step }
