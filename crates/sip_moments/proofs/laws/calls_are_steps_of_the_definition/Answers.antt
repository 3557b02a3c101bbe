use Rattle.sip_moments.proofs.CallSteps.{start_step, round_step, reveal_step, finish_step}
use Rattle.sip_moments.proofs.laws.calls_are_steps_of_the_definition.Goals as goal

pub returns : goal.returns
returns c = record { start = start_step; round = round_step; reveal = reveal_step; finish = finish_step }
