use Rattle.sip_counts.proofs.AnyOrder.{plan_of_use}
use Rattle.sip_counts.proofs.late.each_use_is_a_plans.Goals as goal

pub returns : goal.returns
returns c = plan_of_use
