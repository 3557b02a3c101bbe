use Rattle.sip_session.proofs.JointTalks.{joint_talk}
use Rattle.sip_session.proofs.counting.each_talk_is_a_joint_strategys.Goals as goal

pub returns : goal.returns
returns c = joint_talk
