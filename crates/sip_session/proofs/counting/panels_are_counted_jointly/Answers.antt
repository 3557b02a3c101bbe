use Rattle.sip_session.proofs.JointPanels.{joint_counted}
use Rattle.sip_session.proofs.counting.panels_are_counted_jointly.Goals as goal

pub returns : goal.returns
returns c =
    λ helpers task x attempts some can deep are.
    joint_counted helpers task x some can deep attempts are
