use Rattle.sip_session.proofs.HonestAttempts.{none_or_said}
use Rattle.sip_session.proofs.HonestDropped.{dropped_rightly}
use Rattle.sip_session.proofs.honesty.honest_helpers_are_dropped_rightly.Goals as goal

pub returns : goal.returns
returns c = λ helpers task x attempts status of asked ends. dropped_rightly helpers task x of.some of.most of.room of.can attempts of.are asked (none_or_said helpers task x attempts status ends)
