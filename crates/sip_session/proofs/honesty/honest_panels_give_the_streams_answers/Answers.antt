use Rattle.sip_session.proofs.HonestAnswers.{answers_are_own}
use Rattle.sip_session.proofs.honesty.honest_panels_give_the_streams_answers.Goals as goal

pub returns : goal.returns
returns c = λ helpers task x attempts status of asked ends. answers_are_own helpers task x of.some of.most of.room of.can attempts status of.are asked ends
