use Rattle.sip_questions.proofs.Refused.{all_refuse}
use Rattle.sip_questions.proofs.laws.seats_refuse_what_the_stream_does.Goals as goal

pub returns : goal.returns
returns c = λ depth stream weights seats below are stand. all_refuse depth stream weights below are 1 seats stand
