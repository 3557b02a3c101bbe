use Rattle.sip_transcript.proofs.Telling.{one_head}
use Rattle.sip_transcript.proofs.laws.a_transcript_has_one_head.Goals as goal

pub returns : goal.returns
returns c = λ version other depth levels asks others behind rest run also same. one_head version other depth levels asks others behind rest run.each also.each same
