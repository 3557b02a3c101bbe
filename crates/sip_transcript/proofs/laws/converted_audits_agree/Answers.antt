use Rattle.sip_transcript.proofs.AlikeAudits.{convert_agrees, told_agree}
use Rattle.sip_transcript.proofs.laws.converted_audits_agree.Goals as goal

pub returns-clause-whole : goal.returns-clause-whole
returns-clause-whole c = λ form a b earlier later before now given other is x y. convert_agrees form a b earlier later before now given other x y is

pub returns-clause-told : goal.returns-clause-told
returns-clause-told c = λ form a b earlier later before now given other is x y. told_agree form a b earlier later before now given other x y is
