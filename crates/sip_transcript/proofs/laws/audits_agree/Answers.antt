use Rattle.sip_transcript.proofs.AgreedAudits.{audit_agrees}
use Rattle.sip_transcript.proofs.laws.audits_agree.Goals as goal

pub returns : goal.returns
returns c = λ task x before now status a earlier later given stored audits. audit_agrees task x before now status a stored earlier later given audits
