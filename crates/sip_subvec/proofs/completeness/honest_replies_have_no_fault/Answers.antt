use Rattle.sip_subvec.proofs.HonestFronts.{front_unfinished}
use Rattle.sip_subvec.proofs.HonestLaws.{shown_unfinished}
use Rattle.sip_subvec.proofs.completeness.honest_replies_have_no_fault.Goals as goal

pub returns-clause-whole : goal.returns-clause-whole
returns-clause-whole c = shown_unfinished

pub returns-clause-front : goal.returns-clause-front
returns-clause-front c = front_unfinished
