use Rattle.sip_stream.proofs.ReadBack.{fault_at-spelled, read_back, update_at-spelled}
use Rattle.sip_stream.proofs.laws.spellings.spellings_are_read.Goals as goal

pub returns-clause-update : goal.returns-clause-update
returns-clause-update c = update_at-spelled

pub returns-clause-fault : goal.returns-clause-fault
returns-clause-fault c = fault_at-spelled

pub returns-clause-next : goal.returns-clause-next
returns-clause-next c = read_back
