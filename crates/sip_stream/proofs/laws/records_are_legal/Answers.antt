use Rattle.sip_stream.proofs.LegalRecords.{records_legal}
use Rattle.sip_stream.proofs.laws.records_are_legal.Goals as goal

pub returns : goal.returns
returns c = records_legal
