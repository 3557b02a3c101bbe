use Rattle.sip_stream.proofs.LegalRecords.{records_legal}
use Rattle.sip_verifier.proofs.counting.records_are_legal.Goals as goal

pub returns : goal.returns
returns c = λ i x. records_legal i.depth i.form x.stream
