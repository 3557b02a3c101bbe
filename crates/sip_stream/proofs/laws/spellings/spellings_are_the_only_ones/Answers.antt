use Rattle.sip_stream.proofs.PassedLines.{line_spelled}
use Rattle.sip_stream.proofs.PassedRecords.{record_spelled}
use Rattle.sip_stream.proofs.laws.spellings.spellings_are_the_only_ones.Goals as goal

pub returns : goal.returns
returns c = record { records = record_spelled; lines = line_spelled }
