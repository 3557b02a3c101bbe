use Rattle.sip_stream.proofs.SpelledRecords.{length-record}
use Rattle.sip_stream.proofs.SpelledLines.{text, line-text, text-lacks, length-line}
use Rattle.sip_stream.proofs.laws.spellings.spellings_are_short.Goals as goal

pub returns-clause-records : goal.returns-clause-records
returns-clause-records c = length-record

pub returns-clause-lines : goal.returns-clause-lines
returns-clause-lines c = length-line

pub returns-clause-feed : goal.returns-clause-feed
returns-clause-feed c = λ u item fits. (text u, line-text u, text-lacks u item fits)
