use Rattle.sip_transcript.proofs.Converted.{copied_two, what_is_written}
use Rattle.sip_transcript.proofs.laws.one_run_is_converted.Goals as goal

pub returns-clause-written : goal.returns-clause-written
returns-clause-written c = λ bytes text left had writes. what_is_written bytes text left had writes

pub returns-clause-copied : goal.returns-clause-copied
returns-clause-copied c = λ bytes run two. copied_two bytes run two
