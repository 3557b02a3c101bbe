use Rattle.sip_sketch.proofs.Crashes.{begin_keeps, crash_leaves}
use Rattle.sip_sketch.proofs.laws.a_begin_leaves_whole_files.Goals as goal

pub returns-clause-crash : goal.returns-clause-crash
returns-clause-crash c = crash_leaves

pub returns-clause-kept : goal.returns-clause-kept
returns-clause-kept c = begin_keeps
