use Rattle.sip_heavy.proofs.StatedFrames.{end_read, frames_read}
use Rattle.sip_heavy.proofs.laws.frames_are_read_one_after_another.Goals as goal

pub returns-clause-nodes : goal.returns-clause-nodes
returns-clause-nodes c asked s frames rest are = frames_read asked.version asked.modulus asked.query s frames rest are

pub returns-clause-end : goal.returns-clause-end
returns-clause-end c asked s rest = end_read asked.version asked.modulus asked.query s rest
