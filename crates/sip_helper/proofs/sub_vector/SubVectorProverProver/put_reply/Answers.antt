-- A level that is left has siblings.
use Rattle.std.proofs.Common.{length}
use Rattle.sip_helper.proofs.SubVectors.{tall}
use Rattle.sip_helper.proofs.sub_vector.SubVectorProverProver.put_reply.Goals as goal

pub put_honest-requires-clause-level : goal.put_honest-requires-clause-level
put_honest-requires-clause-level g c = tall c.requires.stands.0 (length c.args.revealed.now) c.args.self.now.prover.level c.requires.stands.4.height c.requires.stands.3
