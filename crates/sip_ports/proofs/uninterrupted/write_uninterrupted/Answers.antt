use Rattle.sip_ports.proofs.RetryLemmas.{settled_write, taken}
use Rattle.sip_ports.proofs.uninterrupted.write_uninterrupted.Goals as goal

pub returns-clause-bytes : goal.returns-clause-bytes
returns-clause-bytes g c =
    taken _ _ _ _ _ (settled_write g.W.Write.contents _ _ _ _ _ _ c.write_settled.ensures) c.some_taken.ensures
