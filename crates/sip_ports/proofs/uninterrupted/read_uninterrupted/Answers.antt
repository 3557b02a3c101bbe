use Rattle.sip_ports.proofs.RetryLemmas.{settled_read}
use Rattle.sip_ports.proofs.uninterrupted.read_uninterrupted.Goals as goal

pub returns-clause-bytes : goal.returns-clause-bytes
returns-clause-bytes g c = settled_read g.R.Read.remaining _ _ _ _ _ _ c.read_settled.ensures
