-- A code from 1 to 4 has a spelling.
use Rattle.std.proofs.Common.{lit≤}
use Rattle.sip_helper.proofs.Hearing.{refusal_fits}
use Rattle.sip_helper.proofs.talking.refuse.Goals as goal

pub encode-requires : goal.encode-requires
encode-requires g c = refusal_fits _ 4 (lit≤ tt) (lit≤ tt)
