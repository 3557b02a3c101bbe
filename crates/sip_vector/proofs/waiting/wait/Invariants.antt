use Rattle.std.proofs.Common.{nat_abs}
use Rattle.sip_vector.proofs.Waits.{IsPartOf}
use Rattle.sip_vector.proofs.waiting.wait.Given as goal

abbrev pub invariant-parts : goal.invariant-parts
invariant-parts l = IsPartOf l.index l.delta l.left l.fn.pending.items l.pending.items

abbrev pub decreases-parts : goal.decreases-parts
decreases-parts l = nat_abs l.left
