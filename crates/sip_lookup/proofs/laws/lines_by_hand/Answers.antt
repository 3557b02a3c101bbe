use Rattle.std.proofs.Common.{refl}
use Rattle.std.specs.Fmt.{digits}
use Rattle.sip_lookup.proofs.laws.lines_by_hand.Goals as goal

pub returns : goal.returns
unfolding digits
returns c = record { index = refl; pred = refl; succ = refl; none = refl }
