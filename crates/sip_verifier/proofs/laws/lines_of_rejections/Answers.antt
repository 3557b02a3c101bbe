use Rattle.std.proofs.Common.{refl}
use Rattle.std.specs.Fmt.{digits}
use Rattle.sip_verifier.proofs.laws.lines_of_rejections.Goals as goal

pub returns : goal.returns
unfolding digits
returns c = record { root = refl; refused = refl; closed = refl }
