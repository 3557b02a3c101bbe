use Rattle.sip_vector.specs.Extensions.{ext}
use Rattle.sip_vector.proofs.Lines.{adds_up}
use Rattle.sip_mle.proofs.Weighing.{ext_added}
use Rattle.sip_mle.proofs.laws.extensions_add_up.Goals as goal

pub returns : goal.returns
returns c = record { numbers = ext_added; streams = adds_up ext ext_added }
