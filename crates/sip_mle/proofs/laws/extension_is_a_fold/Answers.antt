use Rattle.sip_mle.proofs.Folding.{fold_is_ext}
use Rattle.sip_mle.proofs.laws.extension_is_a_fold.Goals as goal

pub returns : goal.returns
returns c = fold_is_ext
