use Rattle.std.proofs.Common.{refl}
use Rattle.sip_cli.proofs.laws.lines_of_moments_begin_with_their_words.Goals as goal

pub returns : goal.returns
returns c = λ m z. refl
