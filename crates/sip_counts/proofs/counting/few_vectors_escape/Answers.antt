use Rattle.std.proofs.Common.{◌<◌}
use Rattle.std.proofs.lemmas.List.Elements.{All-from_recursion}
use Rattle.sip_counts.proofs.Escapes.{few_escape}
use Rattle.sip_counts.proofs.counting.few_vectors_escape.Goals as goal

pub returns : goal.returns
returns c = λ p k d bad start step. few_escape p k d bad start (λ v l a e. step v l (All-from_recursion (λ x. x < p) v a) e)
