use Rattle.std.proofs.Common.{◌<◌}
use Rattle.std.proofs.lemmas.List.Elements.{All-from_recursion}
use Rattle.sip_counts.proofs.Vectors.{counted-grows, counted-pow}
use Rattle.sip_counts.proofs.counting.count_grows_with_its_test.Goals as goal

pub returns-clause-grows : goal.returns-clause-grows
returns-clause-grows c = λ p d s t h. counted-grows p s t d (λ v l a e. h v l (All-from_recursion (λ x. x < p) v a) e)

pub returns-clause-at_most : goal.returns-clause-at_most
returns-clause-at_most c = λ p d test. counted-pow p test d
