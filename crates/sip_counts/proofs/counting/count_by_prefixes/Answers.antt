use Rattle.std.proofs.Common.{add-one, refl}
use Rattle.sip_counts.specs.Counts.{counted_from, counted}
use Rattle.sip_counts.proofs.Vectors.{counted_from-counted}
use Rattle.sip_counts.proofs.counting.count_by_prefixes.Goals as goal

pub returns-clause-none_left : goal.returns-clause-none_left
unfolding counted_from
returns-clause-none_left c = λ p test prefix. refl

pub returns-clause-some_left : goal.returns-clause-some_left
unfolding counted_from
returns-clause-some_left c = λ p test more prefix. rw add-one refl

pub returns-clause-all_left : goal.returns-clause-all_left
unfolding counted
returns-clause-all_left c = λ p test d. refl

pub returns-clause-continuations : goal.returns-clause-continuations
returns-clause-continuations c = counted_from-counted
