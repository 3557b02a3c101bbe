use Rattle.std.proofs.Common.{rules}
use Rattle.std.proofs.lemmas.List.Sorted.{IsNonDecreasingBy-from_sort_by_key}
use Rattle.sip_vector.specs.declared.update.Entry.{Entry}
use Rattle.sip_vector.proofs.pending.Pending.sort.Goals as goal

pub invariant_of-self : goal.invariant_of-self
invariant_of-self c is = IsNonDecreasingBy-from_sort_by_key (λ (e : Entry). e.index) _ c.sort_unstable_by_key.ensures.sorted (λ a r q k. search rules)

pub returns-clause-sorted : goal.returns-clause-sorted
returns-clause-sorted c = IsNonDecreasingBy-from_sort_by_key (λ (e : Entry). e.index) _ c.sort_unstable_by_key.ensures.sorted (λ a r q k. search rules)
