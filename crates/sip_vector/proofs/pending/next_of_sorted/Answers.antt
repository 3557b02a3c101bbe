-- The addition at the partition point is the first one from there.
use Rattle.std.proofs.Common.{◌≡◌, ltb, slice_get, Some, None, sym, rules, tests, arith}
use Rattle.std.proofs.lemmas.List.Sorted.{IsPartitionPoint-from_clause, IsPartitionedBy-ltb}
use Rattle.sip_vector.specs.declared.update.Entry.{Entry}
use Rattle.sip_vector.proofs.Searches.{copied-is}
use Rattle.sip_vector.proofs.Pendings.{at_place, bare-sorted, from_there, no_place}
use Rattle.sip_vector.proofs.pending.next_of_sorted.Goals as goal

pub returns-in-Some-clause-from : goal.returns-in-Some-clause-from
returns-in-Some-clause-from c =
    let list = c.args.additions.now in
    let at = c.partition_point-at.result in
    let parts = IsPartitionPoint-from_clause (λ e. ltb e.index c.args.from) list at c.partition_point-at.ensures.partitioned (IsPartitionedBy-ltb (λ (e : Entry). e.index) list c.args.from c.requires.sorted) (λ a r f called. search (rules, tests)) in
    let look = c.get.ensures.lookup in
    let got : slice_get list at ≡ Some c.in-Some.waiting.now = sym (rw c.in-Some.is at (copied-is list at c.get.result look.0 look.1)) in
    omega (arith, c.index-in-Some.ensures, from_there list c.args.from at c.in-Some.waiting.now parts got)

pub returns-in-Some-clause-bare : goal.returns-in-Some-clause-bare
returns-in-Some-clause-bare c =
    let list = c.args.additions.now in
    let at = c.partition_point-at.result in
    let parts = IsPartitionPoint-from_clause (λ e. ltb e.index c.args.from) list at c.partition_point-at.ensures.partitioned (IsPartitionedBy-ltb (λ (e : Entry). e.index) list c.args.from c.requires.sorted) (λ a r f called. search (rules, tests)) in
    let look = c.get.ensures.lookup in
    let got : slice_get list at ≡ Some c.in-Some.waiting.now = sym (rw c.in-Some.is at (copied-is list at c.get.result look.0 look.1)) in
    bare-sorted list c.args.from c.index-in-Some.result at c.requires.sorted parts (at_place list at _ c.in-Some.waiting.now got (omega (arith, c.index-in-Some.ensures)))

pub returns-in_default-clause-bare : goal.returns-in_default-clause-bare
returns-in_default-clause-bare c =
    let list = c.args.additions.now in
    let at = c.partition_point-at.result in
    let parts = IsPartitionPoint-from_clause (λ e. ltb e.index c.args.from) list at c.partition_point-at.ensures.partitioned (IsPartitionedBy-ltb (λ (e : Entry). e.index) list c.args.from c.requires.sorted) (λ a r f called. search (rules, tests)) in
    let look = c.get.ensures.lookup in
    let got : slice_get list at ≡ Some c.in-Some.waiting.now = sym (rw c.in-Some.is at (copied-is list at c.get.result look.0 look.1)) in
    bare-sorted list c.args.from c.args.end at c.requires.sorted parts (at_place list at _ c.in-Some.waiting.now got (omega (arith, c.index.ensures, c.if-index-end.false)))

pub returns-in_default-2-clause-bare : goal.returns-in_default-2-clause-bare
returns-in_default-2-clause-bare c =
    let list = c.args.additions.now in
    let at = c.partition_point-at.result in
    let parts = IsPartitionPoint-from_clause (λ e. ltb e.index c.args.from) list at c.partition_point-at.ensures.partitioned (IsPartitionedBy-ltb (λ (e : Entry). e.index) list c.args.from c.requires.sorted) (λ a r f called. search (rules, tests)) in
    let look = c.get.ensures.lookup in
    let got : slice_get list at ≡ None = sym (rw c.in_default.is at (copied-is list at c.get.result look.0 look.1)) in
    bare-sorted list c.args.from c.args.end at c.requires.sorted parts (no_place list at _ got)
