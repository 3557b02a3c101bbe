-- The two searches cut the stretch out.
use Rattle.std.proofs.Common.{ltb, leb, take, rules, tests}
use Rattle.std.proofs.lemmas.List.Sorted.{IsPartitionPoint-from_clause, IsPartitionedBy-leb, IsPartitionedBy-ltb, IsNonDecreasingBy-take}
use Rattle.sip_vector.specs.declared.update.Entry.{Entry}
use Rattle.sip_subvec.proofs.SummedNodes.{rising_entries, stretch_is}
use Rattle.sip_subvec.proofs.nodes.stretch.Goals as goal

pub returns : goal.returns
returns c rise =
    let list = c.args.entries.now in
    let up = rising_entries list rise in
    let to = c.partition_point-to.result in
    let high = IsPartitionPoint-from_clause (λ e. leb e.index c.args.last) list to c.partition_point-to.ensures.partitioned (IsPartitionedBy-leb (λ (e : Entry). e.index) list c.args.last up) (λ a r f called. search (rules, tests)) in
    let low = IsPartitionPoint-from_clause (λ e. ltb e.index c.args.first) (take to list) c.partition_point-from.result c.partition_point-from.ensures.partitioned (IsPartitionedBy-ltb (λ (e : Entry). e.index) (take to list) c.args.first (IsNonDecreasingBy-take (λ (e : Entry). e.index) to list up)) (λ a r f called. search (rules, tests)) in
    stretch_is list c.args.first c.args.last to c.partition_point-from.result high low
