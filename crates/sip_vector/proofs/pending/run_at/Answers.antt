use Rattle.std.proofs.Common.{◌∙◌, ltb, leb, take, rules, tests}
use Rattle.std.proofs.lemmas.List.{take_rest}
use Rattle.std.proofs.lemmas.List.Sorted.{IsPartitionPoint-from_clause, IsPartitionedBy-leb, IsPartitionedBy-ltb, IsNonDecreasingBy-take}
use Rattle.sip_vector.specs.declared.update.Entry.{Entry}
use Rattle.sip_vector.proofs.Finds.{between-is}
use Rattle.sip_vector.proofs.pending.run_at.Goals as goal

pub returns : goal.returns
returns c up =
    let list = c.args.additions.now in
    let to = c.partition_point-to.result in
    let high = IsPartitionPoint-from_clause (λ e. leb e.index c.args.index) list to c.partition_point-to.ensures.partitioned (IsPartitionedBy-leb (λ (e : Entry). e.index) list c.args.index up) (λ a r f called. search (rules, tests)) in
    let low = IsPartitionPoint-from_clause (λ e. ltb e.index c.args.index) (take to list) c.partition_point-from.result c.partition_point-from.ensures.partitioned (IsPartitionedBy-ltb (λ (e : Entry). e.index) (take to list) c.args.index (IsNonDecreasingBy-take (λ (e : Entry). e.index) to list up)) (λ a r f called. search (rules, tests)) in
    take_rest (take to list) c.partition_point-from.result
    ∙ between-is list c.args.index c.args.index to c.partition_point-from.result high low
