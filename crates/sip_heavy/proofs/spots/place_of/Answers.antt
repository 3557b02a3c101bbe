-- A search by the pair's place gives the place that parts them, since indices rise.
use Rattle.std.proofs.Common.{◌/◌, rules, tests}
use Rattle.std.specs.Prelude.{nat_lt}
use Rattle.std.proofs.lemmas.List.Sorted.{IsPartitionPoint-from_clause, IsPartitionedBy-ltb}
use Rattle.sip_wire.specs.declared.message.Node.{Node}
use Rattle.sip_heavy.proofs.Shown.{halves_rise}
use Rattle.sip_heavy.proofs.spots.place_of.Goals as goal

pub returns-clause-parts : goal.returns-clause-parts
returns-clause-parts c =
    let rises = c.requires.rises in
    let spots = c.args.spots.now in
    IsPartitionPoint-from_clause (λ (y : Node). nat_lt (y.index / 2) (c.args.from / 2)) spots c.partition_point.result c.partition_point.ensures.partitioned
    (IsPartitionedBy-ltb (λ (y : Node). y.index / 2) spots (c.args.from / 2) (λ i j d le lt. halves_rise spots rises.0 rises.1 i j d rises.2 le lt)) (λ a r f called. search (rules, tests))
