use Rattle.std.proofs.Common.{◌≡◌, ◌^◌, ltb, slice_get, ◌∙◌, rules, tests}
use Rattle.std.proofs.lemmas.List.Sorted.{IsPartitionPoint-from_clause}
use Rattle.sip_vector.proofs.Searches.{copied-is, spots-partitioned, nonzero_from-is}
use Rattle.sip_vector.proofs.level.Level.next_nonzero.Goals as goal

pub returns : goal.returns
returns g c =
    let look = rw c.deref-2.ensures.value at c.get.ensures.lookup in
    let parts = IsPartitionPoint-from_clause (λ s. ltb s.index c.args.from) c.self.inside.spots.items c.partition_point-at.result (rw c.deref.ensures.value at c.partition_point-at.ensures.partitioned) (spots-partitioned g.F.Field.number c.self.inside.spots.items 0 (2 ^ c.self.inside.folds_left) c.args.from c.self.invariant.1) (λ a r f called. search (rules, tests)) in
    let got : c.copied.result ≡ slice_get c.self.inside.spots.items c.partition_point-at.result = c.copied.ensures ∙ copied-is c.self.inside.spots.items c.partition_point-at.result c.get.result look.0 look.1 in
    rw (← c.self.view_is, got) (nonzero_from-is g.F.Field.number (2 ^ c.self.inside.folds_left) c.args.from c.partition_point-at.result c.self.inside.spots.items c.self.invariant.1 parts)
