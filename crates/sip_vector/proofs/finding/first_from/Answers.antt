use Rattle.std.proofs.Common.{◌≡◌, ltb, slice_get, ◌∙◌, subst, sym, rules, tests}
use Rattle.std.proofs.lemmas.List.Sorted.{IsPartitionPoint-from_clause}
use Rattle.sip_vector.specs.inside.Gathered.{IsFirstFrom}
use Rattle.sip_vector.proofs.Searches.{copied-is}
use Rattle.sip_vector.proofs.Finds.{entries-partitioned, first-is}
use Rattle.sip_vector.proofs.finding.first_from.Goals as goal

pub returns : goal.returns
returns c n sparse =
    let list = c.args.list.now in
    let look = c.get.ensures.lookup in
    let parts = IsPartitionPoint-from_clause (λ e. ltb e.index c.args.from) list c.partition_point-at.result c.partition_point-at.ensures.partitioned (entries-partitioned list n c.args.from sparse) (λ a r f called. search (rules, tests)) in
    let got : c.copied.result ≡ slice_get list c.partition_point-at.result = c.copied.ensures ∙ copied-is list c.partition_point-at.result c.get.result look.0 look.1 in
    subst (IsFirstFrom n list c.args.from) (sym got) (first-is list 0 n c.args.from c.partition_point-at.result sparse parts)
