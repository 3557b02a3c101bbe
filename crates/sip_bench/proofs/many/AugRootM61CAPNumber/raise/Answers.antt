use Rattle.std.proofs.Common.{rules, FitsSigned, w64, to_z, of_z, ◌≡◌, ◌+◌, ◌*◌, ◌≤◌, nat_abs, ℕ, length, take, sym, subst, ◌∙◌, ap, arith}
use Rattle.std.proofs.lemmas.Int.{to_z-of_z}
use Rattle.sip_tree.specs.Blocks.{total_after}
use Rattle.sip_bench.proofs.Totals.{moved_by_part}
use Rattle.sip_bench.proofs.many.AugRootM61CAPNumber.raise.Goals as goal

pub update_all-requires : goal.update_all-requires
update_all-requires c =
    let root = c.args.self.now in
    let block = c.args.block.now in (
      omega arith,
      (
        c.requires.few,
        (
          c.requires.items,
          λ k le.
              let part : nat_abs (total_after root.total (take k block)) ≤ nat_abs root.total + 8 * length block = moved_by_part root.total block k le c.requires.deltas in
              let fits : FitsSigned w64 c.total.result = search rules in
              let kept : to_z w64 (of_z w64 c.total.result) ≡ c.total.result = to_z-of_z w64 c.total.result fits in
              let total : nat_abs root.total ≤ 536870912 =
              subst (λ n. n ≤ 536870912) (c.unsigned_abs.ensures.value ∙ ap nat_abs (kept ∙ c.total.ensures.same)) c.if-unsigned_abs-le-MOST_TOTAL.true in
              omega (arith, part, total, c.requires.long),
        ),
      ),
    )
