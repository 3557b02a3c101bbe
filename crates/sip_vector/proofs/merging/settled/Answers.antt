use Rattle.std.proofs.Common.{arith}
use Rattle.std.proofs.lemmas.Result.{IfOk-weaker}
use Rattle.std.specs.List.Sorted.{IsPermutation, IsNonDecreasingBy}
use Rattle.sip_vector.specs.Streams.{most_weight}
use Rattle.sip_vector.specs.declared.update.Entry.{Entry}
use Rattle.sip_vector.proofs.Merges.{IsRising-sparse, abs_sum-permutation, settled-light, settled-rising, settled-merged}
use Rattle.sip_vector.proofs.merging.settled.Goals as goal

pub merged-requires : goal.merged-requires
merged-requires c =
    rw c.as_slice.ensures (settled-light c.args.list.now c.args.pending.now.items _ c.sort.ensures.permutation most_weight c.requires)

pub returns-clause-merged : goal.returns-clause-merged
returns-clause-merged c =
    let sorted = c.sort.new.self.items in
    let moved : IsPermutation c.args.pending.now.items sorted = c.sort.ensures.permutation in
    let up : IsNonDecreasingBy (λ (e : Entry). e.index) sorted = c.sort.ensures.sorted in
    let done = rw c.as_slice.ensures at c.merged.ensures.merged in
    IfOk-weaker c.merged.result _ _ (λ out h n some sparse below.
    settled-merged c.args.list.now c.args.pending.now.items sorted moved n out.items
    (h n some (IsRising-sparse 0 n c.args.list.now sparse) (settled-rising c.args.list.now c.args.pending.now.items sorted moved n up below))) done

pub returns-clause-light : goal.returns-clause-light
returns-clause-light c =
    let sorted = c.sort.new.self.items in
    let moved : IsPermutation c.args.pending.now.items sorted = c.sort.ensures.permutation in
    let same = abs_sum-permutation c.args.pending.now.items sorted moved in
    let done = rw c.as_slice.ensures at c.merged.ensures.light in
    IfOk-weaker c.merged.result _ _ (λ out h. omega (arith, h, same)) done
