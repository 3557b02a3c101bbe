use Rattle.std.proofs.Common.{◌^◌, ◌<◌, sym, subst, arith}
use Rattle.sip_vector.specs.Vectors.{StoredVector}
use Rattle.sip_vector.specs.inside.Gathered.{IsBare}
use Rattle.sip_vector.proofs.Finds.{bare-less}
use Rattle.sip_vector.proofs.Gathers.{zeros-between}
use Rattle.sip_vector.proofs.vector.Vector.next_index.Goals as goal

pub returns-clause-zeros : goal.returns-clause-zeros
returns-clause-zeros c =
    let inside = c.self.inside in
    let within : c.args.end < 2 ^ inside.depth = subst (λ (v : StoredVector). c.args.end < 2 ^ v.depth) (sym c.self.view_is) c.requires.within in
    let first = (rw (c.deref-2.ensures.value, c.deref.ensures) at c.next_in_list-first.ensures.bare) (2 ^ inside.depth) c.self.invariant.sparse in
    let list = bare-less inside.list.value.items c.args.from _ c.next.result first.1 c.next.ensures.end in
    let pending : IsBare inside.pending.items c.args.from c.next.result = c.next.ensures.bare in
    rw (← c.self.view_is) (zeros-between inside.depth c.args.from c.next.result inside.list.value.items inside.pending.items c.self.invariant.sparse (omega (arith, c.next.ensures.end, c.next_in_list-first.ensures.end, within)) list pending)
