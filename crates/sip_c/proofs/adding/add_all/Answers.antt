use Rattle.std.proofs.Common.{◌<◌, List, length, take, sym, subst, arith}
use Rattle.sip_vector.specs.declared.update.Update.{Update}
use Rattle.sip_sketch.specs.Standing.{MayCome}
use Rattle.sip_c.specs.Updating.{HasGrown}
use Rattle.sip_c.specs.Weighing.{updates_of}
use Rattle.sip_c.proofs.Comes.{block_came, block_some, next_comes}
use Rattle.sip_c.proofs.adding.add_all.Goals as goal

pub update_all-requires-clause-next : goal.update_all-requires-clause-next
update_all-requires-clause-next g c =
    let codes = g.C.Codes.codes c.args.codes.now in
    let some : 0 < length codes = omega (arith, c.loop-done-test.true, c.count.ensures) in
    subst (MayCome c.loop-done.sketch) (sym c.fill-count.ensures.filled)
    (next_comes c.args.sketch.now c.loop-done.sketch codes c.loop-done.done c.fill-count.result (c.requires some) c.loop-done.invariant.came)

pub loop-done-preserved : goal.loop-done-preserved
loop-done-preserved g c =
    let codes = g.C.Codes.codes c.args.codes.now in
    let us = updates_of codes in
    let done = c.loop-done.done in
    let count = c.fill-count.result in
    let before : done < length codes = omega (arith, c.loop-done-test.true, c.count.ensures) in
    let some : 0 < count = c.fill-count.ensures.some (omega (arith, c.loop-done-test.array_long)) before in
    let grown : HasGrown (take count c.fill-count.new.block) c.loop-done.sketch c.update_all.new.self =
    record { kept = c.update_all.ensures.kept; told = c.update_all.ensures.told; used = c.update_all.ensures.used; stands = c.update_all.ensures.stands } in
    record {
      within = c.fill-count.ensures.within;
      came = block_came c.args.sketch.now c.loop-done.sketch c.update_all.new.self us done count c.loop-done.invariant.came (block_some codes done count some c.fill-count.ensures.within)
          (subst (λ (l : List Update). HasGrown l c.loop-done.sketch c.update_all.new.self) c.fill-count.ensures.filled grown);
    }
