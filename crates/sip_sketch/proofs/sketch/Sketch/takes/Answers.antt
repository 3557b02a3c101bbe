-- Each may come behind those before it.
use Rattle.std.proofs.Common.{◌≡◌, ◌<◌, true, false, [], length, sym, ap, subst, ◌∙◌, arith}
use Rattle.sip_vector.specs.declared.update.Side.TheVariants.{First, Second}
use Rattle.sip_sketch.specs.Sketches.{SketchValues}
use Rattle.sip_sketch.specs.Standing.{MayCome}
use Rattle.sip_sketch.proofs.Next.{come-none, next-comes, next-is, weight-on}
use Rattle.sip_sketch.proofs.Sound.{sound_from}
use Rattle.sip_sketch.proofs.Whole.{head_from}
use Rattle.sip_sketch.proofs.sketch.Sketch.takes.Goals as goal

pub loop-update-init : goal.loop-update-init
loop-update-init c =
    let s : SketchValues = record { depth = c.self.inside.depth; parts = c.self.inside.parts; tally = c.self.inside.tally; seats = c.self.inside.seats.items } in
    let sound = sound_from s (head_from s c.self.invariant) in
    let none = subst (λ (x : SketchValues). MayCome x []) c.self.view_is (come-none s sound.first sound.second) in
    record {
      come = none;
      first = let same = ap (λ (x : SketchValues). x.tally.first) c.self.view_is in omega (arith, same);
      second = let same = ap (λ (x : SketchValues). x.tally.second) c.self.view_is in omega (arith, same);
    }

pub returns-then-not-is_next : goal.returns-then-not-is_next
returns-then-not-is_next c =
    let i = c.loop-update.update-index in
    let us = c.args.updates.now in
    let lt : i < length us = omega arith in
    let depth = ap (λ (x : SketchValues). x.depth) c.self.view_is in
    let refused : c.is_next.result ≡ false = c.if-not-is_next.true in (
      λ e. absurd cc,
      λ come.
          let taken : c.is_next.result ≡ true = c.is_next.ensures.1 (next-is c.args.self.now us i c.self.inside.depth c.loop-update.first c.loop-update.second _ depth lt c.loop-update.invariant.first c.loop-update.invariant.second come) in
          let clash : true ≡ false = sym taken ∙ refused in absurd cc,
    )

pub loop-update-preserved : goal.loop-update-preserved
loop-update-preserved c =
    let i = c.loop-update.update-index in
    let us = c.args.updates.now in
    let s = c.args.self.now in
    let lt : i < length us = omega arith in
    let depth = ap (λ (x : SketchValues). x.depth) c.self.view_is in
    let inv = c.loop-update.invariant in
    record {
      come = next-comes s us i c.self.inside.depth c.loop-update.first c.loop-update.second _ depth lt inv.first inv.second inv.come (c.is_next.ensures.0 c.if-not-is_next.false);
      first = weight-on us i s.tally.first c.loop-update.first c.sizes-more.result.0 First _ lt inv.first c.sizes-more.ensures.first;
      second = weight-on us i s.tally.second c.loop-update.second c.sizes-more.result.1 Second _ lt inv.second c.sizes-more.ensures.second;
    }
