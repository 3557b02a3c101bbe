-- A piece is legal, and the updates behind it may follow it.
use Rattle.std.proofs.Common.{◌≡◌, List, sym, subst, ◌∙◌, rules}
use Rattle.std.specs.Prelude.{IsTrue}
use Rattle.std.specs.Slice.Iter.{chunks_rest}
use Rattle.sip_vector.specs.declared.update.Update.{Update}
use Rattle.sip_helper.specs.Vectors.{Vectors}
use Rattle.sip_helper.specs.Turns.{stays_legal, with_updates}
use Rattle.sip_helper.specs.inside.Legal.{weights_of}
use Rattle.sip_helper.proofs.LegalUpdates.{parted}
use Rattle.sip_helper.proofs.vectors.Vectors.with.Goals as goal

pub loop-piece-preserved : goal.loop-piece-preserved
loop-piece-preserved c =
    let v : Vectors = c.loop-piece.vectors in
    let rest : List Update = chunks_rest c.next.new.self in
    let steps = c.in-Some.ensures.steps in
    let legal = subst (λ (l : List Update). IsTrue (stays_legal v.first.depth (weights_of v) l)) steps.1.0 c.loop-piece.invariant.3 in
    let parts = parted v c.in-Some.piece.now rest legal in
    let before = subst (λ (l : List Update). with_updates v l ≡ with_updates c.args.self c.args.updates.now) steps.1.0 c.loop-piece.invariant.5 in
    let kept : Vectors → Type 0 = λ x. IsTrue (stays_legal x.first.depth (weights_of x) rest)
    × (x.second.depth ≡ x.first.depth) × (with_updates x rest ≡ with_updates c.args.self c.args.updates.now) in
    let next = subst kept (sym c.in_ok-add_piece.ensures) (parts.back, parts.depths c.loop-piece.invariant.4, parts.all ∙ before) in
    (search rules, tt, steps.0 ∙ c.loop-piece.invariant.2, next.0, next.1, next.2)
