-- A seat that is not used is raised, and another one stays.
use Rattle.std.proofs.Common.{◌≡◌, Bool, false, List, sym, subst, ◌∙◌}
use Rattle.sip_vector.specs.declared.update.Update.{Update}
use Rattle.sip_verifier.specs.Running.{numbers_of}
use Rattle.sip_sketch.specs.Seats.{query_of}
use Rattle.sip_sketch.specs.Sketches.{SeatValues}
use Rattle.sip_sketch.specs.inside.Raising.{IsRaised, IsTotalAfter}
use Rattle.sip_sketch.proofs.Raised.{raised_seen, seen}
use Rattle.sip_sketch.proofs.Runs.{own_is}
use Rattle.sip_sketch.proofs.seat.SketchSeat.update_all.Goals as goal

pub returns-then-not-self : goal.returns-then-not-self
returns-then-not-self c = record {
  raised = λ updates firsts seconds.
      let kind = c.self.inside.kind in
      let r = c.self.inside.running in
      let r' = c.raise.new.running in
      let kept = c.self.invariant in
      let sided = sym c.side-side.ensures in
      let own = own_is kind c.side-side.result updates c.args.firsts.now c.args.seconds.now sided firsts seconds in
      let after = subst (λ (l : List Update). IsTotalAfter (numbers_of r) l (numbers_of r')) own c.raise.ensures.total in
      let unused : c.self.inside.is_used ≡ false = c.if-not-self.true in
      let one = raised_seen kind r r' updates kept (c.raise.ensures.keeps (query_of kind) ∙ kept.0, c.raise.ensures.unweighed) c.raise.ensures.block after
      (λ depth stream runs. c.raise.ensures.runs depth stream updates kind sided firsts seconds runs) in
      let all = subst (λ (b : Bool). IsRaised updates (seen kind b r) (seen kind b r')) (sym unused) one in
      subst (λ (s : SeatValues). IsRaised updates s (seen kind c.self.inside.is_used r')) c.self.view_is all;
}
