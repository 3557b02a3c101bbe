-- What is left is a sketch that a file can have.
use Rattle.std.proofs.Common.{length, sym, ap, subst, ◌∙◌}
use Rattle.std.proofs.lemmas.List.{with_items_is}
use Rattle.sip_sketch.specs.Marking.{used_at}
use Rattle.sip_sketch.specs.Sketches.{IsSketch}
use Rattle.sip_sketch.proofs.Grown.{seen}
use Rattle.sip_sketch.proofs.Marked.{marked-is, marked-same}
use Rattle.sip_sketch.proofs.sketch.Sketch.mark.Goals as goal

pub invariant_of-self : goal.invariant_of-self
invariant_of-self c =
    let s = seen c.self.inside in
    let v = c.self.inside.seats in
    let len = c.take_at.auto.seats ∙ ap length c.deref_mut.ensures.value in
    let items = with_items_is v c.take_at.new.seats (len ∙ sym v.ok.0) ∙ c.take_at.ensures ∙ ap (used_at c.args.place) c.deref_mut.ensures.value in
    subst IsSketch (sym (marked-same s c.args.place _ items)) (marked-is s c.args.place c.self.invariant)
