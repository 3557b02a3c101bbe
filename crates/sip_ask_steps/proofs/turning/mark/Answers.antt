-- There is room for the file: a mark changes no length.
use Rattle.std.proofs.Common.{◌≡◌, ◌∙◌, sym, ap, arith}
use Rattle.sip_sketch.specs.Sketches.{size_of}
use Rattle.sip_ask.proofs.TurnsTaken.{marked_size}
use Rattle.sip_ask_steps.proofs.turning.mark.Goals as goal

pub unreachable-requires : goal.unreachable-requires
unreachable-requires c =
    let same : size_of c.mark.new.self ≡ size_of c.args.sketch.now = ap size_of c.mark.ensures ∙ marked_size c.args.place c.args.sketch.now in
    let ok = c.write.ensures.room (omega (arith, same, c.requires.room)) in
    let no = sym c.if-is_err.ensures.negation ∙ ok in
    cc
