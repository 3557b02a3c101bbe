-- A message that came says its place, or why there is none, and bytes that are no frame their fault.
use Rattle.std.proofs.Common.{List, ℕ, Err, sym, subst}
use Rattle.sip_wire.specs.Decoding.{Took}
use Rattle.sip_wire.specs.Frames.{frame_bytes}
use Rattle.sip_wire.specs.declared.kind.Place.TheVariants as places
use Rattle.sip_wire.specs.declared.message.Message.{Message}
use Rattle.sip_steps.specs.Looked.{IsShown}
use Rattle.sip_steps.proofs.Founds.{shown_fault, shown_message}
use Rattle.sip_steps.proofs.found.look.Goals as goal

pub returns-in-Whole-clause-says : goal.returns-in-Whole-clause-says
returns-in-Whole-clause-says c =
    let got = frame_bytes c.args.frame.now in
    let took = subst (λ (m : Message). Took c.args.version places.Found got m) (sym c.message.ensures) c.in-Whole.ensures.judges in
    subst (λ (bytes : List ℕ). IsShown c.args.version bytes c.place_in.result) (sym c.judge.ensures.bytes)
    (shown_message c.args.version got c.requires c.message.result.now took c.place_in.result c.place_in.ensures)

pub returns-in-NoFrame-clause-says : goal.returns-in-NoFrame-clause-says
returns-in-NoFrame-clause-says c =
    let got = frame_bytes c.args.frame.now in
    subst (λ (bytes : List ℕ). IsShown c.args.version bytes (Err c.reason_for.result)) (sym c.judge.ensures.bytes)
    (rw c.reason_for.ensures (shown_fault c.args.version got c.requires c.in-NoFrame.fault c.in-NoFrame.ensures.judges))
