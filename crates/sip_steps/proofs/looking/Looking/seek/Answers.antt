-- Bytes of the Found came: a part, a fault, or a place.
use Rattle.std.proofs.Common.{List, take, sym, ap, subst, ◌∙◌}
use Rattle.sip_ports.specs.declared.port.TalkEvent.{TalkEvent}
use Rattle.sip_wire.specs.Frames.{frame_bytes}
use Rattle.sip_steps.specs.declared.looking.LookStep.{LookStep}
use Rattle.sip_steps.specs.declared.looking.LookStep.TheVariants as steps
use Rattle.sip_steps.specs.Looked.{IsLookedBy, IsSeeking}
use Rattle.sip_steps.proofs.LookSteps.{came_more, was_asked}
use Rattle.sip_steps.proofs.looking.Looking.seek.Goals as goal

pub returns-clause-looked : goal.returns-clause-looked
returns-clause-looked c events is =
    let a = c.args.self.now in
    let room = c.in-Place.room in
    let step_is = sym c.replace-before.ensures.value ∙ c.in-Place.is in
    let seeks = subst (λ (s : LookStep). IsSeeking a.version a.depth a.lookup s) step_is c.requires.seeks in
    let own = subst (λ (s : LookStep). IsLookedBy a.version a.depth a.lookup a.root.seat a.root.value events s) (step_is ∙ ap (steps.Place room) (was_asked a.version a.depth a.lookup a.root.seat a.root.value room c.in-Place.is_asked seeks)) is in
    subst (λ (e : List TalkEvent). IsLookedBy a.version a.depth a.lookup a.root.seat a.root.value e c.heard.result)
    (sym (came_more a.version a.depth a.lookup a.root.seat a.root.value events (frame_bytes room.frame) (frame_bytes c.take_found-taken.new.frame) (take c.take_found-taken.result.0 c.args.bytes.now) own.0.0 c.take_found-taken.ensures.bytes))
    c.heard.ensures.looked
