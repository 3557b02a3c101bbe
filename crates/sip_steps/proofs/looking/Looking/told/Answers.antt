-- The place may not be found, or the interval that proves it is asked for.
use Rattle.std.proofs.Common.{◌≤◌, List, ℕ, [], length, refl, sym, subst, ◌∙◌}
use Rattle.sip_field.specs.Moduli.{m61_modulus}
use Rattle.sip_wire.specs.Frames.{frame_bytes}
use Rattle.sip_wire.specs.declared.message.Message.TheVariants as messages
use Rattle.sip_vector.specs.declared.query.Query.TheVariants.{Sub}
use Rattle.sip_subvec.specs.Asking.{SubStands, most_answer, phase_of}
use Rattle.sip_subvec.specs.Protocol.{sub_asked, sub_protocol}
use Rattle.sip_verifier.proofs.RootAsked.{interval_fits}
use Rattle.sip_steps.specs.Asked.{IsAsked}
use Rattle.sip_steps.specs.Looked.{asked_within}
use Rattle.sip_steps.specs.Openings.{message_of}
use Rattle.sip_steps.proofs.LookSteps.{proves_from, refused_place, within_widest}
use Rattle.sip_steps.proofs.looking.Looking.told.Goals as goal

pub returns-then-not-is_possible-clause-looked : goal.returns-then-not-is_possible-clause-looked
returns-then-not-is_possible-clause-looked c =
    let a = c.args.self.now in
    refused_place a.version a.depth a.lookup a.root.seat a.root.value (frame_bytes c.args.room.frame) c.args.found c.requires.shown (sym c.is_possible.ensures ∙ c.if-not-is_possible.true)

pub over-asking-requires-clause-fits : goal.over-asking-requires-clause-fits
over-asking-requires-clause-fits c =
    let a = c.args.self.now in
    let levels = a.levels in
    interval_fits a.version a.depth c.interval-lo.result.0 c.interval-lo.result.1 c.interval-lo.ensures.order c.interval-lo.ensures.within a.shallow

pub returns-clause-looked : goal.returns-clause-looked
returns-clause-looked c =
    let a = c.args.self.now in
    let found = c.args.found in
    let lo = c.interval-lo.result.0 in
    let hi = c.interval-lo.result.1 in
    let asked = sub_asked a.version m61_modulus a.root.value lo hi a.root.seat in
    let possible = sym c.is_possible.ensures ∙ c.if-not-is_possible.false in
    let room : most_answer lo hi ≤ length c.args.room.places.items =
    subst (λ (ends : ℕ × ℕ). most_answer ends.0 ends.1 ≤ length c.args.room.places.items) (sym c.interval-lo.ensures.same) (within_widest a.depth a.lookup found possible (length c.args.room.places.items) c.requires.places) in
    let talk = c.over-asking.ensures.asked asked refl (c.start-check.ensures.stands a.version c.args.room.places.items room) in
    let at_block = subst (λ (b : List ℕ). IsAsked (sub_protocol asked) (SubStands asked) phase_of message_of (messages.Query (Sub lo hi)) b [] c.over-asking.result) c.start-check.ensures.block talk in
    proves_from a.version a.depth a.lookup a.root.seat a.root.value found (frame_bytes c.args.room.frame) c.requires.shown possible c.over-asking.result
    (subst (λ (ends : ℕ × ℕ). IsAsked (sub_protocol (asked_within a.version a.depth a.lookup a.root.seat a.root.value ends)) (SubStands (asked_within a.version a.depth a.lookup a.root.seat a.root.value ends)) phase_of message_of (messages.Query (Sub ends.0 ends.1)) a.root.seat [] c.over-asking.result) c.interval-lo.ensures.same at_block)
