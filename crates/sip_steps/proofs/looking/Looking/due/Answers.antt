-- What is due goes out: the Ask, or what is due about the interval.
use Rattle.std.proofs.Common.{◌++◌, List, ℕ, true, sym, ap, subst, ◌∙◌}
use Rattle.sip_ports.specs.Ports.{outs}
use Rattle.sip_wire.specs.Frames.{frame_bytes}
use Rattle.sip_wire.specs.declared.message.Message.TheVariants as messages
use Rattle.sip_vector.specs.declared.query.Query.TheVariants.{Sub}
use Rattle.sip_lookup.specs.Lookups.{range_of}
use Rattle.sip_steps.specs.declared.looking.LookStep.{LookStep}
use Rattle.sip_steps.specs.declared.looking.LookStep.TheVariants as steps
use Rattle.sip_steps.specs.Asked.{due_bytes}
use Rattle.sip_steps.specs.Looked.{IsLookedBy, Proves, Seeks, asked_within, due_of}
use Rattle.sip_steps.specs.Openings.{message_of}
use Rattle.sip_steps.proofs.Cases.{on_err, on_ok}
use Rattle.sip_steps.proofs.LookSteps.{looked_after, proves_begun, proves_more, sought}
use Rattle.sip_steps.proofs.looking.Looking.due.Goals as goal

pub due-requires : goal.due-requires
due-requires g c =
    let a = c.args.self.now in
    let b = c.requires.begun in
    let own = subst (λ (s : LookStep). IsLookedBy a.version a.depth a.lookup a.root.seat a.root.value b.events s) c.in-Proves.is b.looked in
    record { begun = proves_begun a.version a.depth a.lookup a.root.seat a.root.value c.in-Proves.found b.events c.in-Proves.asking own }

pub returns-in_ok-send_ask-in-Place-clause-looked : goal.returns-in_ok-send_ask-in-Place-clause-looked
returns-in_ok-send_ask-in-Place-clause-looked g c events is =
    let a = c.args.self.now in
    let step_is = c.in-Place.is ∙ ap (steps.Place c.in-Place.room) c.if-is_asked.false in
    let own = subst (λ (s : LookStep). IsLookedBy a.version a.depth a.lookup a.root.seat a.root.value events s) step_is is in (
      subst (λ (b : List ℕ). Seeks a.version a.depth a.lookup a.root.seat a.root.value (events ++ outs b) (frame_bytes c.in-Place.room.frame) true) (ap (due_of a.version a.lookup) (sym step_is))
          (sought a.version a.depth a.lookup a.root.seat a.root.value events (frame_bytes c.in-Place.room.frame) own.0),
      own.1,
    )

pub returns-in_ok-send_ask-in-Place-clause-begun : goal.returns-in_ok-send_ask-in-Place-clause-begun
returns-in_ok-send_ask-in-Place-clause-begun g c =
    let b = c.requires.begun in
    record { events = _; looked = returns-in_ok-send_ask-in-Place-clause-looked g c b.events b.looked }

pub returns-in-Proves-clause-looked : goal.returns-in-Proves-clause-looked
returns-in-Proves-clause-looked g c events is =
    let a = c.args.self.now in
    let found = c.in-Proves.found in
    let ends = range_of a.depth a.lookup found in
    let own = subst (λ (s : LookStep). IsLookedBy a.version a.depth a.lookup a.root.seat a.root.value events s) c.in-Proves.is is in
    on_ok c.due.result
    (λ talk. subst (λ (b : List ℕ). Proves a.version a.depth a.lookup a.root.seat a.root.value (events ++ outs b) found c.due.new.self) (ap (due_of a.version a.lookup) (sym c.in-Proves.is))
    (proves_more a.version a.depth a.lookup a.root.seat a.root.value found events c.in-Proves.asking own (outs (due_bytes message_of c.in-Proves.asking)) c.due.new.self talk))
    (c.due.ensures.asked (asked_within a.version a.depth a.lookup a.root.seat a.root.value ends) (messages.Query (Sub ends.0 ends.1)) a.root.seat own.inner own.talk)

pub returns-in-Proves-clause-begun : goal.returns-in-Proves-clause-begun
returns-in-Proves-clause-begun g c =
    let a = c.args.self.now in
    let b = c.requires.begun in
    let found = c.in-Proves.found in
    let own = subst (λ (s : LookStep). IsLookedBy a.version a.depth a.lookup a.root.seat a.root.value b.events s) c.in-Proves.is b.looked in
    let next = looked_after c.due.result a.version a.depth a.lookup a.root.seat a.root.value b.events (b.events ++ outs (due_of a.version a.lookup a.step)) (steps.Proves found c.in-Proves.asking) (steps.Proves found c.due.new.self) own
    (returns-in-Proves-clause-looked g c b.events b.looked) (on_err c.due.result (ap (steps.Proves found)) c.due.ensures.same) in
    record { events = next.0; looked = next.1 }
