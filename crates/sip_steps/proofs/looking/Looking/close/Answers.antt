-- The other end closed, before the Found or behind it.
use Rattle.std.proofs.Common.{◌++◌, List, sym, ap, subst, ◌∙◌}
use Rattle.sip_ports.specs.declared.port.TalkEvent.{TalkEvent}
use Rattle.sip_vector.specs.declared.query.Query.TheVariants.{Sub}
use Rattle.sip_wire.specs.declared.message.Message.TheVariants as messages
use Rattle.sip_lookup.specs.Lookups.{range_of}
use Rattle.sip_steps.specs.declared.looking.LookStep.{LookStep}
use Rattle.sip_steps.specs.Asked.{end_heard}
use Rattle.sip_steps.specs.Looked.{IsLookedBy, Proves, asked_within, end_at}
use Rattle.sip_steps.proofs.LookSteps.{closed_step, proves_begun, proves_more}
use Rattle.sip_steps.proofs.looking.Looking.close.Goals as goal

pub close-requires : goal.close-requires
close-requires c =
    let a = c.args.self.now in
    let b = c.requires.begun in
    let own = subst (λ (s : LookStep). IsLookedBy a.version a.depth a.lookup a.root.seat a.root.value b.events s) c.in-Proves.is b.looked in
    record { begun = proves_begun a.version a.depth a.lookup a.root.seat a.root.value c.in-Proves.found b.events c.in-Proves.asking own }

pub returns-in_default-clause-looked : goal.returns-in_default-clause-looked
returns-in_default-clause-looked c events is =
    let a = c.args.self.now in
    closed_step a.version a.depth a.lookup a.root.seat a.root.value events a.step is (sym c.is_waiting.ensures ∙ c.if-not-is_waiting.false) c.in_default.not-Proves

pub returns-in_default-clause-begun : goal.returns-in_default-clause-begun
returns-in_default-clause-begun c =
    let b = c.requires.begun in
    record { events = b.events ++ end_at c.args.self.now.step; looked = returns-in_default-clause-looked c b.events b.looked }

pub returns-in-Proves-clause-looked : goal.returns-in-Proves-clause-looked
returns-in-Proves-clause-looked c events is =
    let a = c.args.self.now in
    let found = c.in-Proves.found in
    let ends = range_of a.depth a.lookup found in
    let own = subst (λ (s : LookStep). IsLookedBy a.version a.depth a.lookup a.root.seat a.root.value events s) c.in-Proves.is is in
    subst (λ (e : List TalkEvent). Proves a.version a.depth a.lookup a.root.seat a.root.value (events ++ e) found c.close.new.self) (ap end_at (sym c.in-Proves.is))
    (proves_more a.version a.depth a.lookup a.root.seat a.root.value found events c.in-Proves.asking own (end_heard c.in-Proves.asking.turn.stage) c.close.new.self
    (c.close.ensures.asked (asked_within a.version a.depth a.lookup a.root.seat a.root.value ends) (messages.Query (Sub ends.0 ends.1)) a.root.seat own.inner own.talk))

pub returns-in-Proves-clause-begun : goal.returns-in-Proves-clause-begun
returns-in-Proves-clause-begun c =
    let b = c.requires.begun in
    record { events = b.events ++ end_at c.args.self.now.step; looked = returns-in-Proves-clause-looked c b.events b.looked }
