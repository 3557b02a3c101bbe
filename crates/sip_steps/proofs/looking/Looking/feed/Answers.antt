-- Bytes came: of the Found, or about the interval.
use Rattle.std.proofs.Common.{◌++◌, ◌∙◌, List, ℕ, take, sym, subst}
use Rattle.sip_ports.specs.Ports.{ins}
use Rattle.sip_vector.specs.declared.query.Query.TheVariants.{Sub}
use Rattle.sip_wire.specs.declared.message.Message.TheVariants as messages
use Rattle.sip_lookup.specs.Lookups.{range_of}
use Rattle.sip_steps.specs.declared.looking.LookStep.{LookStep}
use Rattle.sip_steps.specs.Looked.{IsLooked, IsLookedBy, asked_within, is_hearing_at}
use Rattle.sip_steps.proofs.LookSteps.{not_both, proves_begun, proves_more}
use Rattle.sip_steps.proofs.looking.Looking.feed.Goals as goal

pub feed-requires : goal.feed-requires
feed-requires c =
    let a = c.args.self.now in
    let b = c.requires.begun in
    let own = subst (λ (s : LookStep). IsLookedBy a.version a.depth a.lookup a.root.seat a.root.value b.events s) c.in-Proves.is b.looked in
    record { begun = proves_begun a.version a.depth a.lookup a.root.seat a.root.value c.in-Proves.found b.events c.in-Proves.asking own }

pub returns-in-Proves-clause-looked : goal.returns-in-Proves-clause-looked
returns-in-Proves-clause-looked c events is =
    let a = c.args.self.now in
    let found = c.in-Proves.found in
    let ends = range_of a.depth a.lookup found in
    let own = subst (λ (s : LookStep). IsLookedBy a.version a.depth a.lookup a.root.seat a.root.value events s) c.in-Proves.is is in
    proves_more a.version a.depth a.lookup a.root.seat a.root.value found events c.in-Proves.asking own (ins (take c.feed.result c.args.bytes.now)) c.feed.new.self
    (c.feed.ensures.asked (asked_within a.version a.depth a.lookup a.root.seat a.root.value ends) (messages.Query (Sub ends.0 ends.1)) a.root.seat own.inner own.talk)

pub returns-in-Proves-clause-begun : goal.returns-in-Proves-clause-begun
returns-in-Proves-clause-begun c =
    let b = c.requires.begun in
    record { events = b.events ++ ins (take c.feed.result c.args.bytes.now); looked = returns-in-Proves-clause-looked c b.events b.looked }

pub returns-in_default-clause-looked : goal.returns-in_default-clause-looked
returns-in_default-clause-looked c = c.seek.ensures.looked

pub returns-in_default-clause-begun : goal.returns-in_default-clause-begun
returns-in_default-clause-begun c =
    let b = c.requires.begun in
    let all = b.events ++ ins (take c.seek.result c.args.bytes.now) in
    let new = c.seek.new.self in
    let same = c.seek.ensures.asks in
    record {
      events = all;
      looked = subst (λ (v : ℕ). IsLooked new.root.seat v all new) (sym same.value) (subst (λ (l : List ℕ). IsLooked l c.args.self.now.root.value all new) (sym same.block) (c.seek.ensures.looked b.events b.looked));
    }

pub returns-in_default-clause-none : goal.returns-in_default-clause-none
returns-in_default-clause-none c silent = absurd (not_both (is_hearing_at c.args.self.now.step) (sym c.is_waiting.ensures ∙ c.if-not-is_waiting.false) silent)
