use Rattle.std.proofs.Common.{◌≡◌, Ok, List, All, take, sym, subst, ap}
use Rattle.std.specs.Prelude.{IsTrue}
use Rattle.sip_vector.specs.declared.update.Entry.{Entry}
use Rattle.sip_wire.specs.declared.message.Message.{Message}
use Rattle.sip_wire.specs.Spelling.{fits}
use Rattle.sip_wire.specs.Values.{InRange}
use Rattle.sip_subvec.specs.Asking.{Asking, SubStands, Gives, IsTakenValue}
use Rattle.sip_wire.proofs.EntryValues.{values_spelled}
use Rattle.sip_subvec.proofs.RoomForEntries.{siblings_below}
use Rattle.sip_subvec.proofs.ProtocolSteps.{siblings_refused, siblings_taken, entries_fewer, some_entries}
use Rattle.sip_subvec.proofs.sub_asking.SubAskingCheck.take.Goals as goal

pub give_entries-requires-clause-values : goal.give_entries-requires-clause-values
give_entries-requires-clause-values c =
    subst (λ (l : List Entry). All IsTakenValue l) (sym c.deref.ensures.0)
    (values_spelled c.requires.fits.0 c.in-Entries.rows
    (subst (λ (m : Message). IsTrue (fits c.requires.fits.0 m)) c.in-Entries.is c.requires.fits.1)
    (subst (λ (m : Message). InRange m) c.in-Entries.is c.requires.range))

pub give_siblings-requires-clause-left : goal.give_siblings-requires-clause-left
give_siblings-requires-clause-left c = (siblings_below c.requires.fits.0 c.in-Siblings.left c.in-Siblings.right
    (subst (λ (m : Message). IsTrue (fits c.requires.fits.0 m)) c.in-Siblings.is c.requires.fits.1)).0

pub give_siblings-requires-clause-right : goal.give_siblings-requires-clause-right
give_siblings-requires-clause-right c = (siblings_below c.requires.fits.0 c.in-Siblings.left c.in-Siblings.right
    (subst (λ (m : Message). IsTrue (fits c.requires.fits.0 m)) c.in-Siblings.is c.requires.fits.1)).1

pub returns-in_err-give_siblings-in-Siblings-clause-took : goal.returns-in_err-give_siblings-in-Siblings-clause-took
returns-in_err-give_siblings-in-Siblings-clause-took c asked s stands =
    let a : Asking = record { check = c.self.inside.check; is_first = c.self.inside.is_first; found = c.self.inside.found } in
    let same : a ≡ c.args.self.now = c.self.view_is in
    let held = subst (λ (b : Asking). SubStands asked s b c.args.places.now) (sym same) stands in
    rw c.in-Siblings.is
    (siblings_refused asked s a c.give_siblings.new.check c.args.places.now held c.in-Siblings.left c.in-Siblings.right c.give_siblings.result c.give_siblings.ensures.answers
    _ c.in_err-give_siblings-in-Siblings.field-0.0 _ c.in_err-give_siblings-in-Siblings.was c.from_residual-in_err-give_siblings-in-Siblings.ensures.1)

pub returns-in_ok-self-inside-in-Entries-clause-smaller : goal.returns-in_ok-self-inside-in-Entries-clause-smaller
returns-in_ok-self-inside-in-Entries-clause-smaller c due =
    let stood = c.requires.stood in
    let a : Asking = record { check = c.self.inside.check; is_first = c.self.inside.is_first; found = c.self.inside.found } in
    let same : a ≡ c.args.self.now = c.self.view_is in
    let stands = subst (λ (b : Asking). SubStands stood.0 stood.1 b c.args.places.now)
    (sym same) stood.2 in
    let version = c.requires.fits.0 in
    let fit = subst (λ (m : Message). IsTrue (fits version m)) c.in-Entries.is c.requires.fits.1 in
    let gives = subst (λ (l : List Entry). Gives a.check
    (take a.found c.args.places.now) l c.give_entries.new.check c.give_entries.new.entries
    (Ok c.in_ok-self-inside-in-Entries.field-0)) c.deref.ensures.0 c.in_ok-self-inside-in-Entries.ensures.gives in
    let fewer = entries_fewer stood.0 stood.1 a c.args.places.now stands c.if-not-self.false c.in-Entries.rows c.give_entries.new.check c.give_entries.new.entries c.in_ok-self-inside-in-Entries.field-0 gives
    (some_entries stood.0 stood.1 a c.args.places.now stands c.if-not-self.false c.in-Entries.rows c.give_entries.new.check c.give_entries.new.entries version fit) in
    rw (ap (λ (b : Asking). b.found) same) at fewer

pub returns-in_ok-give_siblings-in-Siblings-clause-took : goal.returns-in_ok-give_siblings-in-Siblings-clause-took
returns-in_ok-give_siblings-in-Siblings-clause-took c asked s stands =
    let a : Asking = record { check = c.self.inside.check; is_first = c.self.inside.is_first; found = c.self.inside.found } in
    let same : a ≡ c.args.self.now = c.self.view_is in
    let held = subst (λ (b : Asking). SubStands asked s b c.args.places.now) (sym same) stands in
    rw c.in-Siblings.is
    (siblings_taken asked s a c.give_siblings.new.check c.args.places.now held c.in-Siblings.left c.in-Siblings.right c.give_siblings.result c.give_siblings.ensures.answers _ c.in_ok-give_siblings-in-Siblings.was)
