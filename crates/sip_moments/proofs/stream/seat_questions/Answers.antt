-- The moments of the task over the seats, or the first that may be too high.
use Rattle.std.proofs.Common.{◌≡◌, List, Ok, All, map, refl, sym, ap, subst, ◌∙◌, inr}
use Rattle.sip_wire.specs.declared.version.Version.{Version}
use Rattle.sip_moments.specs.declared.moment.Moment.{Moment}
use Rattle.sip_moments.specs.inside.Seating.{begun}
use Rattle.sip_moments.specs.Manner.{first_high}
use Rattle.sip_moments.specs.Moments.{IsDegree}
use Rattle.sip_moments.specs.Sittings.{square_of}
use Rattle.sip_moments.proofs.stream.seat_questions.Goals as goal

pub new-questions-requires-clause-degrees : goal.new-questions-requires-clause-degrees
new-questions-requires-clause-degrees c =
    subst (λ (l : List Moment). All (λ m. IsDegree m.degree) l) (sym c.moments_of.ensures.same) c.requires.can.degrees

pub new-questions-requires-clause-same : goal.new-questions-requires-clause-same
new-questions-requires-clause-same c =
    let was : c.args.gathered.now ≡ Ok c.in_ok-seats.seats = sym c.replace.ensures.value ∙ c.in_ok-seats.was in
    let same = rw was at c.requires.same in
    same ∙ ap (map square_of) (sym c.moments_of.ensures.same)

pub returns-in-Some : goal.returns-in-Some
returns-in-Some c =
    let was : c.args.gathered.now ≡ Ok c.in_ok-seats.seats = sym c.replace.ensures.value ∙ c.in_ok-seats.was in
    inr (c.in_ok-seats.seats, was, inr (c.in-Some.query, refl, λ stream are. ap (first_high stream) (sym c.deref.ensures.0) ∙ sym (c.in-Some.ensures stream are)))

pub returns-in-Ok-new : goal.returns-in-Ok-new
returns-in-Ok-new c =
    let task = c.args.task.now in
    let seats = c.in_ok-seats.seats in
    let begins : c.new-questions.result ≡ begun task seats = c.new-questions.ensures
    ∙ ap (λ (v : Version). record (begun task seats) { version = v; moments = c.moments_of.result.items }) c.needed-version.ensures
    ∙ ap (λ (l : List Moment). record (begun task seats) { moments = l }) c.moments_of.ensures.same in
    let was : c.args.gathered.now ≡ Ok c.in_ok-seats.seats = sym c.replace.ensures.value ∙ c.in_ok-seats.was in
    (seats, was, c.in-Ok-new.ensures.ok ∙ begins, λ stream are. ap (first_high stream) (sym c.deref.ensures.0) ∙ sym (c.first_high.ensures stream are) ∙ c.in_default.is)
