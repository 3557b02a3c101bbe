-- All memory is taken, or the first refusal is named.
use Rattle.std.proofs.Common.{◌≡◌, ◌≤◌, Some, sym, subst, arith, rules}
use Rattle.std.specs.Prelude.{All}
use Rattle.sip_verifier.specs.Weights.{weight_in}
use Rattle.sip_questions.specs.declared.seat.QuestionSeat.{QuestionSeat}
use Rattle.sip_questions.specs.Questions.{first_by}
use Rattle.sip_questions.specs.Sittings.{CanAsk, nodes_at, places_at, refusal_at}
use Rattle.sip_questions.proofs.Starting.{refused_starts}
use Rattle.sip_questions.proofs.asker.QuestionAsker.new.Goals as goal

pub first_refusal-requires-clause-can : goal.first_refusal-requires-clause-can
first_refusal-requires-clause-can c =
    let same : c.deref.result.now ≡ c.args.seats.items = search rules in
    (c.args.version, c.args.depth, subst (All (CanAsk c.args.version c.args.depth)) (sym same) c.requires.can)

pub rooms-places-requires : goal.rooms-places-requires
rooms-places-requires c =
    let same : c.deref-2.result.now ≡ c.args.seats.items = search rules in
    (c.args.version, c.args.depth, subst (All (CanAsk c.args.version c.args.depth)) (sym same) c.requires.can)

pub invariant_of-result : goal.invariant_of-result
invariant_of-result c =
    let same : c.deref-2.result.now ≡ c.args.seats.items = search rules in
    let places = subst (All (λ (s : QuestionSeat). places_at s ≤ c.rooms-places.result.0)) same c.rooms-places.ensures.places in
    let nodes = subst (All (λ (s : QuestionSeat). nodes_at s ≤ c.rooms-places.result.1)) same c.rooms-places.ensures.nodes in (
      omega arith,
      (
        c.requires.shallow,
        (
          ∣ c.requires.can ∣₁,
          (
            λ k d inside. let room = places k d inside in omega (arith, room, c.in-Ok-with_capacity.ensures.capacity),
            (λ k d inside. let room = nodes k d inside in omega (arith, room, c.in-Ok-reserve.ensures.nodes), tt),
          ),
        ),
      ),
    )

pub returns-in-Some : goal.returns-in-Some
returns-in-Some c =
    let first : first_by (refusal_at (weight_in c.args.weights.now)) 1 c.args.seats.items ≡ Some c.in-Some.status = search rules in
    refused_starts c.args.version c.args.depth (weight_in c.args.weights.now) c.args.seats.items c.in-Some.status first
