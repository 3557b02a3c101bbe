-- What a seat refuses is what the stream refuses that it stands for.
use Rattle.std.proofs.Common.{◌≡◌, ◌<◌, ◌^◌, ℕ, suc, true, List, [], ◌∷◌, All, map, refl}
use Rattle.std.proofs.lemmas.List.Elements.{All-head, All-tail}
use Rattle.sip_vector.specs.declared.update.Side.{Side}
use Rattle.sip_vector.specs.declared.update.Side.TheVariants.{First, Second}
use Rattle.sip_vector.specs.declared.update.Update.{Update}
use Rattle.sip_vector.specs.Streams.{same_side}
use Rattle.sip_verifier.specs.declared.weights.Weights.{Weights}
use Rattle.sip_verifier.specs.Weights.{AreWeights, weight_in}
use Rattle.sip_verifier.proofs.SeatTotals.{weight_kept}
use Rattle.sip_verifier.proofs.WideSeats.{seat_width}
use Rattle.sip_above.specs.Questions.{query_of}
use Rattle.sip_questions.specs.declared.seat.QuestionSeat.{QuestionSeat}
use Rattle.sip_questions.specs.declared.seat.QuestionSeat.TheVariants as seats
use Rattle.sip_questions.specs.Questions.{first_by, first_refusal, refusal_of}
use Rattle.sip_questions.specs.Sittings.{StandsAt, question_at, refusal_at}

pub same_self : (side : Side) → same_side side side ≡ true
same_self First = refl
same_self Second = refl

module _ (depth : ℕ) (stream : List Update) (weights : Weights) (below : All (λ (u : Update). u.item < 2 ^ depth) stream) (are : AreWeights stream weights) where
  one_refuses : (number : ℕ) (seat : QuestionSeat) → StandsAt depth stream seat → refusal_at (weight_in weights) number seat ≡ refusal_of stream number (question_at seat)
  one_refuses number (seats.Query seat) stands =
      let same = seat_width depth stream seat.query seat.block seat.running below stands in
      rw same refl
  one_refuses number (seats.Lookup lookup root) stands = refl
  one_refuses number (seats.Moment moment point) stands =
      let same = are moment.side in
      rw same refl
  one_refuses number (seats.Large large root) stands =
      let same = weight_kept depth stream (query_of large) root.seat large.side root.hash root.weight below stands (same_self large.side) in
      rw same refl

  pub all_refuse : (number : ℕ) (all : List QuestionSeat) → All (StandsAt depth stream) all → first_by (refusal_at (weight_in weights)) number all ≡ first_refusal stream number (map question_at all)
  all_refuse number [] stand = refl
  all_refuse number (seat ∷ more) stand =
      let here = one_refuses number seat (All-head (StandsAt depth stream) seat more stand) in
      let rest = all_refuse (suc number) more (All-tail (StandsAt depth stream) seat more stand) in
      rw (here, rest) refl
