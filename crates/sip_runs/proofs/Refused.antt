-- A question that may not be asked is refused by the stream as by its seat.
use Rattle.std.proofs.Common.{◌≡◌, ◌<◌, ◌^◌, ℕ, suc, List, [], ◌∷◌, All, refl}
use Rattle.std.proofs.lemmas.List.Elements.{All-head, All-tail}
use Rattle.sip_vector.specs.declared.update.Update.{Update}
use Rattle.sip_wire.specs.declared.version.Version.{Version}
use Rattle.sip_verifier.specs.declared.weights.Weights.{Weights}
use Rattle.sip_verifier.specs.QuerySeats.{RunningNumbers, RunsOn, aug_root_is, point_is, points_are, root_is, split_root_is}
use Rattle.sip_verifier.specs.Running.{block_of, numbers_of}
use Rattle.sip_verifier.specs.Weights.{AreWeights, weight_in}
use Rattle.sip_verifier.proofs.SeatTotals.{weight_kept}
use Rattle.sip_verifier.proofs.WideSeats.{seat_width}
use Rattle.sip_above.specs.Questions.{query_of}
use Rattle.sip_questions.specs.declared.question.Question.{Question}
use Rattle.sip_questions.specs.declared.question.Question.TheVariants as questions
use Rattle.sip_questions.specs.Questions.{first_by, first_refusal, refusal_of}
use Rattle.sip_questions.specs.Sittings.{query_like}
use Rattle.sip_questions.proofs.Refused.{same_self}
use Rattle.sip_runs.specs.declared.seat.RunSeat.{RunSeat}
use Rattle.sip_runs.specs.Seats.{IsSeated, questions_of, refusal_at, refusal_by}

module _ (version : Version) (depth : ℕ) (stream : List Update) (weights : Weights) (below : All (λ (u : Update). u.item < 2 ^ depth) stream) (are : AreWeights stream weights) where
  one_refuses : (number : ℕ) (question : Question) (block : List ℕ) (running : RunningNumbers) → RunsOn depth stream (query_like question) block running
      → refusal_by (weight_in weights) number question running ≡ refusal_of stream number question
  one_refuses number (questions.Query query) block running stands =
      let same = seat_width depth stream query block running below stands in
      rw same refl
  one_refuses number (questions.Lookup lookup) block running stands = refl
  one_refuses number (questions.Moment moment) block running stands =
      let same = are moment.side in
      rw same refl
  one_refuses number (questions.Large large) block (split_root_is hash weight) stands =
      let same = weight_kept depth stream (query_of large) block large.side hash weight below stands (same_self large.side) in
      rw same refl
  one_refuses number (questions.Large large) block (root_is value) stands = absurd stands
  one_refuses number (questions.Large large) block (point_is value) stands = absurd stands
  one_refuses number (questions.Large large) block (points_are first second) stands = absurd stands
  one_refuses number (questions.Large large) block (aug_root_is hash total) stands = absurd stands

  -- what seats refuse is what the stream refuses that they stand for
  pub all_refuse : (number : ℕ) (all : List RunSeat) → All (IsSeated version depth stream) all → first_by (refusal_at (weight_in weights)) number all ≡ first_refusal stream number (questions_of all)
  all_refuse number [] stand = refl
  all_refuse number (seat ∷ more) stand =
      let here = one_refuses number seat.question (block_of seat.running) (numbers_of seat.running) (All-head (IsSeated version depth stream) seat more stand).runs.runs in
      let rest = all_refuse (suc number) more (All-tail (IsSeated version depth stream) seat more stand) in
      rw (here, rest) refl
