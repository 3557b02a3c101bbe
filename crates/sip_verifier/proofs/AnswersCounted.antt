-- Answers that a query is given count for the replies that came.
use Rattle.std.proofs.Common.{◌≡◌, ℕ, zero, suc, IsTrue, List, [], ◌∷◌, drop, get_or, Option, Result, Ok, Err, subst}
use Rattle.std.specs.List.{list_all}
use Rattle.std.proofs.lemmas.Bool.{and_parts}
use Rattle.sip_wire.specs.declared.version.Version.{Version}
use Rattle.sip_ports.specs.declared.port.TalkEvent.{TalkEvent}
use Rattle.sip_vector.specs.declared.query.Query.{Query}
use Rattle.sip_vector.specs.declared.update.Entry.{Entry}
use Rattle.sip_vector.specs.declared.update.Update.{Update}
use Rattle.sip_vector.specs.Answers.{Answer, pairs, number, Fits}
use Rattle.sip_vector.specs.Streams.{IsLegal}
use Rattle.sip_verifier.specs.declared.session.SessionFault.{SessionFault}
use Rattle.sip_verifier.specs.declared.session.Verdict.{Verdict}
use Rattle.sip_verifier.specs.declared.session.Verdict.TheVariants as verdicts
use Rattle.sip_verifier.specs.Asking.{AnswersCount, Asks, IsAnswered, IsCounted}
use Rattle.sip_verifier.specs.QuerySeats.{Seated, is_seat}
use Rattle.sip_verifier.proofs.CountedQuestions.{question_counts}
use Rattle.sip_verifier.proofs.Seating.{seat_parts}
use Rattle.sip_verifier.proofs.SeatsHead.{fits-asked}

-- the first seat that is left is at that place
pub first_left : (n : ℕ) (seats : List Seated) (seat d : Seated) (more : List Seated) → drop n seats ≡ seat ∷ more → get_or seats n d ≡ seat
first_left zero [] seat d more e = absurd cc
first_left zero (x ∷ seats) seat d more e = let same : x ≡ seat = cc in same
first_left (suc n) [] seat d more e = absurd cc
first_left (suc n) (x ∷ seats) seat d more e = first_left n seats seat d more e

-- the query of the first seat that is left fits the depth
pub left_fits : (depth n : ℕ) (seats : List Seated) (seat : Seated) (more : List Seated) → IsTrue (list_all (is_seat depth) seats) → drop n seats ≡ seat ∷ more → Fits depth seat.query
left_fits depth zero [] seat more all e = absurd cc
left_fits depth zero (x ∷ seats) seat more all e =
    let same : x ≡ seat = cc in
    let is = subst (λ (s : Seated). IsTrue (is_seat depth s)) same (and_parts (is_seat depth x) (list_all (is_seat depth) seats) all).0 in
    fits-asked depth seat.query (seat_parts depth seat is).0
left_fits depth (suc n) [] seat more all e = absurd cc
left_fits depth (suc n) (x ∷ seats) seat more all e = left_fits depth n seats seat more (and_parts (is_seat depth x) (list_all (is_seat depth) seats) all).1 e

module _ (version : Version) (depth : ℕ) (stream : List Update) (query : Query) (block : List ℕ) (old new : Option (List TalkEvent)) (fits : Fits depth query) (legal : IsLegal depth stream) where
  answered_counts : (answer : Answer) → IsAnswered version depth stream query block old new answer → IsCounted version depth stream query block old new answer
  answered_counts answer is = record { replies = is.replies; talk = is.talk; counts = question_counts version depth stream query block is.replies answer fits legal is.accepted }

  pub answers_count : (entries : List Entry) (result : Result Verdict SessionFault) → Asks version depth stream query block old new entries result → AnswersCount version depth stream query block old new entries result
  answers_count entries (Ok (verdicts.Number n)) asks = answered_counts (number n) asks
  answers_count entries (Ok verdicts.Pairs) asks = answered_counts (pairs entries) asks
  answers_count entries (Ok (verdicts.Rejected round reason)) asks = tt
  answers_count entries (Err fault) asks = tt
