-- A seat that can be asked, by its kind.
use Rattle.std.proofs.Common.{◌≡◌, ◌<◌, ℕ, List, length, get_or, Option, Result, refl, sym, subst}
use Rattle.std.specs.Prelude.{All, IsTrue}
use Rattle.std.proofs.Math.Logic.{∥∥₁_elim}
use Rattle.std.proofs.Props.{props}
use Rattle.sip_ports.specs.declared.port.TalkEvent.{TalkEvent}
use Rattle.sip_vector.specs.declared.update.Entry.{Entry}
use Rattle.sip_vector.specs.Answers.{Fits}
use Rattle.sip_wire.specs.declared.version.Version.{Version}
use Rattle.sip_wire.specs.Versions.{Speaks}
use Rattle.sip_verifier.specs.declared.asker.Unanswered.{Unanswered}
use Rattle.sip_verifier.specs.QuerySeats.{Seated, is_seat}
use Rattle.sip_verifier.specs.runs.Askers.{Asks}
use Rattle.sip_verifier.specs.runs.Manners.{Manner}
use Rattle.sip_verifier.proofs.SeatsHead.{seat-fits, seat-long}
use Rattle.sip_questions.specs.declared.asker.QuestionGiven.{QuestionGiven}
use Rattle.sip_questions.specs.declared.question.Question.{Question}
use Rattle.sip_questions.specs.declared.seat.QuestionSeat.{QuestionSeat}
use Rattle.sip_questions.specs.declared.seat.QuestionSeat.TheVariants as seats
use Rattle.sip_questions.specs.Questions.{Answered}
use Rattle.sip_questions.specs.Sittings.{CanAsk, ask_at, question_at, stated}

module _ (version : Version) (depth : ℕ) (s : Seated) (is : IsTrue (is_seat depth s)) where
  -- as many levels as challenges
  pub seat_is : IsTrue (is_seat (length s.block) s)
  seat_is = subst (λ (n : ℕ). IsTrue (is_seat n s)) (sym (seat-long depth s is)) is

  pub seat_speaks : Speaks version depth s.query → Speaks version (length s.block) s.query
  seat_speaks speaks = subst (λ (n : ℕ). Speaks version n s.query) (sym (seat-long depth s is)) speaks

  -- and the query fits them
  pub seat_fits : Fits (length s.block) s.query
  seat_fits = seat-fits depth s s.block is refl

-- ---- what came of the question of a seat

-- it is asked at what the seat is
pub at_seat : (m : Manner Question Answered) (old new : Option (List TalkEvent)) (entries : List Entry) (seat own : QuestionSeat) (result : Result QuestionGiven Unanswered) → seat ≡ own
    → Asks m (ask_at own) old new (λ given answer. stated entries given ≡ (question_at own, answer)) result
    → Asks m (ask_at seat) old new (λ given answer. stated entries given ≡ (question_at seat, answer)) result
at_seat m old new entries seat own result is x = subst (λ (s : QuestionSeat). Asks m (ask_at s) old new (λ given answer. stated entries given ≡ (question_at s, answer)) result) (sym is) x

-- ---- one proof is as good as another

pub can_prop : (version : Version) (depth : ℕ) (seat : QuestionSeat) → IsProp (CanAsk version depth seat)
can_prop version depth (seats.Query s) = hlevel props
can_prop version depth (seats.Lookup lookup root) = hlevel props
can_prop version depth (seats.Moment moment point) = hlevel props
can_prop version depth (seats.Large large root) = hlevel props

-- each of some seats can be asked
pub can_of : (version : Version) (depth : ℕ) (all : List QuestionSeat) (n : ℕ) (own : QuestionSeat) → n < length all → get_or all n own ≡ own → ∥ All (CanAsk version depth) all ∥₁ → CanAsk version depth own
can_of version depth all n own less at can = ∥∥₁_elim can (can_prop version depth own) (λ each. subst (CanAsk version depth) at (each n own less))
