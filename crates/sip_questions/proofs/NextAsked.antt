-- What came of the question at the first seat that is left.
use Rattle.std.proofs.Common.{◌≡◌, ℕ, ◌+◌, ◌<◌, ◌≤◌, Bool, List, length, get_or, Option, Some, None, Result, Ok, Err, inl, inr, sym, ap, subst, ◌∙◌}
use Rattle.std.specs.Option.{option_map}
use Rattle.std.specs.Prelude.{All, IsSomeAnd}
use Rattle.sip_heavy.specs.Checking.{Space}
use Rattle.sip_ports.specs.declared.port.TalkEvent.{TalkEvent}
use Rattle.sip_vector.specs.declared.update.Entry.{Entry}
use Rattle.sip_vector.specs.declared.update.Update.{Update}
use Rattle.sip_wire.specs.declared.version.Version.{Version}
use Rattle.sip_verifier.specs.declared.asker.Unanswered.{Unanswered}
use Rattle.sip_verifier.specs.declared.asker.Unanswered.TheVariants as unanswered
use Rattle.sip_verifier.specs.declared.session.SessionFault.TheVariants as faults
use Rattle.sip_verifier.specs.runs.Askers.{Asks, IsFirst, behind}
use Rattle.sip_verifier.specs.runs.Asking.{IsAnswered, IsInterrupted, IsRejected, IsUnrecorded}
use Rattle.sip_verifier.specs.runs.Manners.{Manner}
use Rattle.sip_questions.specs.declared.asker.QuestionGiven.{QuestionGiven}
use Rattle.sip_questions.specs.declared.question.Question.{Question}
use Rattle.sip_questions.specs.declared.seat.QuestionSeat.{QuestionSeat}
use Rattle.sip_questions.specs.Questions.{Answered, asking}
use Rattle.sip_questions.specs.Sittings.{QuestionSitting, StandsAt, StandsOn, States, ask_at, nodes_at, question_at, remaining_of, stated}
use Rattle.sip_questions.proofs.QuestionsLeft.{behind_now, first_is, first_stands, sitting_at, stand_behind, still_left}

-- what came of it, where what is given is seen with the entries that are shown
module _ (m : Manner Question Answered) (old new : Option (List TalkEvent)) (own ask : Question × List ℕ) (same : own ≡ ask) (s : QuestionSitting) where
  stated_next : (result : Result QuestionGiven Unanswered) → Asks m own old new (λ given answer. stated s.entries given ≡ (own.0, answer)) result → Asks m ask old new (λ given. States s given ask.0) result
  stated_next (Ok given) x = record {
    answer = x.answer;
    answered = subst (λ (a : Question × List ℕ). IsAnswered m a.0 a.1 old new x.answer) same x.answered;
    states = record { same = x.states ∙ ap (λ (a : Question × List ℕ). (a.0, x.answer)) same };
  }
  stated_next (Err (unanswered.Rejected round reason)) x = subst (λ (a : Question × List ℕ). IsRejected m a.0 a.1 old new round reason) same x
  stated_next (Err (unanswered.Fault faults.PeerFault)) x = subst (λ (a : Question × List ℕ). IsInterrupted m a.0 a.1 old new) same x
  stated_next (Err (unanswered.Fault faults.KeepFault)) x = subst (λ (a : Question × List ℕ). IsUnrecorded m a.0 a.1 old new) same x
  stated_next (Err (unanswered.Fault faults.OutOfMemory)) (inl x) = inl (subst (λ (a : Question × List ℕ). IsInterrupted m a.0 a.1 old new) same x)
  stated_next (Err (unanswered.Fault faults.OutOfMemory)) (inr x) = inr (subst (λ (a : Question × List ℕ). IsUnrecorded m a.0 a.1 old new) same x)

-- the questions once n of them were asked, seen from outside
module _ (version : Version) (depth : ℕ) (seats : List QuestionSeat) (n : ℕ) (entries : List Entry) (was : Bool) (now : QuestionSitting) (is : sitting_at version depth seats n entries was ≡ now) where
  -- there is a next one
  pub next_left : 0 < length (remaining_of now).left → n < length seats
  next_left left = still_left version depth seats n entries was (subst (λ (s : QuestionSitting). 0 < length (remaining_of s).left) (sym is) left)

  -- what came of it is what came of the first that is left
  pub next_asks : (d : QuestionSeat) → n < length seats → (own : QuestionSeat) → get_or seats n d ≡ own → (shown : List Entry) (failed : Bool) (old new : Option (List TalkEvent)) (result : Result QuestionGiven Unanswered)
      → ((stream : List Update) → StandsAt depth stream own → Asks (asking version depth stream) (ask_at own) old new (λ given answer. stated shown given ≡ (question_at own, answer)) result)
      → (stream : List Update) (ask : Question × List ℕ) → StandsOn stream now → IsFirst (remaining_of now) ask
      → Asks (asking (remaining_of now).version (remaining_of now).depth stream) ask old new (λ given. States (sitting_at version depth seats (n + 1) shown failed) given ask.0) result
  next_asks d less own at shown failed old new result asks stream ask stands first =
      let stands_here : StandsOn stream (sitting_at version depth seats n entries was) = subst (StandsOn stream) (sym is) stands in
      let first_here : IsFirst (remaining_of (sitting_at version depth seats n entries was)) ask = subst (λ (s : QuestionSitting). IsFirst (remaining_of s) ask) (sym is) first in
      let stand : StandsAt depth stream own = subst (StandsAt depth stream) at (first_stands version depth seats n entries was d less stream stands_here) in
      let same : ask_at own ≡ ask = sym (ap ask_at at) ∙ first_is version depth seats n entries was d less ask first_here in
      let here = stated_next (asking version depth stream) old new (ask_at own) ask same (sitting_at version depth seats (n + 1) shown failed) result (asks stream stand) in
      subst (λ (s : QuestionSitting). Asks (asking (remaining_of s).version (remaining_of s).depth stream) ask old new (λ given. States (sitting_at version depth seats (n + 1) shown failed) given ask.0) result) is here

  -- one is left less
  pub next_behind : (shown : List Entry) (failed : Bool) → remaining_of (sitting_at version depth seats (n + 1) shown failed) ≡ behind failed (remaining_of now)
  next_behind shown failed = behind_now version depth seats n entries was shown failed ∙ ap (λ (s : QuestionSitting). behind failed (remaining_of s)) is

  -- and those behind stand as before
  pub next_stand : (shown : List Entry) (failed : Bool) (stream : List Update) → StandsOn stream now → StandsOn stream (sitting_at version depth seats (n + 1) shown failed)
  next_stand shown failed stream stands = stand_behind version depth seats n entries was shown failed stream (subst (StandsOn stream) (sym is) stands)

-- ---- room for nodes

-- room for those of each is room for those of one
pub nodes_for : (space : Option Space) (seats : List QuestionSeat) (n : ℕ) (d own : QuestionSeat) → n < length seats → get_or seats n d ≡ own
    → IsSomeAnd space (λ lent. All (λ s. nodes_at s ≤ lent.nodes) seats) → IsSomeAnd space (λ lent. nodes_at own ≤ lent.nodes)
nodes_for None seats n d own less at all = absurd all
nodes_for (Some lent) seats n d own less at all = subst (λ (s : QuestionSeat). nodes_at s ≤ lent.nodes) at (all n d less)

-- and it stays so
pub nodes_kept : (seats : List QuestionSeat) (old new : Option Space) → option_map (λ (s : Space). s.nodes) new ≡ option_map (λ (s : Space). s.nodes) old
    → IsSomeAnd old (λ lent. All (λ s. nodes_at s ≤ lent.nodes) seats) → IsSomeAnd new (λ lent. All (λ s. nodes_at s ≤ lent.nodes) seats)
nodes_kept seats None new same all = absurd all
nodes_kept seats (Some one) None same all = absurd (let no = same in cc)
nodes_kept seats (Some one) (Some other) same all = λ k d less.
    let nodes : one.nodes ≡ other.nodes = cc in
    subst (λ (n : ℕ). nodes_at (get_or seats k d) ≤ n) nodes (all k d less)
