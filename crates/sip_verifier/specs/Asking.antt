-- What a call that asks one query did.
use Rattle.std.specs.Prelude.{◌⊎◌, ℕ, List, Option, Result, Ok, Err}
use Rattle.sip_ports.specs.declared.port.TalkEvent.{TalkEvent}
use Rattle.sip_ports.specs.Ports.{GoesOn}
use Rattle.sip_vector.specs.declared.query.Query.{Query}
use Rattle.sip_vector.specs.declared.update.Entry.{Entry}
use Rattle.sip_vector.specs.declared.update.Update.{Update}
use Rattle.sip_vector.specs.Answers.{Answer, pairs, number}
use Rattle.sip_wire.specs.declared.message.Reason.{Reason}
use Rattle.sip_wire.specs.declared.version.Version.{Version}
use Rattle.sip_verifier.specs.declared.session.SessionFault.{SessionFault}
use Rattle.sip_verifier.specs.declared.session.SessionFault.TheVariants as faults
use Rattle.sip_verifier.specs.declared.session.Verdict.{Verdict}
use Rattle.sip_verifier.specs.declared.session.Verdict.TheVariants as verdicts
use Rattle.sip_verifier.specs.CountClause.{CountsFor}
use Rattle.sip_verifier.specs.Questions.{asking, said_for}
use Rattle.sip_verifier.specs.runs.Asking as runs
pub use Rattle.sip_verifier.specs.runs.Asking.{question_of}

module _ (version : Version) (depth : ℕ) (stream : List Update) (query : Query) (block : List ℕ)
    (old new : Option (List TalkEvent)) where
  -- all replies came and are accepted, and they state this answer
  abbrev pub IsAnswered : Answer → Type 0
  IsAnswered answer = runs.IsAnswered (asking version depth stream) query block old new answer

  -- the replies that came have this first fault
  abbrev pub IsRejected : ℕ → Reason → Type 0
  IsRejected round reason =
      runs.IsRejected (asking version depth stream) query block old new round reason

  -- the talk stopped, a reply is missing or not whole, and none has a fault so far
  abbrev pub IsInterrupted : Type 0
  IsInterrupted = runs.IsInterrupted (asking version depth stream) query block old new

  -- what came of the last reply could not be kept, and so was not judged
  abbrev pub IsUnrecorded : Type 0
  IsUnrecorded = runs.IsUnrecorded (asking version depth stream) query block old new

  -- What was answered, where the entries are those that the session shows then.
  abbrev pub Asks : List Entry → Result Verdict SessionFault → Type 0
  Asks entries (Ok (verdicts.Number n)) = IsAnswered (number n)
  Asks entries (Ok verdicts.Pairs) = IsAnswered (pairs entries)
  Asks entries (Ok (verdicts.Rejected round reason)) = IsRejected round reason
  Asks entries (Err faults.PeerFault) = IsInterrupted
  Asks entries (Err faults.KeepFault) = IsUnrecorded
  Asks entries (Err faults.OutOfMemory) = IsInterrupted ⊎ IsUnrecorded

  -- an answer counts for the replies that came
  pub record IsCounted (answer : Answer) : Type 0 where
    pub replies : List (List ℕ)
    pub talk : GoesOn old new (said_for version depth stream (question_of query block replies))
    pub counts : CountsFor version depth stream (question_of query block replies) answer

  -- So does each answer that is given.
  abbrev pub AnswersCount : List Entry → Result Verdict SessionFault → Type 0
  AnswersCount entries (Ok (verdicts.Number n)) = IsCounted (number n)
  AnswersCount entries (Ok verdicts.Pairs) = IsCounted (pairs entries)
  AnswersCount entries _ = Unit {0}
