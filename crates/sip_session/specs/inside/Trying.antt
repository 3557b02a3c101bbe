-- What calls did that ask helpers of a panel. (For the proof of `panel` alone.)
use Rattle.std.specs.Prelude.{◌≡◌, ◌⊎◌, ◌==◌, ◌≤◌, ℕ, suc, List, [], ◌∷◌, ◌++◌, All, OnOk, Option}
use Rattle.std.specs.Prelude.{Some, false, slice_get, Result, Ok, Err, if◌then◌else◌}
use Rattle.sip_ports.specs.declared.port.TalkEvent.{TalkEvent}
use Rattle.sip_ports.specs.Ports.{GoesOn, outs}
use Rattle.sip_replies.specs.Replies.{Fault}
use Rattle.sip_replies.specs.Talks.{IsPrefix}
use Rattle.sip_vector.specs.declared.query.Query.{Query}
use Rattle.sip_vector.specs.declared.update.Update.{Update}
use Rattle.sip_vector.specs.Answers.{Answer}
use Rattle.sip_wire.specs.declared.message.Reason.{Reason}
use Rattle.sip_wire.specs.declared.version.Version.{Version}
use Rattle.sip_verifier.specs.declared.status.Port.TheVariants as ports
use Rattle.sip_verifier.specs.declared.status.Status.{Status}
use Rattle.sip_verifier.specs.declared.status.Status.TheVariants as statuses
use Rattle.sip_verifier.specs.Reports.{dropped}
use Rattle.sip_verifier.specs.runs.Asking.{IsRejected}
use Rattle.sip_verifier.specs.runs.Manners.{Manner}
use Rattle.sip_verifier.specs.runs.Progress.{HasNone, Passes, PassesInPart, StaysUnjudged}
use Rattle.sip_verifier.specs.Questions.{IsUnjudged, IsWaiting, Question, said_for}
use Rattle.sip_verifier.specs.QuerySeats.{StandsFor}
use Rattle.sip_verifier.specs.Sittings.{Sitting}
use Rattle.sip_verifier.specs.Snapshots.{counts}
use Rattle.sip_verifier.specs.Statuses.{Stops, stops_asking}
use Rattle.sip_session.specs.declared.panel_asking.At.{At}
use Rattle.sip_session.specs.declared.panel_asking.Came.{Came}
use Rattle.sip_session.specs.declared.panel_asking.Came.TheVariants as cames
use Rattle.sip_session.specs.inside.Hearing.{AllTalks, Each}
use Rattle.sip_session.specs.PanelEnds.{line_of, lines, said_to}
use Rattle.sip_session.specs.Panels.{Attempt, AreInTurn, IsJudged, Turn, first_turn, rejected}
use Rattle.sip_session.specs.Panels.{seat_at, turn_behind}

-- ---- what each call keeps that asks

-- The session is in the state `before` and then `now`; the report had failed so often, and so often
-- then.
pub record AsksOn {T : Type 0} (before now : Sitting) (faults faulted : ℕ)
    (result : Result T Status) : Type 0 where
  -- the seats that are left stand for the same streams
  pub stands : (stream : List Update) → All (StandsFor before.depth stream) before.left
      → All (StandsFor now.depth stream) now.left
  pub version : now.version ≡ before.version
  pub depth : now.depth ≡ before.depth
  -- queries may be asked unless the call stopped
  pub live : OnOk result (now.spent ≡ false)
  -- a fault of the report comes only where its own count rose, and no link has one
  pub fault : Stops stops_asking (counts 0 0 0 faults 0) (counts 0 0 0 faulted 0) result

-- ---- one helper

module _ (m : Manner Query Answer) (ask : Query × List ℕ) (helper number : ℕ)
    (old new blank full : Option (List TalkEvent)) where
  -- its replies were rejected, and the line of the helper that is dropped was written
  pub record Drops (round : ℕ) (reason : Reason) : Type 0 where
    pub rejected : IsRejected m ask.0 ask.1 old new round reason
    pub wrote : GoesOn blank full (outs (dropped helper number round reason))

  -- the same, and a front of that line was written
  pub record DropsInPart : Type 0 where
    pub round : ℕ
    pub reason : Reason
    pub rejected : IsRejected m ask.0 ask.1 old new round reason
    pub part : List ℕ
    pub front : IsPrefix part (dropped helper number round reason)
    pub wrote : GoesOn blank full (outs part)

  -- it stopped in a line
  abbrev pub StopsInLine : Type 0
  StopsInLine = PassesInPart m ask.0 ask.1 number old new blank full ⊎ DropsInPart

  -- what came of asking one helper
  abbrev pub Tries : Result Came Status → Type 0
  Tries (Ok cames.Answered) = Passes m ask.0 ask.1 number old new blank full
  Tries (Ok (cames.Dropped round reason)) = Drops round reason
  Tries (Err (statuses.WriteFault ports.Report)) = StopsInLine
  Tries (Err statuses.OutOfMemory) =
      StopsInLine ⊎ HasNone m ask.0 ask.1 number old new blank full
      ⊎ StaysUnjudged m ask.0 ask.1 number old new blank full
  Tries (Err _) = ⊥

-- ---- several helpers

-- the turn where so many helpers were dropped and so many queries answered
abbrev pub turn_at : ℕ → ℕ → Turn
turn_at gone asked = record { helper = suc gone; number = suc asked }

-- a turn is within so many helpers and queries, and this is its seat of these
pub record IsSeated (helpers queries : ℕ) (asks : List (Query × List ℕ)) (turn : Turn)
    (q : Question) : Type 0 where
  pub helper : turn.helper ≤ helpers
  pub number : turn.number ≤ queries
  pub seat : slice_get asks (seat_at helpers turn) ≡ Some (q.query, q.block)

-- the talks and the report from the first attempt on
module _ (version : Version) (depth : ℕ) (stream : List Update) (helpers queries : ℕ)
    (asks : List (Query × List ℕ)) (old new : AllTalks) (blank full : Option (List TalkEvent)) where
  -- the attempts were made in turn, each at its own seat, and were judged; each helper heard its
  -- own, and then what this says; and this was written
  pub record Trail (attempts : List Attempt) (rest : ℕ → List TalkEvent → Type 0)
      (written : List ℕ) : Type 0 where
    pub in_turn : AreInTurn first_turn attempts
    pub seats : All (λ a. IsSeated helpers queries asks a.turn a.question) attempts
    pub judged : All (λ a. IsJudged version depth stream a.question a.outcome) attempts
    pub talks : Each (λ place o n. (more : List TalkEvent) × rest (suc place) more
        × (n ≡ o ++ said_to version depth stream (suc place) attempts ++ more)) old new
    pub report : GoesOn blank full (outs written)

  -- the same, where no helper heard more
  abbrev pub Silent : List Attempt → List ℕ → Type 0
  Silent attempts written = Trail attempts (λ helper more. more ≡ []) written

  -- they come to this turn, and all their lines were written
  pub record TrailsTo (turn : Turn) : Type 0 where
    pub attempts : List Attempt
    pub trail : Silent attempts (lines attempts)
    pub behind : turn_behind first_turn attempts ≡ turn

  -- they dropped all helpers, the last one at this query for this fault
  pub record TrailsOut (number : ℕ) (fault : Fault) : Type 0 where
    pub before : List Attempt
    pub last : Attempt
    pub trail : Silent (before ++ last ∷ []) (lines (before ++ last ∷ []))
    pub turn : last.turn ≡ record { helper = helpers; number = number }
    pub outcome : last.outcome ≡ rejected fault

  -- a front of the line of the last one was written
  pub record TrailsInLine : Type 0 where
    pub before : List Attempt
    pub last : Attempt
    pub part : List ℕ
    pub front : IsPrefix part (line_of last.turn last.question last.outcome)
    pub trail : Silent (before ++ last ∷ []) (lines before ++ part)

  -- behind them a helper heard a front of a question that waits for a reply
  pub record TrailsInTalk : Type 0 where
    pub attempts : List Attempt
    pub current : Question
    pub seat : IsSeated helpers queries asks (turn_behind first_turn attempts) current
    pub waits : IsWaiting version depth stream current
    pub trail : Trail attempts (λ helper more. IsPrefix more
        (if (turn_behind first_turn attempts).helper == helper
        then said_for version depth stream current else [])) (lines attempts)

  -- behind them the last reply to a question was not judged
  pub record TrailsUnjudged : Type 0 where
    pub attempts : List Attempt
    pub last : Question
    pub ended : List TalkEvent
    pub seat : IsSeated helpers queries asks (turn_behind first_turn attempts) last
    pub unjudged : IsUnjudged version depth stream last ended
    pub trail : Trail attempts (λ helper more. more
        ≡ (if (turn_behind first_turn attempts).helper == helper
        then said_for version depth stream last ++ ended else [])) (lines attempts)

  -- how they stopped
  abbrev pub Halts : Status → Type 0
  Halts (statuses.Rejected query round reason) =
      TrailsOut query (record { round = round; reason = reason })
  Halts (statuses.WriteFault ports.Report) = TrailsInLine
  Halts statuses.OutOfMemory = TrailsInLine ⊎ TrailsInTalk ⊎ TrailsUnjudged
  Halts _ = ⊥

  -- what came of asking helpers in turn, until all queries were answered; the answer is how many
  -- helpers were dropped
  abbrev pub Trails : Result ℕ Status → Type 0
  Trails (Ok gone) = TrailsTo (turn_at gone queries)
  Trails (Err status) = Halts status

  -- what came of attempts up to one more, by where it leads
  abbrev pub Leads : Result At Status → Type 0
  Leads (Ok at) = TrailsTo (turn_at at.gone at.asked)
  Leads (Err status) = Halts status
