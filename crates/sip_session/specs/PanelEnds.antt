-- What a panel said on each link and wrote to its report, by the status that it ends with.
--
-- Each helper hears the opening, the stream and its end. Then each hears the queries that it was
-- asked, in the order of talk of a single run; where it was dropped its talk ends with the last
-- byte that shows the fault, or with the end of the link, and nothing is said to it any more. Once
-- all queries were answered, each helper that is left hears the farewell. Each attempt has a line:
-- that of the answer, or that of the helper which was dropped.
use Rattle.std.specs.Prelude.{◌≡◌, ◌⊎◌, ◌==◌, ◌&&◌, ◌<◌, ℕ, suc, List, [], ◌∷◌, ◌++◌, flat_map}
use Rattle.std.specs.Prelude.{length, slice_index_or, Option, Some, None, IfSome, if◌then◌else◌}
use Rattle.sip_ports.specs.declared.port.TalkEvent.{TalkEvent}
use Rattle.sip_replies.specs.Replies.{Fault}
use Rattle.sip_replies.specs.Talks.{IsPrefix, ending}
use Rattle.sip_vector.specs.declared.update.Update.{Update}
use Rattle.sip_wire.specs.declared.version.Version.{Version}
use Rattle.sip_verifier.specs.declared.status.Port.TheVariants as ports
use Rattle.sip_verifier.specs.declared.status.Status.{Status}
use Rattle.sip_verifier.specs.declared.status.Status.TheVariants as statuses
use Rattle.sip_verifier.specs.declared.task.Task.{Task}
use Rattle.sip_verifier.specs.Gathering.{EndsLegally, before_end, legal}
use Rattle.sip_verifier.specs.Questions.{IsUnjudged, IsWaiting, Question, said_for}
use Rattle.sip_verifier.specs.Reports.{dropped, line}
use Rattle.sip_verifier.specs.Talks.{bye_sent, stream_sent}
use Rattle.sip_verifier.specs.Tasks.{version_of}
use Rattle.sip_session.specs.PanelExchanges.{PanelExchange}
use Rattle.sip_session.specs.Panels.{Attempt, Outcome, Turn, accepted, rejected, are_answered}
use Rattle.sip_session.specs.Panels.{first_turn, is_left, turn_behind, IsOfTurn}

-- ---- lines

-- the line of an attempt
abbrev pub line_of : Turn → Question → Outcome → List ℕ
line_of turn q (accepted answer) = line q.query answer
line_of turn q (rejected fault) = dropped turn.helper turn.number fault.round fault.reason

abbrev pub lines : List Attempt → List ℕ
lines attempts = flat_map (λ a. line_of a.turn a.question a.outcome) attempts

-- ---- talks

-- what follows the last reply of an attempt
abbrev pub behind_replies : Outcome → List TalkEvent
behind_replies (accepted answer) = []
behind_replies (rejected fault) = ending fault.reason

-- what was said to a helper in attempts
abbrev pub said_to : Version → ℕ → List Update → ℕ → List Attempt → List TalkEvent
said_to version depth stream helper attempts = flat_map
    (λ a. if a.turn.helper == helper
    then said_for version depth stream a.question ++ behind_replies a.outcome else [])
    attempts

module _ (helpers : ℕ) (task : Task) (x : PanelExchange) where
  -- the legal records of the stream
  abbrev pub updates : List Update
  updates = legal task x.stream

  -- what each helper hears before it is asked
  abbrev pub all_sent : List TalkEvent
  all_sent = stream_sent (version_of task) task.depth updates

  -- this holds of each helper, counted from 1, and of all that was said on its link
  abbrev pub OfEach : (ℕ → List TalkEvent → Type 0) → Type 0
  OfEach holds = (length x.talks ≡ helpers)
      × ((place : ℕ) → place < helpers → holds (suc place) (slice_index_or x.talks place []))

  -- the stream was legal, was read to its end and was sent to each helper; then each heard its
  -- attempts, and after them what this says
  pub record Went (attempts : List Attempt) (rest : ℕ → List TalkEvent → Type 0) : Type 0 where
    pub to_end : EndsLegally task x.stream
    pub read : x.unread ≡ []
    pub talks : OfEach (λ helper talk. (more : List TalkEvent)
        × (talk ≡ all_sent
        ++ said_to (version_of task) task.depth updates helper attempts ++ more) × rest helper more)

  -- nothing more was said to any helper
  abbrev pub WentSilent : List Attempt → Type 0
  WentSilent attempts = Went attempts (λ helper more. more ≡ [])

  -- ---- ends

  -- every query was answered, each helper that is left heard the farewell, and every line was
  -- written
  pub record AllAnswered (attempts : List Attempt) : Type 0 where
    pub all : (turn_behind first_turn attempts).number ≡ suc (length task.queries.items)
    pub went : Went attempts (λ helper more. more
        ≡ (if is_left (turn_behind first_turn attempts) helper then bye_sent (version_of task)
        else []))
    pub report : x.report ≡ lines attempts

  -- the last attempt dropped the last helper, at this query and for this fault
  pub record AllDropped (attempts : List Attempt) (number : ℕ) (fault : Fault) : Type 0 where
    pub before : List Attempt
    pub last : Attempt
    pub are : attempts ≡ before ++ last ∷ []
    pub turn : last.turn ≡ record { helper = helpers; number = number }
    pub outcome : last.outcome ≡ rejected fault
    pub went : WentSilent attempts
    pub report : x.report ≡ lines attempts

  -- a front of the line of the last attempt was written, and all lines before
  pub record CutInLine (attempts : List Attempt) : Type 0 where
    pub before : List Attempt
    pub last : Attempt
    pub are : attempts ≡ before ++ last ∷ []
    pub went : WentSilent attempts
    pub part : List ℕ
    pub front : IsPrefix part (line_of last.turn last.question last.outcome)
    pub report : x.report ≡ lines before ++ part

  -- what is said for a question, where there is one
  abbrev pub said_for_any : Option Question → List TalkEvent
  said_for_any None = []
  said_for_any (Some q) = said_for (version_of task) task.depth updates q

  -- what a helper is still to hear where it is this turn and this question is asked
  abbrev pub due : Turn → Option Question → ℕ → List TalkEvent
  due turn current helper =
      (if turn.helper == helper then said_for_any current else [])
      ++ (if are_answered turn task.queries.items && is_left turn helper
      then bye_sent (version_of task) else [])

  -- Behind the attempts, whose lines were written, at most one helper heard more: a front of a
  -- question that waits for a reply. Or all queries were answered, and each helper that is left
  -- heard a front of the farewell.
  pub record CutInTalk (attempts : List Attempt) : Type 0 where
    pub current : Option Question
    pub of_turn : IfSome current
        (IsOfTurn helpers task x.seed x.stream (turn_behind first_turn attempts))
    pub waits : IfSome current
        (IsWaiting (version_of task) task.depth updates)
    pub went : Went attempts (λ helper more.
        IsPrefix more (due (turn_behind first_turn attempts) current helper))
    pub report : x.report ≡ lines attempts

  -- behind the attempts, whose lines were written, the last reply to a question was not judged
  pub record EndsUnjudged (attempts : List Attempt) : Type 0 where
    pub last : Question
    pub ended : List TalkEvent
    pub of_turn : IsOfTurn helpers task x.seed x.stream (turn_behind first_turn attempts) last
    pub unjudged : IsUnjudged (version_of task) task.depth updates
        last ended
    pub went : Went attempts (λ helper more. more
        ≡ (if (turn_behind first_turn attempts).helper == helper
        then said_for (version_of task) task.depth updates last
        ++ ended else []))
    pub report : x.report ≡ lines attempts

  -- No helper was asked, and nothing was written. Each heard a front of this.
  pub record NoneAsked (attempts : List Attempt) (most : List TalkEvent) : Type 0 where
    pub none : attempts ≡ []
    pub talks : OfEach (λ helper talk. IsPrefix talk most)
    pub report : x.report ≡ []

  -- No helper was asked, and nothing was written. Each heard this.
  pub record NoneAskedBehind (attempts : List Attempt) (said : List TalkEvent) : Type 0 where
    pub none : attempts ≡ []
    pub talks : OfEach (λ helper talk. talk ≡ said)
    pub report : x.report ≡ []

  -- what each helper may hear before it is asked
  abbrev pub MayHear : List TalkEvent → Type 0
  MayHear most = (EndsLegally task x.stream → most ≡ all_sent)
      × (¬ EndsLegally task x.stream → most ≡ before_end task x.stream)

  abbrev pub Ends : List Attempt → Status → Type 0
  Ends attempts statuses.Accepted = AllAnswered attempts
  Ends attempts (statuses.Rejected query round reason) =
      AllDropped attempts query (record { round = round; reason = reason })
  Ends attempts (statuses.BadStream at why) = NoneAskedBehind attempts (before_end task x.stream)
  Ends attempts statuses.BadSeed = NoneAskedBehind attempts []
  Ends attempts statuses.SeedSpent = NoneAskedBehind attempts []
  Ends attempts (statuses.TooWide query) = NoneAskedBehind attempts all_sent
  Ends attempts (statuses.ReadFault ports.First) = NoneAsked attempts (before_end task x.stream)
  Ends attempts (statuses.ReadFault ports.Second) = NoneAskedBehind attempts []
  Ends attempts (statuses.WriteFault ports.Report) = CutInLine attempts
  Ends attempts statuses.OutOfMemory =
      ((most : List TalkEvent) × MayHear most × NoneAsked attempts most)
      ⊎ CutInTalk attempts ⊎ CutInLine attempts ⊎ EndsUnjudged attempts
  Ends attempts _ = ⊥
