-- Honest helpers of a panel: why they may be dropped, and what they come to. `PanelClause` promises
-- it of each run.
--
-- A helper is honest here where the talk of its link is an honest one: by the turns of a helper, up
-- to where the other side left them, or to the end. Such is the talk of each link to a helper that
-- tells its state and had heard nothing.
use Rattle.std.specs.Prelude.{◌≡◌, ◌≢◌, ◌⊎◌, ◌-◌, ◌<◌, ◌≤◌, ⊤, ℕ, List, [], ◌∷◌, ◌++◌, flat_map}
use Rattle.std.specs.Prelude.{length, slice_index_or, All, Some}
use Rattle.sip_duel.specs.Story.{IsHonestTalk}
use Rattle.sip_helper.specs.KindRows.{not_strict, too_many, want_of_memory}
use Rattle.sip_replies.specs.Replies.{Fault}
use Rattle.sip_subvec.specs.Replies.{most_entries}
use Rattle.sip_vector.specs.declared.query.Query.{Query}
use Rattle.sip_vector.specs.declared.query.Query.TheVariants.{Sub, Heavy, Share}
use Rattle.sip_vector.specs.declared.update.Side.TheVariants.{First}
use Rattle.sip_vector.specs.declared.update.Update.{Update}
use Rattle.sip_vector.specs.Answers.{Answer, answer}
use Rattle.sip_vector.specs.Limits.{most_depth}
use Rattle.sip_vector.specs.Streams.{IsStrict, vector}
use Rattle.sip_vector.specs.Vectors.{nonzero_within}
use Rattle.sip_wire.specs.declared.message.Reason.{Reason}
use Rattle.sip_wire.specs.declared.message.Reason.TheVariants as reasons
use Rattle.sip_wire.specs.Table.{most_queries}
use Rattle.sip_verifier.specs.declared.status.Status.{Status}
use Rattle.sip_verifier.specs.declared.status.Status.TheVariants as statuses
use Rattle.sip_verifier.specs.declared.task.Task.{Task}
use Rattle.sip_verifier.specs.CompletenessClause.{HasFewEntries, NoneRose}
use Rattle.sip_verifier.specs.Gathering.{EndsLegally, legal}
use Rattle.sip_verifier.specs.Snapshots.{Counts}
use Rattle.sip_verifier.specs.Questions.{Question, asking}
use Rattle.sip_verifier.specs.Reports.{line, report_of}
use Rattle.sip_verifier.specs.runs.CauseClause.{CanBeJudged}
use Rattle.sip_verifier.specs.Tasks.{CanBeDone, version_of}
use Rattle.sip_session.specs.PanelExchanges.{PanelExchange, without_links}
use Rattle.sip_session.specs.Panels.{Attempt, AreAttempts, Outcome, accepted, rejected}
use Rattle.sip_session.specs.Panels.{inquiry_of_panel}

-- ---- why an honest helper may be dropped

-- the query is for a sub-vector with more entries than may be sent
abbrev pub IsTooLong : ℕ → List Update → Query → Type 0
IsTooLong depth stream (Sub lo hi) =
    most_entries < length (nonzero_within lo hi (vector depth stream First))
IsTooLong depth stream _ = ⊥

-- where heavy hitters are asked for, no entry of the side is negative
abbrev pub IsOnStrictSide : ℕ → List Update → Query → Type 0
IsOnStrictSide depth stream (Heavy side at_least) = IsStrict depth stream side
IsOnStrictSide depth stream (Share side num den) = IsStrict depth stream side
IsOnStrictSide depth stream _ = ⊤

-- it refused the query for want of memory; or for an answer with too many entries, where it has so
-- many; or for a negative entry, where there is one
abbrev pub IsRight : ℕ → List Update → Query → Reason → Type 0
IsRight depth stream query (reasons.Refused code) =
    (code ≡ want_of_memory)
    ⊎ ((code ≡ too_many) × IsTooLong depth stream query)
    ⊎ ((code ≡ not_strict) × (¬ IsOnStrictSide depth stream query))
IsRight depth stream query _ = ⊥

-- ---- attempts

-- this holds of the fault for which a helper was dropped, where it was
abbrev pub OfFault : (Fault → Type 0) → Outcome → Type 0
OfFault holds (accepted answer) = ⊤
OfFault holds (rejected fault) = holds fault

-- this holds of the answer of an attempt, where it has one
abbrev pub OfAnswer : (Answer → Type 0) → Outcome → Type 0
OfAnswer holds (accepted answer) = holds answer
OfAnswer holds (rejected fault) = ⊤

-- the line of an answer, where an attempt has one
abbrev pub answer_line : Question → Outcome → List ℕ
answer_line q (accepted answer) = line q.query answer
answer_line q (rejected fault) = []

-- the lines of answers alone
abbrev pub answer_lines : List Attempt → List ℕ
answer_lines attempts = flat_map (λ a. answer_line a.question a.outcome) attempts

-- one of the attempts dropped this helper, for this reason
pub record WasDropped (attempts : List Attempt) (helper : ℕ) (reason : Reason) : Type 0 where
  pub earlier : List Attempt
  pub last : Attempt
  pub later : List Attempt
  pub are : attempts ≡ earlier ++ last ∷ later
  pub who : last.turn.helper ≡ helper
  pub round : ℕ
  pub outcome : last.outcome ≡ rejected (record { round = round; reason = reason })

-- a run of which every helper was dropped
abbrev pub IsRejected : Status → Type 0
IsRejected status =
    (query round : ℕ) × (reason : Reason) × (status ≡ statuses.Rejected query round reason)

module _ (helpers : ℕ) (task : Task) (x : PanelExchange) where
  -- the task can be done, and these are attempts at it
  pub record IsAttempted (attempts : List Attempt) : Type 0 where
    pub some : 1 ≤ task.depth
    pub most : task.depth ≤ most_depth
    pub room : length task.queries.items ≤ most_queries
    pub can : CanBeDone task
    pub are : AreAttempts helpers task x.seed x.stream attempts

  -- where a helper was asked, the queries might be
  abbrev pub MightBeAsked : List Attempt → Type 0
  MightBeAsked attempts = attempts ≢ []
      → CanBeJudged asking (inquiry_of_panel helpers task x.seed) (without_links x)

  -- the talk with this helper, counted from 1, is an honest one
  abbrev pub IsHonest : ℕ → Type 0
  IsHonest helper = IsHonestTalk (slice_index_or x.talks (helper - 1) [])

  -- one of the helpers is honest
  abbrev pub HasHonest : Type 0
  HasHonest = (helper : ℕ) × (1 ≤ helper) × (helper ≤ helpers) × IsHonest helper

  -- each of them is
  abbrev pub AreHonest : Type 0
  AreHonest = (helper : ℕ) → 1 ≤ helper → helper ≤ helpers → IsHonest helper

  -- the seed and the stream are good, and an honest helper can answer each query
  pub record IsGood : Type 0 where
    pub challenges : List ℕ
    pub drawn : (inquiry_of_panel helpers task x.seed).challenges ≡ Some challenges
    pub to_end : EndsLegally task x.stream
    pub few : All (HasFewEntries (version_of task) task.depth (legal task x.stream))
        task.queries.items

  module _ (attempts : List Attempt) where
    -- no honest helper is dropped for another reason
    abbrev pub AreDroppedRightly : Type 0
    AreDroppedRightly = All (λ a. IsHonest a.turn.helper
        → OfFault (λ fault. IsRight task.depth (legal task x.stream) a.question.query fault.reason)
        a.outcome) attempts

    -- each honest helper was dropped, for want of memory
    abbrev pub RanOut : Type 0
    RanOut = (helper : ℕ) → 1 ≤ helper → helper ≤ helpers → IsHonest helper
        → WasDropped attempts helper (reasons.Refused want_of_memory)

    -- Where one helper is honest, and the seed, the stream and the limits are good, and no port
    -- failed, each query is answered; or memory ran out: at this end, or at each honest helper's,
    -- which was dropped for it.
    abbrev pub IsCarried : Counts → Counts → Status → Type 0
    IsCarried before now status =
        HasHonest → IsGood → NoneRose before now
        → (status ≡ statuses.Accepted) ⊎ (status ≡ statuses.OutOfMemory)
        ⊎ (IsRejected status × RanOut)

    -- Each answer is the stream's own. Where all queries were answered, the lines of answers are
    -- those of a report with the stream's own answers, and none is left out.
    pub record AreOwn (status : Status) : Type 0 where
      pub each : All (λ a. OfAnswer (λ given. given
          ≡ answer task.depth (legal task x.stream) a.question.query) a.outcome) attempts
      pub all : status ≡ statuses.Accepted → answer_lines attempts
          ≡ report_of task.depth (legal task x.stream) task.queries.items

    -- where each helper is honest, and no side that is asked for heavy hitters has a negative
    -- entry, the answers are so
    abbrev pub AnswersAreOwn : Status → Type 0
    AnswersAreOwn status =
        AreHonest
        → All (IsOnStrictSide task.depth (legal task x.stream)) task.queries.items
        → AreOwn status
