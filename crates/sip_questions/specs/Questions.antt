-- How questions of every kind are asked in one talk, and how the replies are judged: each in the
-- manner of its kind.
use Rattle.std.specs.Prelude.{◌≡◌, ℕ, suc, ℤ, List, [], ◌∷◌, Option, Some, None, flat_map}
use Rattle.std.specs.Prelude.{if◌then◌else◌}
use Rattle.sip_ports.specs.declared.port.TalkEvent.{TalkEvent}
use Rattle.sip_vector.specs.declared.query.Query.{Query}
use Rattle.sip_vector.specs.declared.update.Entry.{Entry}
use Rattle.sip_vector.specs.declared.update.Update.{Update}
use Rattle.sip_vector.specs.Answers.{Answer}
use Rattle.sip_wire.specs.declared.message.Message.TheVariants as messages
use Rattle.sip_wire.specs.declared.version.Version.{Version}
use Rattle.sip_wire.specs.Spelling.{spelling}
use Rattle.sip_wire.specs.Versions.{needed}
use Rattle.sip_replies.specs.Replies.{Fault}
use Rattle.sip_verifier.specs.declared.status.Status.{Status}
use Rattle.sip_verifier.specs.declared.status.Status.TheVariants as statuses
use Rattle.sip_verifier.specs.Questions as queries
use Rattle.sip_verifier.specs.Widths.{is_too_wide}
use Rattle.sip_verifier.specs.runs.Manners as manners
use Rattle.sip_verifier.specs.runs.Manners.{Asking, Manner}
use Rattle.sip_above.specs.declared.large.Large.{Large}
use Rattle.sip_above.specs.Manner as larges
use Rattle.sip_above.specs.Questions.{query_of}
use Rattle.sip_lookup.specs.declared.lookup.Lookup.{Lookup}
use Rattle.sip_lookup.specs.Lookups.{Looked}
use Rattle.sip_lookup.specs.Questions as lookups
use Rattle.sip_moments.specs.declared.moment.Moment.{Moment}
use Rattle.sip_moments.specs.Manner as moments
use Rattle.sip_questions.specs.declared.question.Question.{Question}
use Rattle.sip_questions.specs.declared.question.Question.TheVariants as questions

-- an answer to a question, in the form that its kind has
pub data Answered : Type 0 where
  to_query : Answer → Answered
  to_lookup : Looked → Answered
  to_moment : ℤ → Answered
  to_large : List Entry → Answered

-- a question with its block and the replies that were taken
abbrev pub Posed : Type 0
Posed = manners.Question Question

-- the same of one kind
abbrev pub as_of : {Q : Type 0} → Posed → Q → manners.Question Q
as_of q query = record { query = query; block = q.block; replies = q.replies }

-- the queries among these questions, and those that ask for large entries: they say in which
-- version they can be asked
abbrev pub queries_among : List Question → List Query
queries_among [] = []
queries_among (questions.Query q ∷ more) = q ∷ queries_among more
queries_among (questions.Lookup l ∷ more) = queries_among more
queries_among (questions.Moment m ∷ more) = queries_among more
queries_among (questions.Large l ∷ more) = query_of l ∷ queries_among more

-- the version of the talk: the least one in which the questions can be asked at the depth
abbrev pub version_for : ℕ → List Question → Version
version_for depth asked = needed depth (queries_among asked)

-- ---- each in the manner of its kind

module _ (version : Version) (depth : ℕ) (stream : List Update) where
  abbrev pub by_query : Manner Query Answer
  by_query = queries.asking version depth stream

  abbrev pub by_lookup : Manner Lookup Looked
  by_lookup = lookups.looking version depth stream

  abbrev pub by_moment : Manner Moment ℤ
  by_moment = moments.asking version depth stream

  abbrev pub by_large : Manner Large (List Entry)
  by_large = larges.asking version depth stream

  -- what is said for a question
  abbrev pub said_of : Posed → Question → List TalkEvent
  said_of q (questions.Query query) = by_query.said_for (as_of q query)
  said_of q (questions.Lookup lookup) = by_lookup.said_for (as_of q lookup)
  said_of q (questions.Moment moment) = by_moment.said_for (as_of q moment)
  said_of q (questions.Large large) = by_large.said_for (as_of q large)

  -- its replies are accepted, and this is the answer that they state
  abbrev pub AcceptsOf : Posed → Question → Answered → Type 0
  AcceptsOf q (questions.Query query) (to_query answer) = by_query.Accepts (as_of q query) answer
  AcceptsOf q (questions.Lookup lookup) (to_lookup answer) =
      by_lookup.Accepts (as_of q lookup) answer
  AcceptsOf q (questions.Moment moment) (to_moment answer) =
      by_moment.Accepts (as_of q moment) answer
  AcceptsOf q (questions.Large large) (to_large answer) = by_large.Accepts (as_of q large) answer
  AcceptsOf q _ _ = ⊥

  abbrev pub IsFaultyOf : Posed → Question → Fault → Type 0
  IsFaultyOf q (questions.Query query) = by_query.IsFaulty (as_of q query)
  IsFaultyOf q (questions.Lookup lookup) = by_lookup.IsFaulty (as_of q lookup)
  IsFaultyOf q (questions.Moment moment) = by_moment.IsFaulty (as_of q moment)
  IsFaultyOf q (questions.Large large) = by_large.IsFaulty (as_of q large)

  abbrev pub IsUnfinishedOf : Posed → Question → Type 0
  IsUnfinishedOf q (questions.Query query) = by_query.IsUnfinished (as_of q query)
  IsUnfinishedOf q (questions.Lookup lookup) = by_lookup.IsUnfinished (as_of q lookup)
  IsUnfinishedOf q (questions.Moment moment) = by_moment.IsUnfinished (as_of q moment)
  IsUnfinishedOf q (questions.Large large) = by_large.IsUnfinished (as_of q large)

  abbrev pub IsWaitingOf : Posed → Question → Type 0
  IsWaitingOf q (questions.Query query) = by_query.IsWaiting (as_of q query)
  IsWaitingOf q (questions.Lookup lookup) = by_lookup.IsWaiting (as_of q lookup)
  IsWaitingOf q (questions.Moment moment) = by_moment.IsWaiting (as_of q moment)
  IsWaitingOf q (questions.Large large) = by_large.IsWaiting (as_of q large)

  abbrev pub IsUnjudgedOf : Posed → Question → List TalkEvent → Type 0
  IsUnjudgedOf q (questions.Query query) = by_query.IsUnjudged (as_of q query)
  IsUnjudgedOf q (questions.Lookup lookup) = by_lookup.IsUnjudged (as_of q lookup)
  IsUnjudgedOf q (questions.Moment moment) = by_moment.IsUnjudged (as_of q moment)
  IsUnjudgedOf q (questions.Large large) = by_large.IsUnjudged (as_of q large)

  -- the line of an accepted question; an answer in another form has none
  abbrev pub line_of : Question → Answered → List ℕ
  line_of (questions.Query query) (to_query answer) = by_query.line query answer
  line_of (questions.Lookup lookup) (to_lookup answer) = by_lookup.line lookup answer
  line_of (questions.Moment moment) (to_moment answer) = by_moment.line moment answer
  line_of (questions.Large large) (to_large answer) = by_large.line large answer
  line_of _ _ = []

-- ---- what is refused before the first is asked

-- the question with this number may have too wide an answer, or one that a claim has no room for
abbrev pub refusal_of : List Update → ℕ → Question → Option Status
refusal_of stream number (questions.Query query) =
    if is_too_wide stream query then Some (statuses.TooWide number) else None
refusal_of stream number (questions.Lookup lookup) = None
refusal_of stream number (questions.Moment moment) =
    if moments.is_high stream moment then Some (statuses.TooHigh number) else None
refusal_of stream number (questions.Large large) =
    if larges.is_too_wide stream large then Some (statuses.TooWide number) else None

-- the first of these, if there is one, and else that of the questions behind
abbrev pub or_else : Option Status → Option Status → Option Status
or_else (Some status) later = Some status
or_else None later = later

-- that of the first that has one, where they are counted from this number on
abbrev pub first_by : {Q : Type 0} → (ℕ → Q → Option Status) → ℕ → List Q → Option Status
first_by refuses number [] = None
first_by refuses number (q ∷ more) =
    or_else (refuses number q) (first_by refuses (suc number) more)

abbrev pub first_refusal : List Update → ℕ → List Question → Option Status
first_refusal stream = first_by (refusal_of stream)

-- ---- the questions of a run

-- How questions are asked and judged. The talk ends with a Bye.
abbrev pub asking : Asking Question Answered
asking version depth stream = record {
  said_for = λ q. said_of version depth stream q q.query;
  Accepts = λ q answer. AcceptsOf version depth stream q q.query answer;
  IsFaulty = λ q fault. IsFaultyOf version depth stream q q.query fault;
  IsUnfinished = λ q. IsUnfinishedOf version depth stream q q.query;
  IsWaiting = λ q. IsWaitingOf version depth stream q q.query;
  IsUnjudged = λ q ended. IsUnjudgedOf version depth stream q q.query ended;
  line = line_of version depth stream;
  farewell = flat_map (spelling version) (messages.Bye ∷ []);
  MayAsk = λ asked. first_refusal stream 1 asked ≡ None;
  Refuses = λ asked status. first_refusal stream 1 asked ≡ Some status;
}
