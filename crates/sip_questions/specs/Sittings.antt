-- What is seen of the questions of a run while they are asked.
use Rattle.std.specs.Prelude.{◌≡◌, ◌≤◌, ℕ, pos, IsSomeAnd, IsTrue, Bool, false, All, List, [], map}
use Rattle.std.specs.Prelude.{length, Option, Some, None, Result, Ok, Err, if◌then◌else◌}
use Rattle.sip_heavy.specs.Checking.{Space}
use Rattle.sip_subvec.specs.Replies.{most_entries}
use Rattle.sip_vector.specs.declared.query.Query.{Query}
use Rattle.sip_vector.specs.declared.query.Query.TheVariants.{Sub, F2}
use Rattle.sip_vector.specs.declared.update.Entry.{Entry}
use Rattle.sip_vector.specs.declared.update.Side.{Side}
use Rattle.sip_vector.specs.declared.update.Update.{Update}
use Rattle.sip_vector.specs.Answers.{pairs, number}
use Rattle.sip_vector.specs.Thresholds.{is_wide}
use Rattle.sip_wire.specs.declared.version.Version.{Version}
use Rattle.sip_wire.specs.Versions.{Speaks}
use Rattle.sip_verifier.specs.declared.asker.Unanswered.{Unanswered}
use Rattle.sip_verifier.specs.declared.asker.Unanswered.TheVariants as unanswered
use Rattle.sip_verifier.specs.declared.session.SessionFault.{SessionFault}
use Rattle.sip_verifier.specs.declared.session.Verdict.{Verdict}
use Rattle.sip_verifier.specs.declared.session.Verdict.TheVariants as verdicts
use Rattle.sip_verifier.specs.declared.status.Status.{Status}
use Rattle.sip_verifier.specs.declared.status.Status.TheVariants as statuses
use Rattle.sip_verifier.specs.QuerySeats.{RunningNumbers, RunsOn, is_seat, point_is, root_is}
use Rattle.sip_verifier.specs.QuerySeats.{split_root_is}
use Rattle.sip_verifier.specs.Rooms.{most_nodes, most_places}
use Rattle.sip_verifier.specs.runs.Askers.{Remaining}
use Rattle.sip_verifier.specs.Widths.{is_wide_seat}
use Rattle.sip_above.specs.Questions.{CanAskLarge, most_nodes_of, query_of}
use Rattle.sip_lookup.specs.Lookups.{CanLook, item_of}
use Rattle.sip_lookup.specs.Sittings.{looked_of}
use Rattle.sip_moments.specs.Moments.{IsDegree, is_too_high}
use Rattle.sip_questions.specs.declared.asker.QuestionGiven.{QuestionGiven}
use Rattle.sip_questions.specs.declared.asker.QuestionGiven.TheVariants as givens
use Rattle.sip_questions.specs.declared.question.Question.{Question}
use Rattle.sip_questions.specs.declared.question.Question.TheVariants as questions
use Rattle.sip_questions.specs.declared.seat.QuestionSeat.{QuestionSeat}
use Rattle.sip_questions.specs.declared.seat.QuestionSeat.TheVariants as seats
use Rattle.sip_questions.specs.Questions.{Answered, first_by, to_query, to_lookup, to_moment}
use Rattle.sip_questions.specs.Questions.{to_large}

-- ---- a seat

-- the query whose running numbers serve a question too: of an entry for a lookup, of the second
-- moment of its side for a moment, and its own for large entries
abbrev pub query_like : Question → Query
query_like (questions.Query query) = query
query_like (questions.Lookup lookup) = Sub (item_of lookup) (item_of lookup)
query_like (questions.Moment moment) = F2 moment.side
query_like (questions.Large large) = query_of large

-- what is asked at a seat, at which challenges, and by which numbers
abbrev pub question_at : QuestionSeat → Question
question_at (seats.Query seat) = questions.Query seat.query
question_at (seats.Lookup lookup root) = questions.Lookup lookup
question_at (seats.Moment moment point) = questions.Moment moment
question_at (seats.Large large root) = questions.Large large

abbrev pub block_at : QuestionSeat → List ℕ
block_at (seats.Query seat) = seat.block
block_at (seats.Lookup lookup root) = root.seat
block_at (seats.Moment moment point) = point.seat
block_at (seats.Large large root) = root.seat

abbrev pub running_at : QuestionSeat → RunningNumbers
running_at (seats.Query seat) = seat.running
running_at (seats.Lookup lookup root) = root_is root.value
running_at (seats.Moment moment point) = point_is point.value
running_at (seats.Large large root) = split_root_is root.hash root.weight

abbrev pub ask_at : QuestionSeat → Question × List ℕ
ask_at seat = (question_at seat, block_at seat)

-- the numbers are those of this stream
abbrev pub StandsAt : ℕ → List Update → QuestionSeat → Type 0
StandsAt depth stream seat =
    RunsOn depth stream (query_like (question_at seat)) (block_at seat) (running_at seat)

-- it can be asked at this depth in this version
abbrev pub CanAsk : Version → ℕ → QuestionSeat → Type 0
CanAsk version depth (seats.Query seat) =
    IsTrue (is_seat depth seat) × Speaks version depth seat.query
CanAsk version depth (seats.Lookup lookup root) =
    (length root.seat ≡ depth) × CanLook depth lookup
CanAsk version depth (seats.Moment moment point) =
    (length point.seat ≡ depth) × IsDegree moment.degree
CanAsk version depth (seats.Large large root) =
    (length root.seat ≡ depth) × CanAskLarge version depth large

-- how many places the pairs of its answer need, and how many nodes a level of the replies may have
abbrev pub places_at : QuestionSeat → ℕ
places_at (seats.Query seat) = most_places seat.query seat.running
places_at (seats.Lookup lookup root) = most_entries
places_at (seats.Moment moment point) = 0
places_at (seats.Large large root) = most_nodes_of large root.weight

abbrev pub nodes_at : QuestionSeat → ℕ
nodes_at (seats.Query seat) = most_nodes seat.query seat.running
nodes_at (seats.Lookup lookup root) = 0
nodes_at (seats.Moment moment point) = 0
nodes_at (seats.Large large root) = most_nodes_of large root.weight

-- there is room for the nodes of each of these
abbrev pub LendsEnough : Option Space → List QuestionSeat → Type 0
LendsEnough space all = IsSomeAnd space (λ lent. All (λ s. nodes_at s ≤ lent.nodes) all)

-- why it may not be asked, by the numbers that it keeps and by the weights of the stream's sides
abbrev pub refusal_at : (Side → ℕ) → ℕ → QuestionSeat → Option Status
refusal_at weight n (seats.Query seat) =
    if is_wide_seat seat.query seat.running then Some (statuses.TooWide n) else None
refusal_at weight n (seats.Lookup lookup root) = None
refusal_at weight n (seats.Moment moment point) =
    if is_too_high (weight moment.side) moment.degree then Some (statuses.TooHigh n) else None
refusal_at weight n (seats.Large large root) =
    if is_wide large.at_least (pos root.weight) then Some (statuses.TooWide n) else None

-- ---- all of them

-- The version of the talk, the depth, the seats whose questions were not asked yet, the entries of
-- the last answer of pairs, and whether a call failed: then nothing more is asked.
pub record QuestionSitting : Type 0 where
  pub version : Version
  pub depth : ℕ
  pub left : List QuestionSeat
  pub entries : List Entry
  pub spent : Bool

-- what is still to be asked
abbrev pub remaining_of : QuestionSitting → Remaining Question
remaining_of s = record {
  version = s.version;
  depth = s.depth;
  left = map ask_at s.left;
  spent = s.spent;
}

-- the seats that are left stand for this stream
abbrev pub StandsOn : List Update → QuestionSitting → Type 0
StandsOn stream s = All (StandsAt s.depth stream) s.left

-- ---- answers

-- what was given, with the entries that are shown: the question, and the answer to it
abbrev pub stated : List Entry → QuestionGiven → Question × Answered
stated entries (givens.Number query value) = (questions.Query query, to_query (number value))
stated entries (givens.Pairs query) = (questions.Query query, to_query (pairs entries))
stated entries (givens.Lookup lookup answer) =
    (questions.Lookup lookup, to_lookup (looked_of answer))
stated entries (givens.Moment moment value) = (questions.Moment moment, to_moment value)
stated entries (givens.Large large) = (questions.Large large, to_large entries)

pub record States (s : QuestionSitting) (given : QuestionGiven) (question : Question)
    (answer : Answered) : Type 0 where
  pub same : stated s.entries given ≡ (question, answer)

-- what came of a query, where the entries are shown beside it
abbrev pub query_given : Query → Result Verdict SessionFault → Result QuestionGiven Unanswered
query_given query (Ok (verdicts.Number value)) = Ok (givens.Number query value)
query_given query (Ok verdicts.Pairs) = Ok (givens.Pairs query)
query_given query (Ok (verdicts.Rejected round reason)) = Err (unanswered.Rejected round reason)
query_given query (Err fault) = Err (unanswered.Fault fault)

-- ---- the start

-- All seats are left to be asked, and no entries are shown; or the first question that may not be
-- asked is named; or there is no memory.
abbrev pub Starts : Version → ℕ → (Side → ℕ) → List QuestionSeat → Result QuestionSitting Status
    → Type 0
Starts version depth weight all (Ok s) =
    (s.version ≡ version) × (s.depth ≡ depth) × (s.left ≡ all) × (s.entries ≡ [])
    × (s.spent ≡ false) × (first_by (refusal_at weight) 1 all ≡ None)
Starts version depth weight all (Err statuses.OutOfMemory) =
    first_by (refusal_at weight) 1 all ≡ None
Starts version depth weight all (Err status) = first_by (refusal_at weight) 1 all ≡ Some status
