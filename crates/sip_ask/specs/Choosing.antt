-- Which seat of a sketch each question takes, and why nothing is asked of it.
use Rattle.std.specs.Prelude.{ℕ, suc, ◌+◌, ◌^◌, ◌==◌, Bool, false, not, ◌&&◌, nat_le, nat_lt}
use Rattle.std.specs.Prelude.{pos, List, [], ◌∷◌, ◌++◌, length, Option, Some, None, Result, Ok, Err}
use Rattle.std.specs.Prelude.{if◌then◌else◌}
use Rattle.std.specs.List.{list_any}
use Rattle.sip_vector.specs.Steps.{◌>>=◌, needs}
use Rattle.sip_vector.specs.Thresholds.{is_wide, share_of}
use Rattle.sip_vector.specs.declared.query.Query.{Query}
use Rattle.sip_vector.specs.declared.query.Query.TheVariants as queries
use Rattle.sip_vector.specs.declared.tally.Tally.{Tally}
use Rattle.sip_vector.specs.declared.update.Side.{Side}
use Rattle.sip_vector.specs.declared.update.Side.TheVariants.{First, Second}
use Rattle.sip_wire.specs.Table.{most_degree}
use Rattle.sip_verifier.specs.QuerySeats.{can_be_asked, does_fit}
use Rattle.sip_above.specs.Questions.{query_of}
use Rattle.sip_lookup.specs.Lookups.{item_of}
use Rattle.sip_moments.specs.Moments.{is_too_high, least_degree}
use Rattle.sip_questions.specs.Sittings.{query_like}
use Rattle.sip_questions.specs.declared.question.Question.{Question}
use Rattle.sip_questions.specs.declared.question.Question.TheVariants as questions
use Rattle.sip_sketch.specs.Fields.{on}
use Rattle.sip_sketch.specs.Joining.{is_whole}
use Rattle.sip_sketch.specs.Sketches.{SeatValues, SketchValues, code_of}
use Rattle.sip_sketch.specs.declared.kind.SeatKind.{SeatKind}
use Rattle.sip_sketch.specs.declared.kind.SeatKind.TheVariants as kinds
use Rattle.sip_ask.specs.declared.status.AskStatus.{AskStatus}
use Rattle.sip_ask.specs.declared.status.AskStatus.TheVariants as statuses

-- ---- what is told of a side

abbrev pub weight_told : Tally → Side → ℕ
weight_told t First = t.first
weight_told t Second = t.second

abbrev pub negative_told : Tally → Side → Bool
negative_told t First = t.negatives.first
negative_told t Second = t.negatives.second

-- ---- a question

-- the kind of seat that serves a query
abbrev pub kind_of : Query → SeatKind
kind_of (queries.Sub lo hi) = kinds.Entries
kind_of (queries.Range side lo hi) = kinds.Sums side
kind_of (queries.F2 side) = kinds.Sums side
kind_of queries.Inner = kinds.Products
kind_of (queries.Heavy side at_least) = kinds.Heavy side
kind_of (queries.Share side num den) = kinds.Heavy side
kind_of (queries.Above side at_least) = kinds.Above side

-- the kind that serves a question: that of the query that is like it
abbrev pub kind_for : Question → SeatKind
kind_for question = kind_of (query_like question)

-- it can be asked at this depth
abbrev pub fits : ℕ → Question → Bool
fits depth (questions.Query query) = can_be_asked depth query
fits depth (questions.Lookup lookup) = nat_lt (item_of lookup) (2 ^ depth)
fits depth (questions.Moment moment) =
    nat_le least_degree moment.degree && nat_le moment.degree most_degree
fits depth (questions.Large large) = does_fit depth (query_of large)

-- The side whose heavy hitters a query asks for, and how large they are at least, by what is told
-- of the stream: the total of a side of which no delta was below 0 is its weight.
abbrev pub large_of : Tally → Query → Option (Side × ℕ)
large_of t (queries.Heavy side at_least) = Some (side, at_least)
large_of t (queries.Share side num den) =
    Some (side, share_of num den (pos (weight_told t side)))
large_of t _ = None

-- the same of a question for large entries too
abbrev pub large : Tally → Question → Option (Side × ℕ)
large t (questions.Query query) = large_of t query
large t (questions.Lookup lookup) = None
large t (questions.Moment moment) = None
large t (questions.Large l) = Some (l.side, l.at_least)

-- it asks for heavy hitters of a side that had a delta below 0
abbrev pub is_signed : Tally → Question → Bool
is_signed t (questions.Query query) = on (large_of t query) false (λ x. negative_told t x.0)
is_signed t _ = false

-- it asks for entries that are larger than all of the side together, so that there is none
abbrev pub is_idle : Tally → Question → Bool
is_idle t question = on (large t question) false (λ x. nat_lt (weight_told t x.0) x.1)

-- there may be too many of them
abbrev pub is_wide_of : Tally → Question → Bool
is_wide_of t question = on (large t question) false (λ x. is_wide x.1 (pos (weight_told t x.0)))

-- a claim may have no room for the moment
abbrev pub is_high_of : Tally → Question → Bool
is_high_of t (questions.Query query) = false
is_high_of t (questions.Lookup lookup) = false
is_high_of t (questions.Moment moment) = is_too_high (weight_told t moment.side) moment.degree
is_high_of t (questions.Large l) = false

-- ---- its seat

-- this is the place of a seat that is taken
abbrev pub is_place : ℕ → Option ℕ → Bool
is_place place None = false
is_place place (Some taken) = taken == place

-- the seat at this place serves this kind, no question has used it, and none of these takes it
abbrev pub is_free : SeatKind → List (Option ℕ) → ℕ → SeatValues → Bool
is_free kind taken place seat =
    (code_of seat.kind == code_of kind)
    && (not seat.is_used && not (list_any (is_place place) taken))

-- the place of the first such seat, where they are counted from this place on
abbrev pub free_from : SeatKind → List (Option ℕ) → ℕ → List SeatValues → Option ℕ
free_from kind taken place [] = None
free_from kind taken place (seat ∷ seats) =
    if is_free kind taken place seat then Some place
    else free_from kind taken (suc place) seats

-- The place of the seat that a question takes, where those before it take these: none, where it is
-- answered without being asked. There may be no seat for it.
abbrev pub seat_for : SketchValues → List (Option ℕ) → Question → Result (Option ℕ) AskStatus
seat_for s taken question =
    if is_signed s.tally question then Err (statuses.Signed (length taken + 1))
    else if is_idle s.tally question then Ok None
    else on (free_from (kind_for question) taken 0 s.seats)
    (Err (statuses.NoSeat (length taken + 1))) (λ place. Ok (Some place))

-- the places that all of them take, behind these
abbrev pub seats_for : SketchValues → List (Option ℕ) → List Question
    → Result (List (Option ℕ)) AskStatus
seats_for s taken [] = Ok taken
seats_for s taken (question ∷ more) =
    seat_for s taken question >>= λ place. seats_for s (taken ++ place ∷ []) more

-- ---- all that is tested before anything is said

-- each of these questions passes a test, where they are numbered from this on
abbrev pub all_pass : (ℕ → Question → Result (Unit {0}) AskStatus) → ℕ → List Question
    → Result (Unit {0}) AskStatus
all_pass test number [] = Ok tt
all_pass test number (question ∷ more) =
    test number question >>= λ _. all_pass test (suc number) more

abbrev pub fits_at : ℕ → ℕ → Question → Result (Unit {0}) AskStatus
fits_at depth number question = needs (fits depth question) (statuses.Unfit number)

abbrev pub small_at : Tally → ℕ → Question → Result (Unit {0}) AskStatus
small_at t number question =
    needs (not (is_wide_of t question)) (statuses.TooWide number)
    >>= λ _. needs (not (is_high_of t question)) (statuses.TooHigh number)

-- The place of the seat of each question, or why nothing is asked: all parts are in, all questions
-- fit, each has a seat, and none may have too great an answer; the first of these that fails.
abbrev pub choice : SketchValues → List Question → Result (List (Option ℕ)) AskStatus
choice s asked =
    needs (is_whole s.parts) statuses.NotWhole >>= λ _.
    (all_pass (fits_at s.depth) 1 asked >>= λ _.
    (seats_for s [] asked >>= λ places.
    (all_pass (small_at s.tally) 1 asked >>= λ _. Ok places)))
