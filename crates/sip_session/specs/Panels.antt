-- A panel: several helpers that hear one stream, and of which one is asked at a time.
--
-- The helper that is asked is the first one that is left, and the query is the first one that was
-- not answered. Where its replies are accepted the next query is due. Where they have a fault it is
-- dropped, and the next helper is asked the same query. Helpers and queries are counted from 1.
--
-- Each query has a seat for each helper: with h helpers, query k with helper i has the seat number
-- (k - 1)·h + i, counted from 1. Each seat has its own block of challenges; block n of the seed's
-- is that of seat n. Seats whose turn doesn't come stay unused.
use Rattle.std.specs.Prelude.{◌≡◌, ◌≤◌, ℕ, suc, ◌+◌, ◌*◌, ◌-◌, ⊤, Bool, nat_le, nat_lt, List, []}
use Rattle.std.specs.Prelude.{◌∷◌, length, flat_map, replicate, All, Some, None}
use Rattle.std.specs.List.{slice_get}
use Rattle.sip_replies.specs.Replies.{Fault}
use Rattle.sip_vector.specs.declared.query.Query.{Query}
use Rattle.sip_vector.specs.declared.update.Update.{Update}
use Rattle.sip_vector.specs.Answers.{Answer}
use Rattle.sip_vector.specs.Pieces.{cut}
use Rattle.sip_wire.specs.declared.version.Version.{Version}
use Rattle.sip_verifier.specs.declared.task.Task.{Task}
use Rattle.sip_verifier.specs.Draws.{challenges_of}
use Rattle.sip_verifier.specs.Gathering.{legal}
use Rattle.sip_verifier.specs.Inquiries.{Inquiry}
use Rattle.sip_verifier.specs.Questions.{Accepts, IsFaulty, Question}
use Rattle.sip_verifier.specs.Tasks.{version_of}

-- ---- seats

-- the queries of the seats in order: each one once for each helper
abbrev pub seat_queries : ℕ → List Query → List Query
seat_queries helpers queries = flat_map (λ q. replicate helpers q) queries

-- what is asked by a panel of so many helpers, where the seed has these bytes: the task's queries,
-- at the challenges of all seats
abbrev pub inquiry_of_panel : ℕ → Task → List ℕ → Inquiry
inquiry_of_panel helpers task seed = record {
  version = version_of task;
  depth = task.depth;
  form = task.form;
  queries = task.queries.items;
  challenges = challenges_of
      (task.depth * length (seat_queries helpers task.queries.items)) seed;
}

-- the same with a query for each seat
abbrev pub inquiry_of_seats : ℕ → Task → List ℕ → Inquiry
inquiry_of_seats helpers task seed =
    record (inquiry_of_panel helpers task seed) {
      queries = seat_queries helpers task.queries.items;
    }

-- the blocks of the seats in order; none where the seed gives no challenges
abbrev pub seat_blocks : Inquiry → List (List ℕ)
seat_blocks i = elim i.challenges [ Some challenges ↦ cut i.depth challenges | None ↦ [] ]

-- ---- attempts

-- the helper that is asked, and the number of the query
pub record Turn : Type 0 where
  pub helper : ℕ
  pub number : ℕ

-- what came of it: the replies are accepted and state this answer, or they have this first fault,
-- and the helper was dropped
pub data Outcome : Type 0 where
  accepted : Answer → Outcome
  rejected : Fault → Outcome

-- a helper was asked a query: the query with the seat's block and the replies that were taken, and
-- what came of it
pub record Attempt : Type 0 where
  pub turn : Turn
  pub question : Question
  pub outcome : Outcome

-- the first helper is asked the first query
abbrev pub first_turn : Turn
first_turn = record { helper = 1; number = 1 }

-- whose turn it is then
abbrev pub next_turn : Turn → Outcome → Turn
next_turn turn (accepted answer) = record turn { number = suc turn.number }
next_turn turn (rejected fault) = record turn { helper = suc turn.helper }

-- whose turn it is behind these attempts, which begin with this turn
abbrev pub turn_behind : Turn → List Attempt → Turn
turn_behind turn [] = turn
turn_behind turn (a ∷ attempts) = turn_behind (next_turn turn a.outcome) attempts

-- each of them is made where its turn comes
abbrev pub AreInTurn : Turn → List Attempt → Type 0
AreInTurn turn [] = ⊤
AreInTurn turn (a ∷ attempts) =
    (a.turn ≡ turn) × AreInTurn (next_turn turn a.outcome) attempts

-- the number of a turn's seat among those of so many helpers, counted from 0
abbrev pub seat_at : ℕ → Turn → ℕ
seat_at helpers turn = (turn.number - 1) * helpers + (turn.helper - 1)

-- a helper is left behind these attempts, and a query
abbrev pub is_left : Turn → ℕ → Bool
is_left turn helper = nat_le turn.helper helper

-- all queries were answered
abbrev pub are_answered : Turn → List Query → Bool
are_answered turn queries = nat_lt (length queries) turn.number

-- what came of a question is this
abbrev pub IsJudged : Version → ℕ → List Update → Question → Outcome → Type 0
IsJudged version depth stream q (accepted answer) = Accepts version depth stream q answer
IsJudged version depth stream q (rejected fault) = IsFaulty version depth stream q fault

module _ (helpers : ℕ) (task : Task) (seed bytes : List ℕ) where
  -- The helper is one of the panel and the query one of the task's, and the question is that of
  -- the turn's seat.
  pub record IsOfTurn (turn : Turn) (q : Question) : Type 0 where
    pub helper : turn.helper ≤ helpers
    pub number : turn.number ≤ length task.queries.items
    pub query : slice_get task.queries.items (turn.number - 1) ≡ Some q.query
    pub block : slice_get (seat_blocks (inquiry_of_panel helpers task seed)) (seat_at helpers turn)
        ≡ Some q.block

  -- Attempts, in order, from the first turn on. An answer is accepted only where the replies are,
  -- at the block of the seat, and states what they do; a helper is dropped exactly for the first
  -- fault of its replies.
  pub record AreAttempts (attempts : List Attempt) : Type 0 where
    pub in_turn : AreInTurn first_turn attempts
    pub of_turn : All (λ a. IsOfTurn a.turn a.question) attempts
    pub judged : All
        (λ a. IsJudged (version_of task) task.depth (legal task bytes) a.question a.outcome)
        attempts
