-- Seats that are used in any order. Each has a block of d challenges of its own and serves one
-- question at most, which may be chosen when it is asked.
--
-- Who knows what. Before a seat is used others may have been used: seats before it in number and
-- seats behind it, in any order, each by the same run or by another one. Which question the seat
-- then serves, what had come of the stream by then and what is replied may depend on all that was
-- revealed of these. Of the seat's own block a reply may depend on what was revealed before it, and
-- a question on nothing. A plan grants more: all challenges of all other seats. So it need not say
-- in which order the seats are used, and one count holds for each order.
use Rattle.std.specs.Prelude.{◌≡◌, ℕ, ◌*◌, ◌-◌, ◌<◌, ◌≤◌, ◌^◌, Bool, true, false, Some, List, []}
use Rattle.std.specs.Prelude.{◌∷◌, ◌++◌, length, map, take, drop, sum_by, All}
use Rattle.std.specs.List.{list_any}
use Rattle.sip_counts.specs.Counts.{counted}
use Rattle.sip_counts.specs.Strategies.{Strategy, IsOfBytes, replies, takes_wrong, fooled}

-- ---- one question

-- a question: which replies are accepted at which challenges of its block, which say the right
-- answer, and a bound on its count
pub record CountedQuestion : Type 0 where
  pub accepts : List ℕ → List (List ℕ) → Bool
  pub is_right : List (List ℕ) → Bool
  pub bound : ℕ

-- no strategy has a wrong answer to this question alone accepted at more vectors than its bound
-- says
abbrev pub IsBounded : ℕ → ℕ → CountedQuestion → Type 0
IsBounded p d q =
    (strategy : Strategy) → IsOfBytes strategy
    → fooled p d q.accepts q.is_right strategy ≤ q.bound * p ^ (d - 1)

-- what a seat serves that is not used: no replies are accepted
abbrev pub unasked : CountedQuestion
unasked = record { accepts = λ block replies. false; is_right = λ replies. false; bound = 0 }

-- ---- plans

-- What may become of a seat, by the challenges of the seats before it in number and by those of the
-- seats behind it.
pub record Plan : Type 0 where
  -- the question, and with it the stream that it is asked of
  pub question : List ℕ → List ℕ → CountedQuestion
  -- what is replied to it, by what is revealed of the seat's own block too
  pub strategy : List ℕ → List ℕ → Strategy
  -- a bound on whatever question it comes to
  pub bound : ℕ

-- a seat at given challenges: its block, and what its plan comes to
pub record Seat : Type 0 where
  pub block : List ℕ
  pub question : CountedQuestion
  pub strategy : Strategy
  pub bound : ℕ

-- the seat of a plan with this block, between seats with those challenges before it and behind it
abbrev pub seat_of : Plan → List ℕ → List ℕ → List ℕ → Seat
seat_of plan earlier block later = record {
  block = block;
  question = plan.question earlier later;
  strategy = plan.strategy earlier later;
  bound = plan.bound;
}

-- the seats of these plans in order, a block of v for each, behind seats with these challenges
abbrev pub seats_at : ℕ → List Plan → List ℕ → List ℕ → List Seat
seats_at d [] earlier v = []
seats_at d (plan ∷ plans) earlier v =
    seat_of plan earlier (take d v) (drop d v)
    ∷ seats_at d plans (earlier ++ take d v) (drop d v)

-- ---- the count

-- the seat has a wrong answer accepted
abbrev pub is_fooled : Seat → Bool
is_fooled s = takes_wrong s.question.accepts s.question.is_right s.strategy s.block

-- some seat has
unfoldable pub some_fooled : ℕ → List Plan → List ℕ → List ℕ → Bool
some_fooled d plans earlier v = list_any is_fooled (seats_at d plans earlier v)

-- how many of the vectors of a block for each seat are such
abbrev pub fooled_late : ℕ → ℕ → List Plan → ℕ
fooled_late p d plans = counted p (some_fooled d plans []) (length plans * d)

-- the question that the seat comes to is bounded, its bound is no greater than the plan's, and the
-- replies are made of bytes
pub record IsWithin (p d : ℕ) (s : Seat) : Type 0 where
  pub few : IsBounded p d s.question
  pub most : s.question.bound ≤ s.bound
  pub bytes : IsOfBytes s.strategy

-- this holds of each seat at each vector that there is
abbrev pub AreWithin : ℕ → ℕ → List Plan → Type 0
AreWithin p d plans =
    (v : List ℕ) → length v ≡ length plans * d → All (λ x. x < p) v
    → All (IsWithin p d) (seats_at d plans [] v)

-- the sum of the plans' bounds
abbrev pub plan_bounds : List Plan → ℕ
plan_bounds plans = sum_by (λ plan. plan.bound) plans

-- ---- what happened

-- what was done with a seat: the question that was asked on it, and the replies that were taken
pub record Use : Type 0 where
  pub question : CountedQuestion
  pub taken : List (List ℕ)

-- The seat's plan led to this use: it gave this question, and replies as was taken. Of a question
-- that had fewer replies than its block has challenges, those alone are compared.
pub record LedTo (u : Use) (s : Seat) : Type 0 where
  pub question : s.question ≡ u.question
  pub replies : take (length u.taken) (replies s.strategy s.block) ≡ map Some u.taken

-- there was a reply for each challenge of this block, they were accepted, and they say a wrong
-- answer
pub record HasTakenWrong (u : Use) (block : List ℕ) : Type 0 where
  pub all : length u.taken ≡ length block
  pub accepted : u.question.accepts block u.taken ≡ true
  pub wrong : u.question.is_right u.taken ≡ false
