-- Several queries in turn, each with a block of d challenges of its own, where replies may depend
-- on all earlier blocks: seats whose questions are fixed, used in their order.
use Rattle.std.specs.Prelude.{ℕ, ◌*◌, Bool, List, [], ◌++◌, length, map, sum_by}
use Rattle.sip_counts.specs.Counts.{counted}
use Rattle.sip_counts.specs.Late.{Plan, some_fooled}
use Rattle.sip_counts.specs.Strategies.{Strategy}
pub use Rattle.sip_counts.specs.Late.{CountedQuestion, IsBounded}

-- the strategy that a joint one is once these challenges are revealed
abbrev pub after : List ℕ → Strategy → Strategy
after earlier strategy v = strategy (earlier ++ v)

-- The plan of a query's seat: the query whatever was revealed, and the replies of a joint strategy.
-- Its key for a reply are all earlier blocks, and the challenges revealed in the seat's own.
abbrev pub in_turn : Strategy → CountedQuestion → Plan
in_turn strategy q = record {
  question = λ earlier later. q;
  strategy = λ earlier later. after earlier strategy;
  bound = q.bound;
}

-- in a vector of blocks that follows these challenges some query has a wrong answer accepted
unfoldable pub is_misled : ℕ → Strategy → List CountedQuestion → List ℕ → List ℕ → Bool
is_misled d strategy queries earlier v = some_fooled d (map (in_turn strategy) queries) earlier v

-- how many of the vectors of a block for each query are such
abbrev pub misled : ℕ → ℕ → Strategy → List CountedQuestion → ℕ
misled p d strategy queries = counted p (is_misled d strategy queries []) (length queries * d)

-- the sum of the bounds
abbrev pub bounds : List CountedQuestion → ℕ
bounds queries = sum_by (λ q. q.bound) queries
