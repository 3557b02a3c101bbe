-- What a call that writes an answer promises of a helper that lies.
use Rattle.std.specs.Prelude.{◌≡◌, ◌≢◌, ℕ, ◌*◌, ◌-◌, ◌^◌, ◌≤◌, Bool, true, Option, Some, List, map}
use Rattle.sip_counts.specs.Strategies.{Strategy, IsOfBytes, replies, takes_wrong, fooled}

-- For a query with d challenges modulo p: which replies are accepted at which challenges, and which
-- say the right answer; the block of challenges and the replies of this run; the answer that was
-- written, if one was, and the right one.
pub record FewAndCounted (p d bound : ℕ) (accepts : List ℕ → List (List ℕ) → Bool)
    (is_right : List (List ℕ) → Bool) (block : List ℕ) (taken : List (List ℕ))
    {A : Type 0} (written : Option A) (right : A) : Type 0 where
  -- no strategy has a wrong answer accepted at more vectors of challenges than this
  pub few : (strategy : Strategy) → IsOfBytes strategy
      → fooled p d accepts is_right strategy ≤ bound * p ^ (d - 1)
  -- where another answer was written, this run's block is among those vectors, for every strategy
  -- that replies so here
  pub counts : (strategy : Strategy) (answer : A) → replies strategy block ≡ map Some taken
      → written ≡ Some answer → answer ≢ right
      → takes_wrong accepts is_right strategy block ≡ true
