-- Several queries in turn: an instance of seats that are used in any order.
use Rattle.std.proofs.Common.{◌≡◌, ℕ, ◌*◌, ◌-◌, ◌<◌, ◌≤◌, ◌^◌, All, List, [], ◌∷◌, ◌++◌, length, map, subst, take, drop, refl, arith}
use Rattle.std.proofs.lemmas.List.{length-map}
use Rattle.std.proofs.lemmas.List.Elements.{All-cons, All-map, All-nil, All-head, All-tail}
use Rattle.std.proofs.lemmas.List.Sums.{sum_by-cons}
use Rattle.sip_counts.specs.Strategies.{Strategy, IsOfBytes}
use Rattle.sip_counts.specs.Late.{Plan, IsWithin, plan_bounds, seat_of, seats_at}
use Rattle.sip_counts.specs.Joint.{CountedQuestion, in_turn, is_misled, misled, bounds, IsBounded}
use Rattle.sip_counts.proofs.AnyOrder.{few_fooled}

-- the plans of queries in turn have the queries' bounds
bounds_same : (strategy : Strategy) (queries : List CountedQuestion)
    → plan_bounds (map (in_turn strategy) queries) ≡ bounds queries
bounds_same strategy [] = refl
bounds_same strategy (q ∷ queries) = omega (
  arith,
  bounds_same strategy queries,
  sum_by-cons (λ (x : Plan). x.bound) (in_turn strategy q) (map (in_turn strategy) queries),
  sum_by-cons (λ (x : CountedQuestion). x.bound) q queries,
)

all_within : (p d : ℕ) (strategy : Strategy) → IsOfBytes strategy → (queries : List CountedQuestion)
    → All (IsBounded p d) queries → (earlier v : List ℕ)
    → All (IsWithin p d) (seats_at d (map (in_turn strategy) queries) earlier v)
all_within p d strategy bytes [] all earlier v = All-nil (IsWithin p d)
all_within p d strategy bytes (q ∷ queries) all earlier v =
    All-cons (IsWithin p d) (seat_of (in_turn strategy q) earlier (take d v) (drop d v))
    (seats_at d (map (in_turn strategy) queries) (earlier ++ take d v) (drop d v))
    (record {
      few = All-head (IsBounded p d) q queries all;
      most = omega arith;
      bytes = λ w. bytes (earlier ++ w);
    })
    (all_within p d strategy bytes queries (All-tail (IsBounded p d) q queries all)
    (earlier ++ take d v) (drop d v))

pub few_misled : (p d : ℕ) (strategy : Strategy) (queries : List CountedQuestion) → 0 < d
    → IsOfBytes strategy → All (IsBounded p d) queries
    → misled p d strategy queries ≤ bounds queries * p ^ (length queries * d - 1)
unfolding is_misled
few_misled p d strategy queries pos bytes all =
    let few = few_fooled p d (map (in_turn strategy) queries) pos
    (λ v len below. all_within p d strategy bytes queries all [] v) in
    rw (length-map queries (in_turn strategy), bounds_same strategy queries) at few

-- the same of the queries that a function gives
pub few_misled_of : {X : Type 0} (p d : ℕ) (strategy : Strategy) (query : X → CountedQuestion)
    (xs : List X) → 0 < d → IsOfBytes strategy → All (λ x. IsBounded p d (query x)) xs
    → misled p d strategy (map query xs) ≤ bounds (map query xs) * p ^ (length xs * d - 1)
few_misled_of p d strategy query xs pos bytes all =
    subst (λ n. misled p d strategy (map query xs) ≤ bounds (map query xs) * p ^ (n * d - 1))
    (length-map xs query)
    (few_misled p d strategy (map query xs) pos bytes (All-map (IsBounded p d) query xs all))
