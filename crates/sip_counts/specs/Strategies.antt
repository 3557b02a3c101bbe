-- What a helper may do: its replies depend on the challenges that were revealed to it, and on what
-- stays fixed while these vary.
use Rattle.std.specs.Prelude.{◌≡◌, ℕ, ◌<◌, Bool, false, not, ◌&&◌, nat_eq, Option, Some, None, List}
use Rattle.std.specs.Prelude.{[], ◌∷◌, length, map, take, All}
use Rattle.std.specs.List.{range_with_len}
use Rattle.std.specs.Map.{lookup}
use Rattle.std.specs.Cmp.Lexicographic.{pointwise}
use Rattle.sip_counts.specs.Counts.{counted}

-- The reply for each list of challenges revealed so far, as bytes, or None where there is none: a
-- reply that is not whole.
abbrev pub Strategy : Type 0
Strategy = List ℕ → Option (List ℕ)

-- its replies are made of bytes
abbrev pub IsOfBytes : Strategy → Type 0
IsOfBytes strategy =
    (challenges reply : List ℕ) → strategy challenges ≡ Some reply → All (λ b. b < 256) reply

-- a finite map from lists of challenges to lists of bytes is a strategy
abbrev pub strategy_of : List (List ℕ × List ℕ) → Strategy
strategy_of entries challenges = lookup (pointwise nat_eq challenges) entries

-- the replies at the prefixes of r of lengths 0 to d - 1, d being the length of r
abbrev pub replies : {R : Type 0} → (List ℕ → R) → List ℕ → List R
replies strategy r = map (λ j. strategy (take j r)) (range_with_len 0 (length r))

-- an element before others, if they are there
abbrev pub before : {X : Type 0} → X → Option (List X) → Option (List X)
before x None = None
before x (Some xs) = Some (x ∷ xs)

-- the elements, if none is missing
abbrev pub all_there : {X : Type 0} → List (Option X) → Option (List X)
all_there [] = Some []
all_there (None ∷ rest) = None
all_there (Some x ∷ rest) = before x (all_there rest)

-- all replies are there, they are accepted, and what they say is not right
abbrev pub is_wrong : {R : Type 0} → (List R → Bool) → (List R → Bool) → Option (List R) → Bool
is_wrong accepts is_right None = false
is_wrong accepts is_right (Some all) = accepts all && not (is_right all)

-- a test of a vector of challenges: there a strategy has a wrong answer accepted
unfoldable pub takes_wrong : {R : Type 0} → (List ℕ → List R → Bool) → (List R → Bool)
    → (List ℕ → Option R) → List ℕ → Bool
takes_wrong accepts is_right strategy r =
    is_wrong (accepts r) is_right (all_there (replies strategy r))

-- how many vectors of d challenges are such; `counted_from` has the same at a prefix
abbrev pub fooled : ℕ → ℕ → (List ℕ → List (List ℕ) → Bool) → (List (List ℕ) → Bool) → Strategy → ℕ
fooled p d accepts is_right strategy = counted p (takes_wrong accepts is_right strategy) d
