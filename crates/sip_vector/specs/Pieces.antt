-- Lists cut into pieces.
use Rattle.std.specs.Prelude.{ℕ, zero, suc, ◌+◌, ◌-◌, ◌/◌, List, [], ◌∷◌, length, take, drop}

-- the first n pieces of k elements
abbrev pub pieces : {X : Type 0} → ℕ → ℕ → List X → List (List X)
pieces k zero xs = []
pieces k (suc n) xs = take k xs ∷ pieces k n (drop k xs)

-- all pieces of k elements, the last one shorter where k does not divide the length
abbrev pub cut : {X : Type 0} → ℕ → List X → List (List X)
cut k xs = pieces k ((length xs + (k - 1)) / k) xs
