-- Lists that are kept by the entries at which they are not 0.
use Rattle.std.specs.Prelude.{◌≢◌, ℕ, suc, ◌<◌, ◌≤◌, List, [], ◌∷◌, replicate, slice_set}

-- the list of n elements that has these elements at these indices, and `zero` elsewhere
unfoldable pub dense : {X : Type 0} → X → ℕ → List (ℕ × X) → List X
dense zero n [] = replicate n zero
dense zero n (e ∷ es) = slice_set (dense zero n es) e.0 e.1

-- the indices rise from `least` on and are below n, and no element is `zero`
abbrev pub IsSparse : {X : Type 0} → X → ℕ → ℕ → List (ℕ × X) → Type 0
IsSparse zero least n [] = Unit {0}
IsSparse zero least n (e ∷ es) =
    (least ≤ e.0) × (e.0 < n) × (e.1 ≢ zero) × IsSparse zero (suc e.0) n es
