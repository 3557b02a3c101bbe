-- Lists of nodes whose indices rise.
use Rattle.std.specs.Prelude.{ℕ, suc, ◌<◌, ◌≤◌, List, [], ◌∷◌}
use Rattle.sip_wire.specs.declared.message.Node.{Node}

-- the indices rise from `least` on and are below n
abbrev pub Rises : ℕ → ℕ → List Node → Type 0
Rises least n [] = Unit {0}
Rises least n (x ∷ xs) = (least ≤ x.index) × (x.index < n) × Rises (suc x.index) n xs
