-- Nodes beside the true ones of their level: what the count of challenges compares.
use Rattle.std.specs.Prelude.{ℕ, ◌+◌, ◌*◌, ◌%◌, ◌^◌, ◌==◌, Bool, ◌&&◌, List}
use Rattle.std.specs.List.{list_all}
use Rattle.sip_wire.specs.declared.message.Node.{Node}

-- the hash and the count of a true node
abbrev pub Spot : Type 0
Spot = ℕ × ℕ

-- a node has the hash modulo p and the count of a true one
abbrev pub is_spot : ℕ → Node → Spot → Bool
is_spot p x s = (x.hash % p == s.0 % p) && (x.count == s.1)

-- each of these nodes is the true one at its index
abbrev pub are_true : ℕ → (ℕ → Spot) → List Node → Bool
are_true p truth nodes = list_all (λ x. is_spot p x (truth x.index)) nodes

-- the true node above two, by the challenge r
abbrev pub spot_above : ℕ → ℕ → Spot → Spot → Spot
spot_above p r s t =
    ((s.0 + s.1 % p * r + t.0 * r ^ 2 + t.1 % p * r ^ 3) % p, s.1 + t.1)

-- the true nodes of the level above
abbrev pub level_above : ℕ → ℕ → (ℕ → Spot) → ℕ → Spot
level_above p r truth i = spot_above p r (truth (2 * i)) (truth (2 * i + 1))
