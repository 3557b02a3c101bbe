-- Helpers that lie over four numbers or two, modulo 31.
use Rattle.std.specs.Prelude.{ℕ, ℤ, pos, Option, Some, List, [], ◌∷◌}
use Rattle.sip_wire.specs.declared.message.Node.{Node}
use Rattle.sip_heavy.specs.Examples.{node, leaf}

-- one entry of 4, at index 2, is said to be at index 0
abbrev pub misplaced : List ℤ
misplaced = pos 0 ∷ pos 0 ∷ pos 4 ∷ pos 0 ∷ []

-- the leaves (0, 4) and (1, 0), and then a node 1 with nothing below it
abbrev pub says_first : List ℕ → Option (List Node)
says_first [] = Some (leaf 0 4 ∷ leaf 1 0 ∷ [])
says_first (r ∷ _) = Some (node 1 0 0 ∷ [])

-- the marks of value 1 and weight 2 at both items
abbrev pub says_ones : List ℕ → Option (List Node)
says_ones _ = Some (node 0 1 2 ∷ node 1 1 2 ∷ [])
