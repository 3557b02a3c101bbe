-- Pairs of neighbours of lists that are kept by their entries, and the sums over them. Only the
-- contracts of private functions cite these definitions.
use Rattle.std.specs.Prelude.{◌≡◌, ℕ, suc, ◌+◌, ◌*◌, ◌/◌, ◌%◌, ◌<◌, ◌≤◌, ◌==◌, pos, List, [], ◌∷◌}
use Rattle.std.specs.Prelude.{length, map, if◌then◌else◌, slice_index_or}
use Rattle.sip_vector.specs.Levels.{index_and_residue}
use Rattle.sip_vector.specs.declared.level.Spot.{Spot}
use Rattle.sip_sums.specs.declared.pairs.Pair.{Pair}
use Rattle.sip_sums.specs.AcceptsSum.{Coefficients}
use Rattle.sip_sums.specs.Honest.{constant, linear, square, its_polynomial}

-- the entries at 2 * index and after it
pub record Neighbours : Type 0 where
  pub index : ℕ
  pub left : ℕ
  pub right : ℕ

abbrev pub neighbours : ℕ → ℕ → ℕ → Neighbours
neighbours k u w = record { index = k; left = u; right = w }

abbrev pub neighbours_of : {F : Type 0} → (F → ℕ) → Pair F → Neighbours
neighbours_of number pair = neighbours pair.index (number pair.left) (number pair.right)

-- an entry whose neighbour is 0
abbrev pub alone : ℕ × ℕ → Neighbours
alone e =
    if e.0 % 2 == 0 then neighbours (e.0 / 2) e.1 0 else neighbours (e.0 / 2) 0 e.1

-- the pairs in which these rising entries stand
abbrev pub paired : List (ℕ × ℕ) → List Neighbours
paired [] = []
paired (e ∷ []) = alone e ∷ []
paired (e ∷ g ∷ es) =
    if e.0 / 2 == g.0 / 2
    then neighbours (e.0 / 2) e.1 g.1 ∷ paired es
    else alone e ∷ paired (g ∷ es)

abbrev pub pairs_of : {F : Type 0} → (F → ℕ) → List (Spot F) → List Neighbours
pairs_of number spots = paired (map (index_and_residue number) spots)

-- the indices rise from `least` on and are below n
abbrev pub Rises : ℕ → ℕ → List Neighbours → Type 0
Rises least n [] = Unit {0}
Rises least n (s ∷ ss) = (least ≤ s.index) × (s.index < n) × Rises (suc s.index) n ss

-- the first pair of a list of spots, and those behind it
pub record IsNext {F : Type 0} (number : F → ℕ) (spots : List (Spot F)) (pair : Pair F)
    (rest : List (Spot F)) : Type 0 where
  pub pairs : pairs_of number spots ≡ neighbours_of number pair ∷ pairs_of number rest
  pub shorter : length rest < length spots

-- the pair of this index, or zeros
abbrev pub pair_at : List Neighbours → ℕ → Neighbours
pair_at [] k = neighbours k 0 0
pair_at (s ∷ ss) k = if s.index == k then s else pair_at ss k

-- the pair of this index in a whole list
abbrev pub pair_in : List ℕ → ℕ → Neighbours
pair_in xs k = neighbours k (slice_index_or xs (2 * k) 0) (slice_index_or xs (2 * k + 1) 0)

-- the product of the lines through two pairs is added to a polynomial
abbrev pub with_product : ℕ → Coefficients → Neighbours → Neighbours → Coefficients
with_product p c one other = record {
  c0 = (c.c0 + constant p one.left one.right other.left other.right) % p;
  c1 = (c.c1 + linear p one.left one.right other.left other.right) % p;
  c2 = (c.c2 + square p one.left one.right other.left other.right) % p;
}

-- the products with all these pairs are added, where `other` gives the pair that one is taken with
abbrev pub summed : ℕ → (Neighbours → Neighbours) → Coefficients → List Neighbours → Coefficients
summed p other c [] = c
summed p other c (s ∷ ss) = summed p other (with_product p c s (other s)) ss

-- the round polynomial of two folded lists
abbrev pub polynomial_over : ℕ → List ℕ → List ℕ → Coefficients
polynomial_over p first second =
    its_polynomial p (record { claim = pos 0; first = first; second = second })
