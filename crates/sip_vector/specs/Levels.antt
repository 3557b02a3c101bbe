-- What a level shows, the residues of the nodes of one height, and how its spots are folded.
use Rattle.std.specs.Prelude.{ℕ, ◌+◌, ◌*◌, ◌/◌, ◌%◌, ◌==◌, ℤ, Bool, false, not, ◌&&◌, nat_le, List}
use Rattle.std.specs.Prelude.{[], ◌∷◌, filter, if◌then◌else◌}
use Rattle.std.specs.List.{enumerate_from}
use Rattle.sip_field.specs.Residue.{residue, difference_mod}
use Rattle.sip_vector.specs.Extensions.{line}
use Rattle.sip_vector.specs.Trees.{up}
use Rattle.sip_vector.specs.declared.level.Spot.{Spot}
use Rattle.sip_vector.specs.declared.level.Rule.{Rule}
use Rattle.sip_vector.specs.declared.level.Rule.TheVariants.{Tree, Line}

-- a spot as its index and its residue, where `number` gives the residue of a value
abbrev pub index_and_residue : {F : Type 0} → (F → ℕ) → Spot F → ℕ × ℕ
index_and_residue number s = (s.index, number s.value)

-- the indices and the residues that are not 0, at `least` and after it
abbrev pub nonzero_from : ℕ → List ℕ → List (ℕ × ℕ)
nonzero_from least residues =
    filter (λ s. nat_le least s.0 && not (s.1 == 0)) (enumerate_from 0 residues)

-- the level above by each rule
abbrev pub level_above : ℕ → Rule → ℕ → List ℕ → List ℕ
level_above p Tree r level = up p level r
level_above p Line r level = line p level r

-- the residue above a pair of neighbours by each rule
abbrev pub residue_above : ℕ → Rule → ℕ → ℕ → ℕ → ℕ
residue_above p Tree r left right = (left + r * right) % p
residue_above p Line r left right = (left + r * difference_mod p right left) % p

-- an entry before others, left out where it is 0
abbrev pub before : ℕ → ℕ → List (ℕ × ℕ) → List (ℕ × ℕ)
before index x entries = if x == 0 then entries else ((index, x) ∷ entries)

-- the entries that are not 0 of the residues of a vector with these
abbrev pub residues_of : ℕ → List (ℕ × ℤ) → List (ℕ × ℕ)
residues_of p [] = []
residues_of p (e ∷ es) = before e.0 (residue p e.1) (residues_of p es)

-- the residue above an entry whose neighbour is 0
abbrev pub above_one : (ℕ → ℕ → ℕ) → ℕ × ℕ → ℕ
above_one join e = if e.0 % 2 == 0 then join e.1 0 else join 0 e.1

-- the first two of these indices lie below one node
abbrev pub begins_with_pair : List ℕ → Bool
begins_with_pair (i ∷ j ∷ indices) = i / 2 == j / 2
begins_with_pair (i ∷ []) = false
begins_with_pair [] = false

-- the entries above these, where `join` gives the residue above a pair of neighbours
abbrev pub folded : (ℕ → ℕ → ℕ) → List (ℕ × ℕ) → List (ℕ × ℕ)
folded join [] = []
folded join (e ∷ []) = before (e.0 / 2) (above_one join e) []
folded join (e ∷ g ∷ es) =
    if e.0 / 2 == g.0 / 2
    then before (e.0 / 2) (join e.1 g.1) (folded join es)
    else before (e.0 / 2) (above_one join e) (folded join (g ∷ es))
