-- Hash trees over a vector: the lowest bit of an index chooses first (Cormode, Thaler, Yi, PVLDB
-- 5(1), sections 4 and 5).
use Rattle.std.specs.Prelude.{ℕ, ◌+◌, ◌*◌, ◌%◌, ◌^◌, ℤ, pos, ◌+ℤ◌, List, [], ◌∷◌, map, fold}
use Rattle.std.specs.Prelude.{slice_index, slice_index_or}
use Rattle.sip_field.specs.Residue.{residue}

-- the level above: each pair (u, w) of neighbours becomes u + r * w
abbrev pub up : ℕ → List ℕ → ℕ → List ℕ
up p (u ∷ w ∷ level) r = ((u + r * w) % p) ∷ up p level r
up p (u ∷ []) r = []
up p [] r = []

-- the level that these challenges lead to
abbrev pub tree : ℕ → List ℤ → List ℕ → List ℕ
tree p numbers challenges = fold (up p) (map (residue p) numbers) challenges

-- the top of the tree
abbrev pub root : ℕ → List ℤ → List ℕ → ℕ
root p numbers challenges = slice_index (tree p numbers challenges) 0

-- a node that also counts
pub record Counted : Type 0 where
  pub hash : ℕ
  pub count : ℤ

-- the node above a pair: its hash keeps both hashes and both counts
abbrev pub parent : ℕ → Counted → Counted → ℕ → Counted
parent p l h r = record {
  hash = (l.hash + residue p l.count * r + h.hash * r ^ 2 + residue p h.count * r ^ 3) % p;
  count = l.count +ℤ h.count;
}

abbrev pub up3 : ℕ → List Counted → ℕ → List Counted
up3 p (l ∷ h ∷ level) r = parent p l h r ∷ up3 p level r
up3 p (l ∷ []) r = []
up3 p [] r = []

abbrev pub leaf : ℕ → ℤ → Counted
leaf p a = record { hash = residue p a; count = a }

abbrev pub augtree : ℕ → List ℤ → List ℕ → List Counted
augtree p numbers challenges = fold (up3 p) (map (leaf p) numbers) challenges

-- the top of the augmented tree
abbrev pub augroot : ℕ → List ℤ → List ℕ → Counted
augroot p numbers challenges = slice_index_or (augtree p numbers challenges) 0 (leaf p (pos 0))
