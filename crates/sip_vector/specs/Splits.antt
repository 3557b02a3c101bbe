-- The split tree: the tree in which a node's hash is of values, and its count of weights, which
-- only grow.
use Rattle.std.specs.Prelude.{ℕ, ◌^◌, ℤ, pos, nat_abs, List, map, fold, slice_index_or}
use Rattle.std.specs.List.{zip}
use Rattle.sip_field.specs.Residue.{residue}
use Rattle.sip_vector.specs.declared.update.Side.{Side}
use Rattle.sip_vector.specs.declared.update.Update.{Update}
use Rattle.sip_vector.specs.Streams.{vector}
use Rattle.sip_vector.specs.Trees.{Counted, leaf, up3}
use Rattle.sip_vector.specs.Weights.{node_weight, hash_weight_from}

-- an update whose delta is the absolute value
abbrev pub absolute : Update → Update
absolute u = record { side = u.side; item = u.item; delta = pos (nat_abs u.delta) }

-- a side's weights: for each item below 2 ^ depth the sum of the absolute deltas
abbrev pub weights : ℕ → List Update → Side → List ℤ
weights depth stream side = vector depth (map absolute stream) side

abbrev pub split_leaf : ℕ → ℤ → ℤ → Counted
split_leaf p value weight = record { hash = residue p value; count = weight }

abbrev pub splittree : ℕ → List ℤ → List ℤ → List ℕ → List Counted
splittree p values weights challenges =
    fold (up3 p) (map (λ x. split_leaf p x.0 x.1) (zip values weights)) challenges

-- the top of the split tree
abbrev pub splittop : ℕ → List ℤ → List ℤ → List ℕ → Counted
splittop p values weights challenges =
    slice_index_or (splittree p values weights challenges) 0 (leaf p (pos 0))

-- its hash
abbrev pub splitroot : ℕ → List ℤ → List ℤ → List ℕ → ℕ
splitroot p values weights challenges = (splittop p values weights challenges).hash

-- What a value has as its factor in the root: 1 at the leaf, and times r ^ 2 under a right node.
abbrev pub value_factor : ℕ → ℕ → List ℕ → ℕ
value_factor p i challenges = node_weight p i (map (λ r. r ^ 2) challenges)

-- What a weight has: 0 at the leaf, k + r under a left node, and k * r ^ 2 + r ^ 3 under a right
-- one.
abbrev pub weight_factor : ℕ → ℕ → List ℕ → ℕ
weight_factor p = hash_weight_from p 0
