-- What a root is raised by where a number below it is raised by 1 (Cormode, Thaler, Yi, PVLDB 5(1),
-- section 4).
use Rattle.std.specs.Prelude.{ℕ, ◌+◌, ◌*◌, ◌/◌, ◌%◌, ◌^◌, ◌==◌, ℤ, pos, ◌+ℤ◌, List, [], ◌∷◌, drop}
use Rattle.std.specs.Prelude.{fold, slice_index_or, slice_set, sum_by, if◌then◌else◌}
use Rattle.std.specs.List.{enumerate_from}
use Rattle.sip_vector.specs.declared.update.Update.{Update}

-- these numbers with one of them raised
abbrev pub raised_numbers : List ℤ → ℕ → ℤ → List ℤ
raised_numbers numbers i delta = slice_set numbers i (slice_index_or numbers i (pos 0) +ℤ delta)

-- these numbers after updates, whatever their sides
abbrev pub numbers_after : List ℤ → List Update → List ℤ
numbers_after numbers updates = fold (λ ns u. raised_numbers ns u.item u.delta) numbers updates

-- the product of the challenges above a node for which its index has the bit 1, the lowest bit
-- first
abbrev pub node_weight : ℕ → ℕ → List ℕ → ℕ
node_weight p i [] = 1
node_weight p i (r ∷ challenges) =
    ((if i % 2 == 1 then r else 1) * node_weight p (i / 2) challenges) % p

-- the weight of a level's node: the product of the r_t for which bit t - level - 1 of the index is
-- 1
abbrev pub weight_above : ℕ → List ℕ → ℕ → ℕ → ℕ
weight_above p challenges level i = node_weight p i (drop level challenges)

-- a stretch of a level's nodes, the first one with this index, each times its weight
abbrev pub weighted_sum : ℕ → List ℕ → ℕ → ℕ → List ℕ → ℕ
weighted_sum p challenges level first nodes =
    sum_by (λ x. x.1 * weight_above p challenges level x.0) (enumerate_from first nodes)

-- In the augmented tree a number counts at each level: h becomes h + r under a left node, and h * r
-- ^ 2 + r ^ 3 under a right one.
abbrev pub hash_weight_from : ℕ → ℕ → ℕ → List ℕ → ℕ
hash_weight_from p h i [] = h
hash_weight_from p h i (r ∷ challenges) =
    hash_weight_from p ((if i % 2 == 1 then h * r ^ 2 + r ^ 3 else h + r) % p) (i / 2) challenges

-- the weight of an entry in the hash of the augmented tree's top
abbrev pub hash_weight : ℕ → ℕ → List ℕ → ℕ
hash_weight p = hash_weight_from p 1
