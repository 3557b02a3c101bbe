-- A level kept by its nodes that are not zero. Only the contracts of private functions cite these
-- definitions.
use Rattle.std.specs.Prelude.{ℕ, zero, suc, ◌+◌, ◌-◌, ◌/◌, ◌%◌, ◌^◌, ◌<◌, ◌≤◌, ◌==◌, Bool, nat_le}
use Rattle.std.specs.Prelude.{◌&&◌, ℤ, pos, nat_abs, int_le, List, [], ◌∷◌, ◌++◌, All, filter}
use Rattle.std.specs.Prelude.{length, sum_by}
use Rattle.std.specs.Prelude.{if◌then◌else◌}
use Rattle.sip_field.specs.Residue.{residue}
use Rattle.sip_vector.specs.Limits.{most_depth}
use Rattle.sip_vector.specs.Trees.{Counted}
use Rattle.sip_vector.specs.declared.update.Entry.{Entry}
use Rattle.sip_wire.specs.declared.message.Node.{Node}
use Rattle.sip_heavy.specs.AcceptsHeavy.{counted, joined}
use Rattle.sip_heavy.specs.Honest.{shown_pair}
use Rattle.sip_heavy.specs.Rising.{Rises}

-- ---- pairs

-- the pair that begins a list of nodes: its children, one of which may be zero
abbrev pub zero_at : ℕ → Node
zero_at i = record { index = i; hash = 0; count = 0 }

abbrev pub left_of : Node → Node
left_of x = if x.index % 2 == 0 then x else zero_at (x.index - 1)

abbrev pub right_of : Node → Node
right_of x = if x.index % 2 == 0 then zero_at (x.index + 1) else x

-- the first two of these lie below one node
abbrev pub is_pair : Node → Node → Bool
is_pair x y = x.index / 2 == y.index / 2

-- the list of the level above
abbrev pub spots_above : ℕ → ℕ → List Node → List Node
spots_above p r [] = []
spots_above p r (x ∷ []) = joined p r (left_of x) (right_of x) ∷ []
spots_above p r (x ∷ y ∷ more) =
    if is_pair x y
    then joined p r x y ∷ spots_above p r more
    else joined p r (left_of x) (right_of x) ∷ spots_above p r (y ∷ more)

-- what is shown of a level
abbrev pub shown_spots : ℕ → Bool → List Node → List Node
shown_spots t is_leaf [] = []
shown_spots t is_leaf (x ∷ []) = shown_pair t is_leaf (left_of x) (right_of x)
shown_spots t is_leaf (x ∷ y ∷ more) =
    if is_pair x y
    then shown_pair t is_leaf x y ++ shown_spots t is_leaf more
    else (shown_pair t is_leaf (left_of x) (right_of x) ++ shown_spots t is_leaf (y ∷ more))

-- the first of these at an index or after it
abbrev pub from_on : ℕ → List Node → List Node
from_on i xs = filter (λ x. nat_le i x.index) xs

-- the count of the node at a place of a list, 0 behind the end
abbrev pub count_at : ℕ → List Node → ℕ
count_at i [] = 0
count_at zero (x ∷ xs) = x.count
count_at (suc i) (x ∷ xs) = count_at i xs

-- ---- the whole level

abbrev pub nothing : Counted
nothing = record { hash = 0; count = pos 0 }

-- what stands at an index, where the nodes begin there or later, and the nodes behind it
abbrev pub place : ℕ → List Node → Counted
place i [] = nothing
place i (x ∷ xs) = if x.index == i then counted x else nothing

abbrev pub behind_place : ℕ → List Node → List Node
behind_place i [] = []
behind_place i (x ∷ xs) = if x.index == i then xs else (x ∷ xs)

-- n places from an index on, zero where no node stands
unfoldable pub whole_level : ℕ → ℕ → List Node → List Counted
whole_level zero i xs = []
whole_level (suc n) i xs = place i xs ∷ whole_level n (suc i) (behind_place i xs)

-- ---- a prover

-- the leaf of an entry that is not negative
abbrev pub leaf_of_entry : ℕ → Entry → Node
leaf_of_entry p e = record { index = e.index; hash = residue p e.value; count = nat_abs e.value }

-- the mark of an entry of weights, with this value
abbrev pub mark_of_entry : ℕ → ℤ → Entry → Node
mark_of_entry p value e =
    record { index = e.index; hash = residue p value; count = nat_abs e.value }

-- the value at an index, of entries that begin there or later, and the entries behind it
abbrev pub value_at : ℕ → List Entry → ℤ
value_at i [] = pos 0
value_at i (e ∷ es) = if e.index == i then e.value else pos 0

abbrev pub behind_value : ℕ → List Entry → List Entry
behind_value i [] = []
behind_value i (e ∷ es) = if e.index == i then es else (e ∷ es)

-- a mark for each entry of weights, with the value that stands at its index
abbrev pub marked_entries : ℕ → List Entry → List Entry → List Node
marked_entries p values [] = []
marked_entries p values (e ∷ es) =
    mark_of_entry p (value_at e.index values) e
    ∷ marked_entries p (behind_value e.index values) es

-- each entry of weights is at least the size of the value at its index, and no value is left
abbrev pub are_covered : List Entry → List Entry → Bool
are_covered values [] = length values == 0
are_covered values (e ∷ es) =
    int_le (pos (nat_abs (value_at e.index values))) e.value
    && are_covered (behind_value e.index values) es

-- the nodes stand in a level of 2 ^ left places, and neither their counts nor their sum overflows
pub record IsKept (p t left : ℕ) (spots : List Node) : Type 0 where
  pub some : 1 ≤ t
  pub levels : left ≤ most_depth
  pub rises : Rises 0 (2 ^ left) spots
  pub light : sum_by (λ x. x.count) spots < 2 ^ 61
  pub hashes : All (λ x. x.hash < p) spots
