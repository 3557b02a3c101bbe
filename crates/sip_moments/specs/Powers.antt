-- Sums of powers, and what is made of them. Only the contracts of private functions cite these
-- definitions.
use Rattle.std.specs.Prelude.{◌≡◌, ℕ, ◌+◌, ◌-◌, ◌*◌, ◌%◌, ◌^◌, ◌<◌, ◌≤◌, ℤ, List, map}
use Rattle.std.specs.Prelude.{slice_index_or}
use Rattle.std.specs.Int.{int_pow}
use Rattle.sip_vector.specs.declared.update.Entry.{Entry}
use Rattle.sip_vector.specs.Streams.{int_sum}
use Rattle.sip_sums.specs.Pairs.{Neighbours, neighbours_of}
use Rattle.sip_sums.specs.declared.pairs.Pair.{Pair}

-- the sum of the k-th powers of the values of entries
abbrev pub powers_of : ℕ → List Entry → ℤ
powers_of k es = int_sum (map (λ e. int_pow e.value k) es)

-- what a pair counts in the sum that has j factors of its right entry
abbrev pub mixed : ℕ → ℕ → Neighbours → ℕ
mixed k j s = s.left ^ (k - j) * s.right ^ j

-- the first n numbers of a list are the residues of f 0, f 1 and so on
abbrev pub AreResidues : ℕ → ℕ → (ℕ → ℕ) → List ℕ → Type 0
AreResidues p n f xs = (j : ℕ) → j < n → slice_index_or xs j 0 ≡ f j % p

-- the first k numbers are the residues of those before, each with what one more pair counts in it
abbrev pub AddsPair : {F : Type 0} → (F → ℕ) → ℕ → ℕ → Pair F → List F → List F → Type 0
AddsPair number p k pair before now = AreResidues p k
    (λ j. slice_index_or (map number before) j 0 + mixed k j (neighbours_of number pair))
    (map number now)

-- row i + 1 of a table has, from its place i + 1 on, the differences of the row before it, in which
-- there are n numbers
abbrev pub AreDifferences : ℕ → ℕ → (ℕ → ℕ → ℕ) → Type 0
AreDifferences p n table =
    (i j : ℕ) → i ≤ j → j + 1 < n → (table (i + 1) (j + 1) + table i j) % p ≡ table i (j + 1) % p
