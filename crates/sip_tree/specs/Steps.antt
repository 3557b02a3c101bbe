-- Tables of the steps that a hash takes from level to level.
use Rattle.std.specs.Prelude.{◌≡◌, ℕ, zero, suc, ◌+◌, ◌*◌, ◌%◌, ◌^◌, ◌<◌, ℤ, pos, negsuc, List, []}
use Rattle.std.specs.Prelude.{length, take, drop, slice_index_or}
use Rattle.sip_vector.specs.Weights.{hash_weight_from}
use Rattle.sip_tree.specs.declared.steps.Step.{Step}

-- what a read past a table gives
abbrev pub no_step : Step
no_step = record { scale = 0; shift = 0 }

-- both numbers are residues
abbrev pub IsBelow : ℕ → Step → Type 0
IsBelow p s = (s.scale < p) × (s.shift < p)

-- h * scale + shift is what these levels make of the hash start + h along the bits of e
abbrev pub IsStep : ℕ → ℕ → List ℕ → ℕ → Step → Type 0
IsStep p start challenges e s =
    (h : ℕ) → h < p
    → hash_weight_from p ((start + h) % p) e challenges ≡ (h * s.scale + s.shift) % p

-- entry e of a table is the step of e under these challenges
abbrev pub HasSteps : ℕ → ℕ → List ℕ → List Step → Type 0
HasSteps p start challenges table =
    (e : ℕ) → e < 2 ^ length challenges
    → IsStep p start challenges e (slice_index_or table e no_step)

-- what is known of the hash below table g: it is 1 below the first one
abbrev pub start_of : ℕ → ℕ
start_of zero = 1
start_of (suc g) = 0

-- table g is that of the eight challenges from 8 * g on, or of those that are left
abbrev pub AreStepTables : ℕ → List ℕ → List (List Step) → Type 0
AreStepTables p challenges tables =
    (g : ℕ) → g < length tables
    → HasSteps p (start_of g) (take 8 (drop (8 * g) challenges)) (slice_index_or tables g [])

-- 1 with the sign of a number: the hash of a leaf in the split tree whose number is that and whose
-- weight is 1
abbrev pub sign : ℤ → ℤ
sign (pos n) = pos 1
sign (negsuc n) = negsuc 0
