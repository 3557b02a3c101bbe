-- Products over the bits of an index, one factor for each challenge, and tables of such products.
use Rattle.std.specs.Prelude.{◌≡◌, ℕ, ◌*◌, ◌/◌, ◌%◌, ◌^◌, ◌<◌, ◌==◌, List, [], ◌∷◌, length, take}
use Rattle.std.specs.Prelude.{drop, slice_index, slice_index_or, if◌then◌else◌}
use Rattle.sip_field.specs.Residue.{difference_mod}
use Rattle.sip_field.specs.declared.factors.Factors.{Factors}
use Rattle.sip_field.specs.declared.factors.Factors.TheVariants.{Tree, Extension}

-- what a challenge counts where the index has the bit 0
abbrev pub zero_factor : ℕ → Factors → ℕ → ℕ
zero_factor p Tree r = 1
zero_factor p Extension r = difference_mod p 1 r

-- the product of r where the index has the bit 1, and of zero r where it has 0, the lowest bit
-- first
abbrev pub bits_product : ℕ → (ℕ → ℕ) → ℕ → List ℕ → ℕ
bits_product p zero i [] = 1
bits_product p zero i (r ∷ challenges) =
    ((if i % 2 == 1 then r else zero r) * bits_product p zero (i / 2) challenges) % p

-- entry e of a table is the product of e under these challenges, eight times
abbrev pub HasProducts : ℕ → (ℕ → ℕ) → List ℕ → List ℕ → Type 0
HasProducts p zero challenges table =
    (e : ℕ) → e < 2 ^ length challenges → slice_index table e ≡ 8 * bits_product p zero e challenges

-- table g is that of the eight challenges from 8 * g on, or of those that are left
abbrev pub AreTables : ℕ → (ℕ → ℕ) → List ℕ → List (List ℕ) → Type 0
AreTables p zero challenges tables =
    (g : ℕ) → g < length tables
    → HasProducts p zero (take 8 (drop (8 * g) challenges)) (slice_index_or tables g [])
