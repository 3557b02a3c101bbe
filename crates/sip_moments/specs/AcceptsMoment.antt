-- The check of a claimed moment, over whole lists: the sum-check of degree k for the k-th power of
-- a multilinear extension (Cormode, Thaler, Yi, PVLDB 5(1), section 3).
use Rattle.std.specs.Prelude.{ℕ, ◌%◌, ◌^◌, Bool, ◌&&◌, ℤ, List}
use Rattle.sip_field.specs.Residue.{residue}
use Rattle.sip_vector.specs.Extensions.{ext}
use Rattle.sip_counts.specs.Rounds.{adds_up}
use Rattle.sip_sums.specs.AcceptsSum.{is_small_claim}

-- what replies state: the claim of reply 0, and the coefficients of the round polynomial of each
pub record Stated : Type 0 where
  pub claim : ℤ
  pub polynomials : List (List ℕ)

-- the k-th power of the extension at the challenges
abbrev pub power_at : ℕ → ℕ → List ℤ → List ℕ → ℕ
power_at p k numbers challenges = (ext p numbers challenges ^ k) % p

-- the claim is small, and from it on the polynomials of degree k add up to the power of the
-- extension
abbrev pub accepts_stated : ℕ → ℕ → List ℤ → List ℕ → Stated → Bool
accepts_stated p k numbers challenges s =
    is_small_claim p s.claim
    && adds_up p k (power_at p k numbers challenges) (residue p s.claim) s.polynomials challenges
