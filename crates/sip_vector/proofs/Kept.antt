-- Numbers that a weight bounds, and the test whether a number is 0.
use Rattle.std.proofs.Common.{◌≡◌, Bool, ◌≢◌, ◌⊎◌, ℕ, zero, suc, true, false, not, inl, inr, negsuc, FitsSigned, w64, to_z, of_z, ◌≤◌, List, ℤ, pos, nat_abs, refl, arith}
use Rattle.std.proofs.lemmas.Int.{fits_signed_from_abs, to_z-of_z}
use Rattle.std.proofs.lemmas.Bool.Decides.{eqb_tells}
use Rattle.sip_vector.specs.Answers.{is_zero}
use Rattle.sip_vector.specs.Streams.{most_weight}
use Rattle.sip_vector.specs.Vectors.{SideVector, StoredVector}

-- equal parts make equal vectors
pub same_parts : (depth : ℕ) (xs ys : List ℤ) (v w : ℕ) → xs ≡ ys → v ≡ w
    → (let a : SideVector = record { depth = depth; numbers = xs; weight = v } in a) ≡ record { depth = depth; numbers = ys; weight = w }
same_parts depth xs ys v w e f = cc

pub same_stored : (depth : ℕ) (xs ys : List ℤ) (v w : ℕ) (s t : Bool) → xs ≡ ys → v ≡ w → s ≡ t
    → (let a : StoredVector = record { depth = depth; numbers = xs; weight = v; is_settled = s } in a) ≡ record { depth = depth; numbers = ys; weight = w; is_settled = t }
same_stored depth xs ys v w s t e f g = cc

-- what is bounded by a weight fits an i64
pub fits : (z : ℤ) → nat_abs z ≤ most_weight → FitsSigned w64 z
fits z light = fits_signed_from_abs w64 z (omega arith)

pub same_z : (z : ℤ) → nat_abs z ≤ most_weight → to_z w64 (of_z w64 z) ≡ z
same_z z light = to_z-of_z w64 z (fits z light)

-- the test whether a number is 0 tells it
pub is_zero_tells : (z : ℤ) → ((is_zero z ≡ true) × (z ≡ pos 0)) ⊎ ((is_zero z ≡ false) × (z ≢ pos 0))
is_zero_tells (pos zero) = inl (refl, refl)
is_zero_tells (pos (suc n)) = elim (eqb_tells (suc n) 0) [
  | inl t ↦ absurd (omega (arith, t.1))
  | inr t ↦ inr (t.0, λ e. cc)
]
is_zero_tells (negsuc n) = elim (eqb_tells (suc n) 0) [
  | inl t ↦ absurd (omega (arith, t.1))
  | inr t ↦ inr (t.0, λ e. cc)
]

-- it fails at a number that is not 0
pub is_zero-false : (z : ℤ) → z ≢ pos 0 → is_zero z ≡ false
is_zero-false z some = elim (is_zero_tells z) [ inl t ↦ absurd (some t.1) | inr t ↦ t.0 ]

-- and at no other
pub not_is_zero : (z : ℤ) → not (is_zero z) ≡ true → z ≢ pos 0
not_is_zero z h e = absurd (let zero : not (is_zero z) ≡ false = rw e refl in cc)
