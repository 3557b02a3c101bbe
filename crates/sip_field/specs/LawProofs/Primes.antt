-- The moduli are prime, and a product of residues modulo a prime is 0 only where one of them is.
use Rattle.std.proofs.Common.{◌≡◌, ℕ, ◌*◌, ◌%◌, ◌<◌, ◌⊎◌, inl, inr, sym, ◌∙◌}
use Rattle.std.proofs.Math.Nat.{mod-eq_of_lt}
use Rattle.sip_field.specs.Moduli.{m61_modulus, f31_modulus}
use Rattle.sip_field.specs.Prime.{IsPrime}
use Rattle.sip_field.specs.LawProofs.Euclid.{euclid}
use Rattle.sip_field.specs.LawProofs.MersennePrime as mersenne
use Rattle.sip_field.specs.LawProofs.TrialDivision as trial

pub m61_prime : IsPrime m61_modulus
m61_prime = mersenne.m61_prime

pub f31_prime : IsPrime f31_modulus
f31_prime = trial.f31_prime

-- of two values whose product is 0, one stands for 0
pub zero_product : {A : Type 0} (p : ℕ) (number : A → ℕ) → IsPrime p → ((x : A) → number x < p) →
    (x y : A) → (number x * number y) % p ≡ 0 → (number x ≡ 0) ⊎ (number y ≡ 0)
zero_product p number prime below x y zero = elim (euclid p prime (number x) (number y) zero) [
  | inl h ↦ inl (sym (mod-eq_of_lt (below x)) ∙ h)
  | inr h ↦ inr (sym (mod-eq_of_lt (below y)) ∙ h)
]
