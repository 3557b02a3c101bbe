-- The values of a round polynomial, as the steps of arithmetic that give them.
use Rattle.std.proofs.Common.{◌≡◌, ℕ, ◌+◌, ◌*◌, ◌%◌, ◌^◌, [], ◌∷◌, ap, ◌∙◌, arith}
use Rattle.std.proofs.Math.Nat.{pow-zero, pow-succ'}
use Rattle.sip_field.specs.Polynomial.{polynomial}
use Rattle.sip_field.proofs.Residues.{residues}

-- the powers of x, multiplied out
powers : (a b c x : ℕ) → a + (b + c * x) * x ≡ polynomial x (a ∷ b ∷ c ∷ [])
powers a b c x =
    let none = pow-zero x in
    let one : x ^ 1 ≡ x = omega (arith, pow-succ' x 0, ap (λ n. x * n) none) in
    let two : x ^ 2 ≡ x * x = pow-succ' x 1 ∙ ap (λ n. x * n) one in
    omega (arith, ap (λ n. a * n) none, ap (λ n. b * n) one, ap (λ n. c * n) two)

-- Horner's rule
pub value_is : (p a b c x : ℕ)
    → (a + (((b + (c * x) % p) % p) * x) % p) % p ≡ polynomial x (a ∷ b ∷ c ∷ []) % p
value_is p a b c x = simp residues (ap (λ n. n % p) (powers a b c x))

-- the values at 0 and 1: a, and a + b + c
pub ends_are : (p a b c : ℕ)
    → ((((a + a) % p + b) % p) + c) % p ≡ (2 * a + b + c) % p
ends_are p a b c =
    simp residues (ap (λ n. n % p) (let e : a + a + b + c ≡ 2 * a + b + c = omega arith in e))
