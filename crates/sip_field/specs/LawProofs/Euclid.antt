-- A prime divides a product only if it divides a factor.
use Rattle.std.proofs.Common.{◌≡◌, ◌≢◌, ℕ, zero, suc, ◌+◌, ◌*◌, ◌%◌, ◌/◌, ◌<◌, ◌≤◌, inl, inr, sym}
use Rattle.std.proofs.Common.{◌∙◌, ap, arith}
use Rattle.std.proofs.lemmas.Bool.{cases_eq}
use Rattle.std.proofs.lemmas.Nat.{mul-mod_first, mul-mod_second}
use Rattle.std.proofs.Math.Nat.{mod-lt, mod-add-div, add-mod-mod, mul-mod_right}
use Rattle.sip_field.specs.Prime.{IsPrime, NoZeroDivisor}

-- the rest of p by a, times b, is a multiple of p where a * b is
rest_multiple : (p a b : ℕ) → (a * b) % p ≡ 0 → (p % a * b) % p ≡ 0
rest_multiple p a b e =
    let times : (p / a * (a * b)) % p ≡ 0 =
    sym (mul-mod_second (p / a) (a * b) p) ∙ ap (λ n. (p / a * n) % p) e
    ∙ ap (λ n. n % p) (omega arith) ∙ zero_mod p in
    let whole : p % a * b + p / a * (a * b) ≡ p * b =
    (let h : (p % a + a * (p / a)) * b ≡ p * b = ap (λ n. n * b) (mod-add-div p a) in
    omega arith) in
    ap (λ n. n % p) (omega arith) ∙ ap (λ n. (p % a * b + n) % p) (sym times)
    ∙ add-mod-mod (p % a * b) (p / a * (a * b)) p
    ∙ ap (λ n. n % p) whole ∙ mul-mod_right p b
  where
    zero_mod : (p : ℕ) → 0 % p ≡ 0
    zero_mod p = ap (λ n. n % p) (omega arith) ∙ mul-mod_right p 0

-- if p divides a * b and not a, then it divides b: by descent from a to the rest of p by a
descent : (p : ℕ) → IsPrime p → (b n a : ℕ) → a ≤ n → 0 < a → a < p → (a * b) % p ≡ 0 → b % p ≡ 0
descent p prime b zero a le pos lt e = absurd (omega arith)
descent p prime b (suc n) a le pos lt e = elim (cases_eq a 1) [
  | inl one ↦ ap (λ n. n % p) (let k : a * b ≡ 1 * b = ap (λ n. n * b) one in omega arith) ∙ e
  | inr ne ↦
      let small : p % a < a = mod-lt p pos in
      let some : p % a ≢ 0 = prime.no_divisor a (omega arith) lt in
      descent p prime b n (p % a) (omega arith) (omega arith) (omega arith) (rest_multiple p a b e)
]

-- by descent from a % p, where that isn't 0
pub euclid : (p : ℕ) → IsPrime p → NoZeroDivisor p
euclid p prime a b e = elim (cases_eq (a % p) 0) [
  | inl none ↦ inl none
  | inr some ↦
      let pos : 0 < p = let one = prime.above_one in omega arith in
      let small : a % p < p = mod-lt a pos in
      inr (descent p prime b (a % p) (a % p) (omega arith) (omega arith) small
      (mul-mod_first a b p ∙ e))
]
