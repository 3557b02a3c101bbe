-- Powers of signed numbers.
use Rattle.std.proofs.Common.{◌≡◌, ℕ, zero, suc, ◌*◌, ◌%◌, ◌^◌, ◌≤◌, false, eqb, ℤ, pos, negsuc, neg_ℤ, ◌*ℤ◌, nat_abs, refl, ap, sym, ◌∙◌, inl, inr, arith}
use Rattle.std.specs.Int.{int_pow}
use Rattle.std.proofs.Math.Nat.{pow-zero, pow-succ'}
use Rattle.std.proofs.lemmas.Bool.Decides.{eqb_tells}

abs_neg : (n : ℕ) → nat_abs (neg_ℤ (pos n)) ≡ n
abs_neg zero = refl
abs_neg (suc n) = refl

-- the absolute value of a power
pub abs-power : (x : ℤ) (k : ℕ) → nat_abs (int_pow x k) ≡ nat_abs x ^ k
abs-power (pos a) k = refl
abs-power (negsuc a) k = elim (eqb_tells (k % 2) 0) [
  | inl t ↦ rw t.0 refl
  | inr t ↦ rw t.0 (abs_neg (suc a ^ k))
]

neg_times_neg : (a n : ℕ) → negsuc a *ℤ neg_ℤ (pos n) ≡ pos (suc a * n)
neg_times_neg a zero = let e : suc a * 0 ≡ 0 = omega arith in rw e refl
neg_times_neg a (suc n) = refl

-- one factor more
pub power-suc : (x : ℤ) (k : ℕ) → int_pow x (suc k) ≡ x *ℤ int_pow x k
power-suc (pos a) k = ap (λ n. pos n) (pow-succ' a k)
power-suc (negsuc a) k = elim (eqb_tells (k % 2) 0) [
  | inl t ↦
      let odd : eqb (suc k % 2) 0 ≡ false = by_odd (suc k % 2) (omega (arith, t.1)) in
      rw (t.0, odd) (ap (λ n. neg_ℤ (pos n)) (pow-succ' (suc a) k))
  | inr t ↦
      let even : suc k % 2 ≡ 0 = omega (arith, t.1) in
      rw (t.0, even) (ap (λ n. pos n) (pow-succ' (suc a) k) ∙ sym (neg_times_neg a (suc a ^ k)))
]
  where
    by_odd : (n : ℕ) → n ≡ 1 → eqb n 0 ≡ false
    by_odd n e = rw e refl

-- nothing to a power
pub power_of_nothing : (k : ℕ) → 1 ≤ k → int_pow (pos 0) k ≡ pos 0
power_of_nothing zero some = absurd (omega arith)
power_of_nothing (suc k) some = ap (λ n. pos n) (pow-succ' 0 k ∙ (let e : 0 * 0 ^ k ≡ 0 = omega arith in e))

pub power-zero : (x : ℤ) → int_pow x 0 ≡ pos 1
power-zero (pos a) = ap (λ n. pos n) (pow-zero a)
power-zero (negsuc a) = ap (λ n. pos n) (pow-zero (suc a))
