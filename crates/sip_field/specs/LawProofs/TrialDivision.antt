-- Primes that are settled by trying divisors.
use Rattle.std.proofs.Common.{◌≡◌, ◌≢◌, ℕ, zero, suc, ◌%◌, ◌<◌, inl, inr, Bool, true, false, ◌&&◌}
use Rattle.std.proofs.Common.{not, refl, sym, ◌∙◌, ap, arith, lit<, eq-eqb}
use Rattle.std.proofs.lemmas.Bool.{cases_lt, true≢false, false≢true}
use Rattle.std.proofs.Math.Dec.{eqb}
use Rattle.sip_field.specs.Prime.{IsPrime}

-- whether none of the n numbers from 2 on divides p, by trying each
tried : ℕ → ℕ → Bool
tried p zero = true
tried p (suc n) = not (eqb (p % suc (suc n)) 0) && tried p n

and_true : (a b : Bool) → (a && b) ≡ true → (a ≡ true) × (b ≡ true)
and_true true b e = (refl, e)
and_true false b e = absurd (false≢true e)

not_true : (a : Bool) → not a ≡ true → a ≡ false
not_true true e = absurd (false≢true e)
not_true false e = refl

not_zero : (n : ℕ) → not (eqb n 0) ≡ true → n ≢ 0
not_zero n e z = true≢false (sym (eq-eqb n 0 z) ∙ not_true (eqb n 0) e)

-- where it says so, none of them does
tried_all : (p n : ℕ) → tried p n ≡ true → (q : ℕ) → 1 < q → q < suc (suc n) → p % q ≢ 0
unfolding tried
tried_all p zero t q one less d = omega arith
tried_all p (suc n) t q one less d = elim (cases_lt q (suc (suc n))) [
  | inl lt ↦ tried_all p n (and_true _ _ t).1 q one lt d
  | inr le ↦ not_zero _ (and_true _ _ t).0
      (ap (λ k. p % k) (let e : suc (suc n) ≡ q = omega arith in e) ∙ d)
]

-- 31 is prime, as trying 2 to 30 shows
pub f31_prime : IsPrime 31
unfolding tried
f31_prime = record { above_one = lit< tt; no_divisor = tried_all 31 29 refl }
