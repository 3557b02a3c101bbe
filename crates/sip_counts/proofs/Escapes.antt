-- Few vectors escape a test that all but a few continuations keep.
use Rattle.std.proofs.Common.{◌≡◌, ℕ, zero, suc, ◌*◌, ◌-◌, ◌^◌, ◌<◌, ◌≤◌, Bool, true, false, not, List, [], ◌∷◌, ◌++◌, length, arith}
use Rattle.std.proofs.Math.Nat.{pow-suc, mul-le-mul_right, mul_comm, mul_assoc}
use Rattle.std.proofs.lemmas.Bool.{not-false, not_from_true}
use Rattle.std.specs.List.{AllByRecursion}
use Rattle.sip_counts.specs.Counts.{count_below, counted}
use Rattle.sip_counts.proofs.Sums.{sum_below-split}
use Rattle.sip_counts.proofs.Vectors.{by_first, by_first-pow, counted-by_first}

-- what a challenge fewer leaves
one_fewer : (p c d : ℕ) → p * (c * d * p ^ (d - 1)) ≤ c * d * p ^ d
one_fewer p c zero = omega arith
one_fewer p c (suc n) =
    let e : suc n - 1 ≡ n = omega arith in
    rw (e, pow-suc, mul_comm p (c * suc n * p ^ n), mul_assoc) (omega arith)

-- good fails at the empty prefix, and where it fails it holds for few continuations: then it holds
-- for few vectors
few_by_first : (p c d : ℕ) (good : List ℕ → Bool) → good [] ≡ false → ((v : List ℕ) → length v < d → AllByRecursion (λ x. x < p) v → good v ≡ false → count_below p (λ x. good (v ++ x ∷ [])) ≤ c) → by_first p good d ≤ c * d * p ^ (d - 1)
unfolding by_first
few_by_first p c zero good b h = rw b (omega arith)
few_by_first p c (suc d) good b h =
    let few : count_below p (λ x. good (x ∷ [])) ≤ c = h [] (omega arith) tt b in
    let split = sum_below-split p (λ x. by_first p (λ v. good (x ∷ v)) d) (λ x. good (x ∷ [])) (p ^ d) (c * d * p ^ (d - 1))
    (λ x _ _. by_first-pow p (λ v. good (x ∷ v)) d)
    (λ x lt e. few_by_first p c d (λ v. good (x ∷ v)) e (λ v l a k. h (x ∷ v) (omega arith) (lt, a) k)) in
    let most = mul-le-mul_right (p ^ d) few in
    let rest = one_fewer p c d in
    let e : suc d - 1 ≡ d = omega arith in
    rw e (omega arith)

pub few_become_good : (p c d : ℕ) (good : List ℕ → Bool) → good [] ≡ false → ((v : List ℕ) → length v < d → AllByRecursion (λ x. x < p) v → good v ≡ false → count_below p (λ x. good (v ++ x ∷ [])) ≤ c) → counted p good d ≤ c * d * p ^ (d - 1)
few_become_good p c d good b h = rw counted-by_first (few_by_first p c d good b h)

pub few_escape : (p c d : ℕ) (bad : List ℕ → Bool) → bad [] ≡ true → ((v : List ℕ) → length v < d → AllByRecursion (λ x. x < p) v → bad v ≡ true → count_below p (λ x. not (bad (v ++ x ∷ []))) ≤ c) → counted p (λ v. not (bad v)) d ≤ c * d * p ^ (d - 1)
few_escape p c d bad b h = few_become_good p c d (λ v. not (bad v)) (not_from_true (bad []) b) (λ v l a k. h v l a (not-false (bad v) k))
