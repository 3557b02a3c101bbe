-- Two polynomials that differ in a coefficient have the same value for no more numbers than their
-- degree.
use Rattle.std.proofs.Common.{◌≡◌, ◌≢◌, ℕ, zero, suc, ◌+◌, ◌*◌, ◌-◌, ◌%◌, ◌<◌, ◌≤◌, eqb, List, [], ◌∷◌, length, get_or, refl, ap, sym, ◌∙◌, arith, zero-add}
use Rattle.std.proofs.Math.Nat.{mod-add-mod, mul-mod_right, add-mul-mod_self_left}
use Rattle.std.proofs.lemmas.Bool.{eqb-true, eq-eqb}
use Rattle.sip_field.specs.Prime.{IsPrime}
use Rattle.sip_field.specs.Polynomial.{polynomial}
use Rattle.sip_counts.specs.Counts.{count_below}
use Rattle.sip_counts.proofs.Sums.{count_below-grows}
use Rattle.sip_counts.proofs.Roots.{value, polynomial-value, few_roots}

-- ---- v taken away modulo p is p - 1 times v added

plus_again : (p u v : ℕ) → 0 < p → (u + (p - 1) * v) + v ≡ u + p * v
plus_again zero u v pos = absurd (omega arith)
plus_again (suc m) u v pos = let e : suc m - 1 ≡ m = omega arith in rw e (omega arith)

pub same_from_zero : (p u v : ℕ) → 0 < p → (u + (p - 1) * v) % p ≡ 0 → u % p ≡ v % p
same_from_zero p u v pos e =
    let a = add-mul-mod_self_left u p v in
    let b = mod-add-mod (u + (p - 1) * v) p v in
    let c = rw (e, plus_again p u v pos, zero-add) at b in
    sym (c ∙ a)

pub zero_from_same : (p u v : ℕ) → 0 < p → u % p ≡ v % p → (u + (p - 1) * v) % p ≡ 0
zero_from_same p u v pos e =
    let a = mod-add-mod u p ((p - 1) * v) in
    let b = mod-add-mod v p ((p - 1) * v) in
    let c : v + (p - 1) * v ≡ p * v = omega (arith, plus_again p 0 v pos) in
    sym a ∙ ap (λ k. (k + (p - 1) * v) % p) e ∙ b ∙ ap (λ k. k % p) c ∙ mul-mod_right p v

-- ---- the difference modulo p

difference : ℕ → List ℕ → List ℕ → List ℕ
difference p [] [] = []
difference p [] (d ∷ ds) = ((p - 1) * d) ∷ difference p [] ds
difference p (c ∷ cs) [] = c ∷ difference p cs []
difference p (c ∷ cs) (d ∷ ds) = (c + (p - 1) * d) ∷ difference p cs ds

difference_step : (n c d x u v w : ℕ) → w ≡ u + n * v → c + n * d + x * w ≡ (c + x * u) + n * (d + x * v)
difference_step n c d x u v w e = rw e (omega arith)

value-difference : (p x : ℕ) (cs ds : List ℕ) → value (difference p cs ds) x ≡ value cs x + (p - 1) * value ds x
unfolding difference value
value-difference p x [] [] = omega arith
value-difference p x [] (d ∷ ds) = omega (arith, difference_step (p - 1) 0 d x 0 (value ds x) (value (difference p [] ds) x) (value-difference p x [] ds))
value-difference p x (c ∷ cs) [] = omega (arith, difference_step (p - 1) c 0 x (value cs x) 0 (value (difference p cs []) x) (value-difference p x cs []))
value-difference p x (c ∷ cs) (d ∷ ds) = difference_step (p - 1) c d x (value cs x) (value ds x) (value (difference p cs ds) x) (value-difference p x cs ds)

difference-at : (p : ℕ) (cs ds : List ℕ) (i : ℕ) → get_or (difference p cs ds) i 0 ≡ get_or cs i 0 + (p - 1) * get_or ds i 0
unfolding difference
difference-at p [] [] i = omega arith
difference-at p [] (d ∷ ds) zero = omega arith
difference-at p [] (d ∷ ds) (suc i) = difference-at p [] ds i
difference-at p (c ∷ cs) [] zero = omega arith
difference-at p (c ∷ cs) [] (suc i) = difference-at p cs [] i
difference-at p (c ∷ cs) (d ∷ ds) zero = refl
difference-at p (c ∷ cs) (d ∷ ds) (suc i) = difference-at p cs ds i

difference-length : (p n : ℕ) (cs ds : List ℕ) → length cs ≤ n → length ds ≤ n → length (difference p cs ds) ≤ n
unfolding difference
difference-length p n [] [] a b = omega arith
difference-length p zero [] (d ∷ ds) a b = absurd (omega arith)
difference-length p (suc n) [] (d ∷ ds) a b = omega (arith, difference-length p n [] ds (omega arith) (omega arith))
difference-length p zero (c ∷ cs) ds a b = absurd (omega arith)
difference-length p (suc n) (c ∷ cs) [] a b = omega (arith, difference-length p n cs [] (omega arith) (omega arith))
difference-length p (suc n) (c ∷ cs) (d ∷ ds) a b = omega (arith, difference-length p n cs ds (omega arith) (omega arith))

-- ---- few numbers

pub few_agree : (p k i : ℕ) (cs ds : List ℕ) → IsPrime p → length cs ≤ k + 1 → length ds ≤ k + 1 → get_or cs i 0 % p ≢ get_or ds i 0 % p → count_below p (λ x. eqb (value cs x % p) (value ds x % p)) ≤ k
few_agree p k i cs ds prime le le' ne =
    let pos : 0 < p = omega (arith, prime.above_one) in
    let grows = count_below-grows p (λ x. eqb (value cs x % p) (value ds x % p)) (λ x. eqb (value (difference p cs ds) x % p) 0)
    (λ x lt e. eq-eqb (value (difference p cs ds) x % p) 0 (rw (value-difference p x cs ds) (zero_from_same p (value cs x) (value ds x) pos (eqb-true (value cs x % p) (value ds x % p) e)))) in
    let few = few_roots p k (difference p cs ds) i prime (difference-length p (k + 1) cs ds le le')
    (λ z. ne (same_from_zero p (get_or cs i 0) (get_or ds i 0) pos (rw (difference-at p cs ds i) at z))) in
    omega arith

-- the same in the words of the laws

pub few_polynomial_roots : (p k i : ℕ) (cs : List ℕ) → IsPrime p → length cs ≤ k + 1 → get_or cs i 0 % p ≢ 0 → count_below p (λ x. eqb (polynomial x cs % p) 0) ≤ k
few_polynomial_roots p k i cs prime le ne =
    let grows = count_below-grows p (λ x. eqb (polynomial x cs % p) 0) (λ x. eqb (value cs x % p) 0) (λ x _ e. rw (← polynomial-value x cs) e) in
    let few = few_roots p k cs i prime le ne in
    omega arith

pub few_polynomials_agree : (p k i : ℕ) (cs ds : List ℕ) → IsPrime p → length cs ≤ k + 1 → length ds ≤ k + 1 → get_or cs i 0 % p ≢ get_or ds i 0 % p → count_below p (λ x. eqb (polynomial x cs % p) (polynomial x ds % p)) ≤ k
few_polynomials_agree p k i cs ds prime le le' ne =
    let grows = count_below-grows p (λ x. eqb (polynomial x cs % p) (polynomial x ds % p)) (λ x. eqb (value cs x % p) (value ds x % p)) (λ x _ e. rw (← polynomial-value x cs, ← polynomial-value x ds) e) in
    let few = few_agree p k i cs ds prime le le' ne in
    omega arith
