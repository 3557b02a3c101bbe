-- A claim that is wrong stays wrong for all but a few challenges of each round, at any degree.
use Rattle.std.proofs.Common.{◌≡◌, ◌≢◌, ℕ, zero, suc, ◌+◌, ◌*◌, ◌-◌, ◌%◌, ◌^◌, ◌<◌, ◌≤◌, Bool, false, eqb, ◌&&◌, List, [], ◌∷◌, ◌++◌, length, get_or, sum, refl, ap, sym, ◌∙◌, arith, inl, inr}
use Rattle.std.proofs.Math.Nat.{zero-mod, mod-add-mod, add-mod-mod}
use Rattle.std.proofs.lemmas.Bool.{cases_Bool, cases_eq, eqb-true, eqb-false, ne_eqb, and_parts, and_left}
use Rattle.std.proofs.lemmas.List.Sums.{sum_by-cons}
use Rattle.sip_field.specs.Prime.{IsPrime}
use Rattle.sip_field.specs.Polynomial.{polynomial}
use Rattle.sip_counts.specs.Counts.{count_below, counted}
use Rattle.sip_counts.specs.Rounds.{AreRounds, adds_up, is_expected, sum_of_ends, value_at}
use Rattle.sip_counts.specs.Strategies.{replies}
use Rattle.sip_counts.proofs.Sums.{count_below-grows, count_below-none}
use Rattle.sip_counts.proofs.Vectors.{counted-grows}
use Rattle.sip_counts.proofs.Escapes.{few_become_good}
use Rattle.sip_counts.proofs.Differences.{few_polynomials_agree}
use Rattle.sip_counts.proofs.Talks.{replies-more}

-- ---- a coefficient that differs

-- one at which two lists differ modulo p
abbrev Differ : ℕ → List ℕ → List ℕ → Type 0
Differ p cs ds = (i : ℕ) × (get_or cs i 0 % p ≢ get_or ds i 0 % p)

-- the same numbers modulo p in front change no remainder of a sum
sums_with : (p a b m n : ℕ) → a % p ≡ b % p → m % p ≡ n % p → (a + m) % p ≡ (b + n) % p
sums_with p a b m n e f =
    sym (mod-add-mod a p m) ∙ ap (λ k. (k + m) % p) e ∙ mod-add-mod b p m
    ∙ sym (add-mod-mod b m p) ∙ ap (λ k. (b + k) % p) f ∙ add-mod-mod b n p

first_sum : (x : ℕ) (xs : List ℕ) → sum (x ∷ xs) ≡ x + sum xs
first_sum x xs = sum_by-cons (λ n. n) x xs

-- where two sums differ, so do two of their terms
differs : (p : ℕ) (cs ds : List ℕ) → sum cs % p ≢ sum ds % p → Differ p cs ds
differs p [] [] ne = absurd (ne refl)
differs p [] (d ∷ ds) ne = elim (cases_eq (0 % p) (d % p)) [
  | inr f ↦ (0, f)
  | inl f ↦
      let rest = differs p [] ds (λ e. ne (sums_with p 0 d 0 (sum ds) f e ∙ ap (λ k. k % p) (sym (first_sum d ds)))) in
      (suc rest.0, rest.1)
]
differs p (c ∷ cs) [] ne = elim (cases_eq (c % p) (0 % p)) [
  | inr f ↦ (0, f)
  | inl f ↦
      let rest = differs p cs [] (λ e. ne (ap (λ k. k % p) (first_sum c cs) ∙ sums_with p c 0 (sum cs) 0 f e)) in
      (suc rest.0, rest.1)
]
differs p (c ∷ cs) (d ∷ ds) ne = elim (cases_eq (c % p) (d % p)) [
  | inr f ↦ (0, f)
  | inl f ↦
      let rest = differs p cs ds (λ e. ne (ap (λ k. k % p) (first_sum c cs) ∙ sums_with p c d (sum cs) (sum ds) f e ∙ ap (λ k. k % p) (sym (first_sum d ds)))) in
      (suc rest.0, rest.1)
]

-- the first coefficient once more, and all of them
ends_as_sum : (p : ℕ) (cs : List ℕ) → sum_of_ends p cs ≡ (get_or cs 0 0 + sum cs) % p
ends_as_sum p [] = sym (zero-mod p)
ends_as_sum p (c ∷ cs) = ap (λ k. k % p) (let e : 2 * c + sum cs ≡ c + sum (c ∷ cs) = omega (arith, first_sum c cs) in e)

-- where the values at 0 and 1 add up to different numbers, two coefficients differ
ends_differ : (p : ℕ) (cs ds : List ℕ) → sum_of_ends p cs ≢ sum_of_ends p ds → Differ p cs ds
ends_differ p cs ds ne = elim (cases_eq (get_or cs 0 0 % p) (get_or ds 0 0 % p)) [
  | inr f ↦ (0, f)
  | inl f ↦ differs p cs ds (λ e. ne (ends_as_sum p cs ∙ sums_with p (get_or cs 0 0) (get_or ds 0 0) (sum cs) (sum ds) f e ∙ sym (ends_as_sum p ds)))
]

-- ---- one round

module _ (p k : ℕ) (prime : IsPrime p) where
  -- few challenges make what is expected right, where it is wrong before
  round_step : (expected right : ℕ) (c t : List ℕ) (sums : ℕ → ℕ) → length t ≤ k + 1 → sum_of_ends p t ≡ right → ((x : ℕ) → value_at p t x ≡ sums x) → eqb expected right ≡ false
      → count_below p (λ x. is_expected p k expected c && eqb (value_at p c x) (sums x)) ≤ k
  round_step expected right c t sums few ends values wrong =
      let test : ℕ → Bool = λ x. eqb (value_at p c x) (sums x) in
      elim (cases_Bool (is_expected p k expected c)) [
        | inr e ↦ omega (arith, count_below-none p (λ x. is_expected p k expected c && test x) (λ x _. and_left (is_expected p k expected c) (test x) e))
        | inl e ↦
            let both = and_parts (eqb (length c) (k + 1)) (eqb (sum_of_ends p c) expected) e in
            let long : length c ≡ k + 1 = eqb-true (length c) (k + 1) both.0 in
            let adds : sum_of_ends p c ≡ expected = eqb-true (sum_of_ends p c) expected both.1 in
            let d : Differ p c t = ends_differ p c t (λ f. eqb-false expected right wrong (sym adds ∙ f ∙ ends)) in
            let agree = few_polynomials_agree p k d.0 c t prime (omega (arith, long)) few d.1 in
            let grows = count_below-grows p (λ x. is_expected p k expected c && test x) (λ x. eqb (polynomial x c % p) (polynomial x t % p))
            (λ x _ h. ap (λ n. eqb (polynomial x c % p) n) (values x) ∙ (and_parts (is_expected p k expected c) (test x) h).1) in
            omega arith
      ]

-- ---- all rounds

-- from an expected value on the polynomials add up, and what is expected after these challenges is
-- the true sum
unfoldable passes : ℕ → ℕ → (List ℕ → List ℕ) → (List ℕ → ℕ) → ℕ → List ℕ → Bool
passes p k stated sums expected [] = eqb expected (sums [])
passes p k stated sums expected (x ∷ v) =
    is_expected p k expected (stated []) && passes p k (λ w. stated (x ∷ w)) (λ w. sums (x ∷ w)) (value_at p (stated []) x) v

-- the rounds behind a first challenge
later : (p k m x : ℕ) (truth : List ℕ → List ℕ) (sums : List ℕ → ℕ) → AreRounds p k (suc m) truth sums → AreRounds p k m (λ w. truth (x ∷ w)) (λ w. sums (x ∷ w))
later p k m x truth sums are = record {
  few = λ v lt. are.few (x ∷ v) (omega arith);
  ends = λ v lt. are.ends (x ∷ v) (omega arith);
  values = λ v y lt. are.values (x ∷ v) y (omega arith);
}

passes_step : (p k : ℕ) → IsPrime p → (m : ℕ) (stated truth : List ℕ → List ℕ) (sums : List ℕ → ℕ) (expected : ℕ) → AreRounds p k m truth sums → (v : List ℕ) → length v < m
    → passes p k stated sums expected v ≡ false → count_below p (λ x. passes p k stated sums expected (v ++ x ∷ [])) ≤ k
unfolding passes
passes_step p k prime zero stated truth sums expected are v short wrong = absurd (omega arith)
passes_step p k prime (suc m) stated truth sums expected are [] short wrong =
    round_step p k prime expected (sums []) (stated []) (truth []) (λ x. sums (x ∷ [])) (are.few [] short) (are.ends [] short) (λ x. are.values [] x short) wrong
passes_step p k prime (suc m) stated truth sums expected are (y ∷ v) short wrong =
    let adds : Bool = is_expected p k expected (stated []) in
    let rest : List ℕ → Bool = passes p k (λ w. stated (y ∷ w)) (λ w. sums (y ∷ w)) (value_at p (stated []) y) in
    elim (cases_Bool (is_expected p k expected (stated []))) [
      | inr e ↦ omega (arith, count_below-none p (λ x. adds && rest (v ++ x ∷ [])) (λ x _. and_left adds (rest (v ++ x ∷ [])) e))
      | inl e ↦
          let inner : rest v ≡ false = rw e at wrong in
          let few = passes_step p k prime m (λ w. stated (y ∷ w)) (λ w. truth (y ∷ w)) (λ w. sums (y ∷ w)) (value_at p (stated []) y) (later p k m y truth sums are) v (omega arith) inner in
          let grows = count_below-grows p (λ x. adds && rest (v ++ x ∷ [])) (λ x. rest (v ++ x ∷ [])) (λ x _ h. (and_parts adds (rest (v ++ x ∷ [])) h).1) in
          omega arith
    ]

-- polynomials that add up to the true sum at all challenges pass
adds_up_passes : (p k : ℕ) (stated : List ℕ → List ℕ) (sums : List ℕ → ℕ) (expected : ℕ) (v : List ℕ) → adds_up p k (sums v) expected (replies stated v) v ≡ passes p k stated sums expected v
unfolding passes adds_up
adds_up_passes p k stated sums expected [] = refl
adds_up_passes p k stated sums expected (x ∷ v) =
    ap (λ cs. adds_up p k (sums (x ∷ v)) expected cs (x ∷ v)) (replies-more stated x v)
    ∙ ap (λ b. is_expected p k expected (stated []) && b) (adds_up_passes p k (λ w. stated (x ∷ w)) (λ w. sums (x ∷ w)) (value_at p (stated []) x) v)

-- ---- the count

pub few_wrong_claims : (p k d : ℕ) (stated truth : List ℕ → List ℕ) (sums : List ℕ → ℕ) (expected : ℕ) → IsPrime p → AreRounds p k d truth sums → expected ≢ sums []
    → counted p (λ r. adds_up p k (sums r) expected (replies stated r) r) d ≤ k * d * p ^ (d - 1)
unfolding passes
few_wrong_claims p k d stated truth sums expected prime are wrong =
    let grows = counted-grows p (λ r. adds_up p k (sums r) expected (replies stated r) r) (passes p k stated sums expected) d
    (λ v _ _ h. sym (adds_up_passes p k stated sums expected v) ∙ h) in
    let few = few_become_good p k d (passes p k stated sums expected) (ne_eqb expected (sums []) wrong)
    (λ v short _ h. passes_step p k prime d stated truth sums expected are v short h) in
    omega arith
