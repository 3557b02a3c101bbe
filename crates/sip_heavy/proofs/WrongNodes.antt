-- Wrong nodes in whole pairs make a wrong node above for all but three challenges.
use Rattle.std.proofs.Common.{◌≡◌, ℕ, ◌+◌, ◌*◌, ◌/◌, ◌%◌, ◌<◌, ◌≤◌, ◌^◌, Bool, true, false, ◌&&◌, eqb, ltb, List, [], ◌∷◌, ap, sym, ◌∙◌, arith, inl, inr}
use Rattle.std.specs.Prelude.{nat_lt}
use Rattle.std.specs.List.{list_all}
use Rattle.std.proofs.Math.Nat.{pow-zero, pow-succ', mod-mod, mod-eq_of_lt}
use Rattle.std.proofs.lemmas.Bool.{cases_Bool, cases_eq, eqb-true, eq-eqb, ne_eqb, ltb-true, and_parts, and_from, and_right, both_ways, false_from_ne_true}
use Rattle.sip_field.specs.Prime.{IsPrime}
use Rattle.sip_field.specs.Polynomial.{polynomial}
use Rattle.sip_counts.specs.Counts.{count_below}
use Rattle.sip_counts.proofs.Sums.{count_below-grows, count_below-none}
use Rattle.sip_counts.proofs.Differences.{few_polynomials_agree}
use Rattle.sip_wire.specs.declared.message.Node.{Node}
use Rattle.sip_heavy.specs.TrueNodes.{Spot, is_spot, spot_above, are_true, level_above}
use Rattle.sip_heavy.specs.AcceptsHeavy.{are_pairs, pair_counts, joined, nodes_above}

-- ---- one pair

powers : (a b c d x : ℕ) → a + b * x + c * x ^ 2 + d * x ^ 3 ≡ polynomial x (a ∷ b ∷ c ∷ d ∷ [])
powers a b c d x =
    let none = pow-zero x in
    let one : x ^ 1 ≡ x = omega (arith, pow-succ' x 0, ap (λ n. x * n) none) in
    omega (arith, ap (λ n. a * n) none, ap (λ n. b * n) one)

-- the hashes above are the values of two polynomials
same_values : (p x : ℕ) (l h : Node) (s t : Spot) → is_spot p (joined p x l h) (spot_above p x s t) ≡ true
    → eqb (polynomial x (l.hash ∷ l.count % p ∷ h.hash ∷ h.count % p ∷ []) % p) (polynomial x (s.0 ∷ s.1 % p ∷ t.0 ∷ t.1 % p ∷ []) % p) ≡ true
same_values p x l h s t is =
    let a : ℕ = l.hash + l.count % p * x + h.hash * x ^ 2 + h.count % p * x ^ 3 in
    let b : ℕ = s.0 + s.1 % p * x + t.0 * x ^ 2 + t.1 % p * x ^ 3 in
    let hashes : a % p % p ≡ b % p % p = eqb-true (a % p % p) (b % p % p) (and_parts (eqb (a % p % p) (b % p % p)) (eqb (l.count + h.count) (s.1 + t.1)) is).0 in
    let same : a % p ≡ b % p = sym (mod-mod a p) ∙ hashes ∙ mod-mod b p in
    eq-eqb _ _ (ap (λ n. n % p) (sym (powers l.hash (l.count % p) h.hash (h.count % p) x)) ∙ same ∙ ap (λ n. n % p) (powers s.0 (s.1 % p) t.0 (t.1 % p) x))

same_below : (p a b : ℕ) → a < p → b < p → a % p % p ≡ b % p % p → a ≡ b
same_below p a b la lb e = sym (mod-eq_of_lt la) ∙ sym (mod-mod a p) ∙ e ∙ mod-mod b p ∙ mod-eq_of_lt lb

-- a wrong pair
module _ (p : ℕ) (prime : IsPrime p) (l h : Node) (s t : Spot) (small : l.count + h.count < p) (wrong : (is_spot p l s && is_spot p h t) ≡ false) where
  abbrev stated : List ℕ
  stated = l.hash ∷ l.count % p ∷ h.hash ∷ h.count % p ∷ []

  abbrev true_ones : List ℕ
  true_ones = s.0 ∷ s.1 % p ∷ t.0 ∷ t.1 % p ∷ []

  few_points : l.count + h.count ≡ s.1 + t.1 → count_below p (λ x. eqb (polynomial x stated % p) (polynomial x true_ones % p)) ≤ 3
  few_points same = elim (cases_eq (l.hash % p) (s.0 % p)) [
    | inr f ↦ few_polynomials_agree p 3 0 stated true_ones prime (omega arith) (omega arith) f
    | inl e0 ↦ elim (cases_eq (l.count % p % p) (s.1 % p % p)) [
      | inr f ↦ few_polynomials_agree p 3 1 stated true_ones prime (omega arith) (omega arith) f
      | inl e1 ↦ elim (cases_eq (h.hash % p) (t.0 % p)) [
        | inr f ↦ few_polynomials_agree p 3 2 stated true_ones prime (omega arith) (omega arith) f
        | inl e2 ↦ few_polynomials_agree p 3 3 stated true_ones prime (omega arith) (omega arith) (λ e3.
            both_ways (is_spot p l s && is_spot p h t) wrong
            (and_from (is_spot p l s) (is_spot p h t)
            (and_from (eqb (l.hash % p) (s.0 % p)) (eqb l.count s.1) (eq-eqb (l.hash % p) (s.0 % p) e0) (eq-eqb l.count s.1 (same_below p l.count s.1 (omega arith) (omega arith) e1)))
            (and_from (eqb (h.hash % p) (t.0 % p)) (eqb h.count t.1) (eq-eqb (h.hash % p) (t.0 % p) e2) (eq-eqb h.count t.1 (same_below p h.count t.1 (omega arith) (omega arith) e3)))))
      ]
    ]
  ]

  few_joined : count_below p (λ x. is_spot p (joined p x l h) (spot_above p x s t)) ≤ 3
  few_joined = elim (cases_eq (l.count + h.count) (s.1 + t.1)) [
    | inr differ ↦ omega (arith, count_below-none p (λ x. is_spot p (joined p x l h) (spot_above p x s t)) (λ x _. and_right (eqb ((joined p x l h).hash % p) ((spot_above p x s t).0 % p)) (eqb (l.count + h.count) (s.1 + t.1)) (ne_eqb (l.count + h.count) (s.1 + t.1) differ)))
    | inl same ↦
        let few = few_points same in
        let grows = count_below-grows p (λ x. is_spot p (joined p x l h) (spot_above p x s t)) (λ x. eqb (polynomial x stated % p) (polynomial x true_ones % p)) (λ x _ k. same_values p x l h s t k) in
        omega arith
  ]

-- ---- all pairs

-- where the nodes of a pair stand
pub pair_at : (l h : Node) (more : List Node) → are_pairs (l ∷ h ∷ more) ≡ true → (l.index ≡ 2 * (l.index / 2)) × (h.index ≡ 2 * (l.index / 2) + 1) × (are_pairs more ≡ true)
pair_at l h more pairs =
    let parts = and_parts (eqb (l.index % 2) 0 && eqb h.index (l.index + 1)) (are_pairs more) pairs in
    let here = and_parts (eqb (l.index % 2) 0) (eqb h.index (l.index + 1)) parts.0 in
    let even : l.index % 2 ≡ 0 = eqb-true (l.index % 2) 0 here.0 in
    let next : h.index ≡ l.index + 1 = eqb-true h.index (l.index + 1) here.1 in
    (omega (arith, even), omega (arith, even, next), parts.1)

-- some wrong node in pairs whose counts are below p
pub few_true_above : (p : ℕ) → IsPrime p → (truth : ℕ → Spot) (nodes : List Node) → are_pairs nodes ≡ true → list_all (λ c. nat_lt c p) (pair_counts nodes) ≡ true → are_true p truth nodes ≡ false
    → count_below p (λ x. are_true p (level_above p x truth) (nodes_above p x nodes)) ≤ 3
few_true_above p prime truth [] pairs small wrong = absurd (cc)
few_true_above p prime truth (l ∷ []) pairs small wrong = absurd (cc)
few_true_above p prime truth (l ∷ h ∷ more) pairs small wrong =
    let at = pair_at l h more pairs in
    let counts = and_parts (ltb (l.count + h.count) p) (list_all (λ c. nat_lt c p) (pair_counts more)) small in
    let m : ℕ = l.index / 2 in
    let here : ℕ → Bool = λ x. is_spot p (joined p x l h) (level_above p x truth m) in
    let there : ℕ → Bool = λ x. are_true p (level_above p x truth) (nodes_above p x more) in
    elim (cases_Bool (are_true p truth more)) [
      | inr e ↦
          let few = few_true_above p prime truth more at.2 counts.1 e in
          let grows = count_below-grows p (λ x. here x && there x) there (λ x _ k. (and_parts (here x) (there x) k).1) in
          omega arith
      | inl e ↦
          let bad : (is_spot p l (truth (2 * m)) && is_spot p h (truth (2 * m + 1))) ≡ false = false_from_ne_true (is_spot p l (truth (2 * m)) && is_spot p h (truth (2 * m + 1))) (λ k.
          let both = and_parts (is_spot p l (truth (2 * m))) (is_spot p h (truth (2 * m + 1))) k in
          both_ways (are_true p truth (l ∷ h ∷ more)) wrong
          (and_from (is_spot p l (truth l.index)) (is_spot p h (truth h.index) && are_true p truth more) (ap (λ i. is_spot p l (truth i)) at.0 ∙ both.0)
          (and_from (is_spot p h (truth h.index)) (are_true p truth more) (ap (λ i. is_spot p h (truth i)) at.1 ∙ both.1) e))) in
          let few = few_joined p prime l h (truth (2 * m)) (truth (2 * m + 1)) (ltb-true (l.count + h.count) p counts.0) bad in
          let grows = count_below-grows p (λ x. here x && there x) here (λ x _ k. (and_parts (here x) (there x) k).0) in
          omega arith
    ]
