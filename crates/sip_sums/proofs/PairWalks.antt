-- Walks over two rising lists of pairs beside each other.
use Rattle.std.proofs.Common.{◌≡◌, ℕ, suc, ◌+◌, ◌*◌, ◌%◌, ◌<◌, ◌≤◌, List, [], ◌∷◌, refl, sym, ap, ◌∙◌, arith}
use Rattle.std.proofs.Math.Nat.{mod-eq_of_lt}
use Rattle.sip_field.specs.Residue.{difference_mod}
use Rattle.sip_sums.specs.AcceptsSum.{Coefficients}
use Rattle.sip_sums.specs.Pairs.{Neighbours, neighbours, pair_at, summed, with_product, Rises}
use Rattle.sip_sums.proofs.ListPairs.{rises-earlier, pair_at-earlier, pair_at-here, pair_at-later}
use Rattle.sip_sums.proofs.PairSums.{IsReduced, made-same, no_difference}

module _ (p : ℕ) where
  -- only the pairs that are taken matter
  summed-agree : (f g : Neighbours → Neighbours) (least n : ℕ) (c : Coefficients) (ss : List Neighbours) → Rises least n ss
      → ((s : Neighbours) → least ≤ s.index → f s ≡ g s) → summed p f c ss ≡ summed p g c ss
  summed-agree f g least n c [] rise same = refl
  summed-agree f g least n c (s ∷ ss) rise same =
      ap (λ t. summed p f (with_product p c s t) ss) (same s rise.0)
      ∙ summed-agree f g (suc s.index) n (with_product p c s (g s)) ss rise.2 (λ t le. same t (omega (arith, rise.0, le)))

  -- a pair of zeros adds nothing
  no_product : (c : Coefficients) (s : Neighbours) (k : ℕ) → IsReduced p c → with_product p c s (neighbours k 0 0) ≡ c
  no_product c s k h =
      made-same p _ _ _ c.c0 c.c1 c.c2
      (ap (λ n. n % p) (let e : c.c0 + s.left * 0 ≡ c.c0 = omega arith in e) ∙ mod-eq_of_lt h.c0)
      (ap (λ d. (c.c1 + (s.left * d + 0 * difference_mod p s.right s.left)) % p) (no_difference p)
      ∙ ap (λ n. n % p) (let e : c.c1 + (s.left * 0 + 0 * difference_mod p s.right s.left) ≡ c.c1 = omega arith in e) ∙ mod-eq_of_lt h.c1)
      (ap (λ d. (c.c2 + difference_mod p s.right s.left * d) % p) (no_difference p)
      ∙ ap (λ n. n % p) (let e : c.c2 + difference_mod p s.right s.left * 0 ≡ c.c2 = omega arith in e) ∙ mod-eq_of_lt h.c2)

  pub summed-nothing : (c : Coefficients) (ss : List Neighbours) → IsReduced p c → summed p (λ s. neighbours s.index 0 0) c ss ≡ c
  summed-nothing c [] h = refl
  summed-nothing c (s ∷ ss) h = ap (λ d. summed p (λ s. neighbours s.index 0 0) d ss) (no_product c s s.index h) ∙ summed-nothing c ss h

  abbrev pub joined : List Neighbours → Coefficients → List Neighbours → Coefficients
  joined ts c ss = summed p (λ s. pair_at ts s.index) c ss

  -- the first list's pair comes first: the second list has none with it
  pub joined-less : (n : ℕ) (c : Coefficients) (s t : Neighbours) (ss ts : List Neighbours) → IsReduced p c → Rises 0 n (t ∷ ts) → s.index < t.index
      → joined (t ∷ ts) c (s ∷ ss) ≡ joined (t ∷ ts) c ss
  joined-less n c s t ss ts h rise less =
      let none = pair_at-earlier t.index n s.index (t ∷ ts) (omega arith, rise.1, rise.2) less in
      ap (λ x. joined (t ∷ ts) (with_product p c s x) ss) none
      ∙ ap (λ d. joined (t ∷ ts) d ss) (no_product c s s.index h)

  -- the second list's pair comes first: no pair that is left is taken with it
  pub joined-more : (n : ℕ) (c : Coefficients) (s t : Neighbours) (ss ts : List Neighbours) → Rises 0 n (s ∷ ss) → t.index < s.index
      → joined (t ∷ ts) c (s ∷ ss) ≡ joined ts c (s ∷ ss)
  joined-more n c s t ss ts rise less =
      summed-agree (λ x. pair_at (t ∷ ts) x.index) (λ x. pair_at ts x.index) s.index n c (s ∷ ss) (omega arith, rise.1, rise.2)
      (λ x le. pair_at-later t ts x.index (λ e. absurd (omega (arith, e, le, less))))

  -- both have a pair
  pub joined-same : (n : ℕ) (c : Coefficients) (s t : Neighbours) (ss ts : List Neighbours) → Rises 0 n (s ∷ ss) → t.index ≡ s.index
      → joined (t ∷ ts) c (s ∷ ss) ≡ joined ts (with_product p c s t) ss
  joined-same n c s t ss ts rise same =
      ap (λ x. joined (t ∷ ts) (with_product p c s x) ss) (pair_at-here t ts s.index same)
      ∙ summed-agree (λ x. pair_at (t ∷ ts) x.index) (λ x. pair_at ts x.index) (suc s.index) n (with_product p c s t) ss rise.2
      (λ x le. pair_at-later t ts x.index (λ e. absurd (omega (arith, e, le, same))))

  -- the pairs that are left rise, and lead to `all`
  abbrev pub Leads : ℕ → Coefficients → Coefficients → List Neighbours → List Neighbours → Type 0
  Leads n all c ss ts = Rises 0 n ss × Rises 0 n ts × (joined ts c ss ≡ all)

  module _ (n : ℕ) (all c : Coefficients) (s t : Neighbours) (ss ts : List Neighbours) (leads : Leads n all c (s ∷ ss) (t ∷ ts)) where
    first_left : Rises 0 n ss
    first_left = rises-earlier 0 (suc s.index) n ss (omega arith) leads.0.2

    second_left : Rises 0 n ts
    second_left = rises-earlier 0 (suc t.index) n ts (omega arith) leads.1.2

    pub leads-less : IsReduced p c → s.index < t.index → Leads n all c ss (t ∷ ts)
    leads-less h less = (first_left, leads.1, sym (joined-less n c s t ss ts h leads.1 less) ∙ leads.2)

    pub leads-more : t.index < s.index → Leads n all c (s ∷ ss) ts
    leads-more less = (leads.0, second_left, sym (joined-more n c s t ss ts leads.0 less) ∙ leads.2)

    pub leads-same : (d : Coefficients) → d ≡ with_product p c s t → t.index ≡ s.index → Leads n all d ss ts
    leads-same d is same = (first_left, second_left, ap (λ x. joined ts x ss) is ∙ sym (joined-same n c s t ss ts leads.0 same) ∙ leads.2)

  pub leads-none : (n : ℕ) (all c : Coefficients) (ts : List Neighbours) → Leads n all c [] ts → c ≡ all
  leads-none n all c ts leads = leads.2

  pub leads-no_others : (n : ℕ) (all c : Coefficients) (ss : List Neighbours) → IsReduced p c → Leads n all c ss [] → c ≡ all
  leads-no_others n all c ss h leads = sym (summed-nothing c ss h) ∙ leads.2
