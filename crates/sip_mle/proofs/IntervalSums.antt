-- The extension of an interval, entry by entry.
use Rattle.std.proofs.Common.{◌≡◌, ℕ, zero, suc, ◌+◌, ◌-◌, ◌*◌, ◌%◌, ◌^◌, ◌<◌, ◌≤◌, List, cond, true, false, map, refl, sym, ◌∙◌, ap, arith, pos}
use Rattle.std.proofs.Math.Nat.{zero-mod}
use Rattle.std.proofs.lemmas.Nat.{mul-mod_first}
use Rattle.std.proofs.lemmas.Bool.Decides.{nat_tests}
use Rattle.std.proofs.lemmas.List.Sums.{sum_by-cons}
use Rattle.std.specs.List.{range_with_len, sum_by}
use Rattle.sip_field.specs.Residue.{residue}
use Rattle.sip_vector.specs.Answers.{is_within}
use Rattle.sip_vector.specs.Extensions.{chi, ext, ones}
use Rattle.sip_vector.proofs.TreeResidues.{mod_plus}
use Rattle.sip_mle.proofs.Weighing.{weigh, ext_is}

module _ (p lo hi : ℕ) (challenges : List ℕ) where
  -- the entries from a on, of which there are n, and the factors of n items
  listed : ℕ → ℕ → ℕ
  listed a n = weigh p challenges a (map (residue p) (map (λ i. cond (is_within lo hi i) (pos 1) (pos 0)) (range_with_len a n)))

  factors : ℕ → ℕ → ℕ
  factors a n = sum_by (λ i. chi p i challenges) (range_with_len a n)

  inside : (a : ℕ) → lo ≤ a → a ≤ hi → (residue p (cond (is_within lo hi a) (pos 1) (pos 0)) * chi p a challenges) % p ≡ chi p a challenges % p
  inside a from until =
      let at : is_within lo hi a ≡ true = grind (arith, nat_tests) in
      ap (λ b. (residue p (cond b (pos 1) (pos 0)) * chi p a challenges) % p) at ∙ mul-mod_first 1 (chi p a challenges) p
      ∙ ap (λ x. x % p) (let same : 1 * chi p a challenges ≡ chi p a challenges = omega arith in same)

  nothing : (a : ℕ) → is_within lo hi a ≡ false → residue p (cond (is_within lo hi a) (pos 1) (pos 0)) * chi p a challenges ≡ 0
  nothing a at =
      ap (λ b. residue p (cond b (pos 1) (pos 0)) * chi p a challenges) at ∙ ap (λ x. x * chi p a challenges) (zero-mod p)
      ∙ (let none : 0 * chi p a challenges ≡ 0 = omega arith in none)

  behind : (n a : ℕ) → hi < a → listed a n ≡ 0
  unfolding listed
  behind zero a past = refl
  behind (suc n) a past =
      let out : is_within lo hi a ≡ false = grind (arith, nat_tests) in
      omega (arith, nothing a out, behind n (a + 1) (omega arith))

  within : (n a m : ℕ) → lo ≤ a → a + m ≡ hi + 1 → m ≤ n → listed a n % p ≡ factors a m % p
  unfolding listed factors
  within n a zero from end long = ap (λ x. x % p) (behind n a (omega arith))
  within zero a (suc m) from end long = absurd (omega arith)
  within (suc n) a (suc m) from end long =
      mod_plus p _ (chi p a challenges) _ (factors (a + 1) m) (inside a from (omega arith)) (within n (a + 1) m (omega arith) (omega arith) (omega arith))
      ∙ ap (λ x. x % p) (sym (sum_by-cons (λ i. chi p i challenges) a (range_with_len (a + 1) m)))

  before : (k n a : ℕ) → a + k ≡ lo → lo ≤ hi → hi < a + n → listed a n % p ≡ factors lo (hi + 1 - lo) % p
  unfolding listed factors
  before zero n a at order long =
      let here : a ≡ lo = omega arith in
      rw here (within n lo (hi + 1 - lo) (omega arith) (omega arith) (omega arith))
  before (suc k) zero a at order long = absurd (omega arith)
  before (suc k) (suc n) a at order long =
      let out : is_within lo hi a ≡ false = grind (arith, nat_tests) in
      let skipped : listed a (suc n) ≡ listed (a + 1) n = omega (arith, nothing a out) in
      ap (λ x. x % p) skipped ∙ before k n (a + 1) (omega arith) order (omega arith)

-- the extension of an interval is the sum of the factors of its items
pub interval_is_sum : (p depth lo hi : ℕ) (challenges : List ℕ) → lo ≤ hi → hi < 2 ^ depth →
    ext p (ones depth lo hi) challenges ≡ sum_by (λ i. chi p i challenges) (range_with_len lo (hi + 1 - lo)) % p
unfolding listed factors
interval_is_sum p depth lo hi challenges order within_depth =
    ext_is p (ones depth lo hi) challenges ∙ before p lo hi challenges lo (2 ^ depth) 0 (omega arith) order (omega arith)
