-- A share of a total as a threshold.
use Rattle.std.proofs.Common.{◌≡◌, ℕ, zero, suc, ◌+◌, ◌-◌, ◌*◌, ◌/◌, ◌≤◌, true, false, leb, List, [], ◌∷◌, map, ℤ, pos, negsuc, ◌≤ℤ◌, ◌*ℤ◌, nat_abs, int_le, All, refl, sym, ◌∙◌, arith, inl, inr}
use Rattle.std.specs.Prelude.{filter, if◌then◌else◌}
use Rattle.std.specs.List.{AllByRecursion, enumerate_from}
use Rattle.std.proofs.Math.IntN.{negsuc-*ℤ-pos}
use Rattle.std.proofs.Math.Nat.{le-div_iff_mul-le}
use Rattle.std.proofs.lemmas.Bool.{cases_Bool, cases_lt, leb-true, leb-false, le-leb}
use Rattle.std.proofs.lemmas.List.Elements.{recursion_from_All}
use Rattle.sip_vector.specs.Answers.{entries, is_shared}
use Rattle.sip_vector.specs.Streams.{int_sum}
use Rattle.sip_heavy.specs.Honest.{heavy_of}
use Rattle.sip_heavy.proofs.FewFooledByBytes.{as_entry, positive_is, none_heavy}
use Rattle.sip_heavy.proofs.TrueLevels.{sum_positive}

-- m over den, rounded up
abbrev rounded : ℕ → ℕ → ℕ
rounded m den = (m + den - 1) / den

up_to_product : (m den k : ℕ) → 1 ≤ den → rounded m den ≤ k → m ≤ k * den
up_to_product m den k some le = elim (cases_lt (m + den - 1) ((k + 1) * den)) [
  | inl below ↦ omega (arith, below)
  | inr above ↦ absurd (let more : k + 1 ≤ rounded m den = (le-div_iff_mul-le some).1 above in omega (arith, more))
]

product_up_to : (m den k : ℕ) → 1 ≤ den → m ≤ k * den → rounded m den ≤ k
product_up_to m den k some le = elim (cases_lt k (rounded m den)) [
  | inr within ↦ within
  | inl above ↦ absurd (let more : suc k * den ≤ m + den - 1 = (le-div_iff_mul-le some).0 above in omega (arith, more))
]

same_test : (m den k : ℕ) → 1 ≤ den → leb m (k * den) ≡ leb (rounded m den) k
same_test m den k some = elim (cases_Bool (leb (rounded m den) k)) [
  | inl e ↦ le-leb m (k * den) (up_to_product m den k some (leb-true (rounded m den) k e)) ∙ sym e
  | inr e ↦ elim (cases_Bool (leb m (k * den))) [
    | inl f ↦ absurd (omega (arith, product_up_to m den k some (leb-true m (k * den) f), leb-false (rounded m den) k e))
    | inr f ↦ f ∙ sym e
  ]
]

-- a number below 0 has no share of a total, and no such product is as much
none_below : (m den k : ℕ) → 1 ≤ den → int_le (pos m) (negsuc k *ℤ pos den) ≡ false
none_below m zero k some = absurd (omega arith)
none_below m (suc den) k some = let above : suc k * suc den ≡ suc (den + k * suc den) = omega arith in rw (negsuc-*ℤ-pos k (suc den), above) refl

-- of a total above 0
some_shared : (num den n i : ℕ) (numbers : List ℤ) → 1 ≤ den
    → filter (is_shared num den (pos (suc n))) (map (λ x. as_entry x.0 x.1) (enumerate_from i numbers)) ≡ filter (λ e. int_le (pos (rounded (num * suc n) den)) e.value) (map (λ x. as_entry x.0 x.1) (enumerate_from i numbers))
some_shared num den n i [] some = refl
some_shared num den n i (negsuc k ∷ numbers) some =
    let above : leb 1 (suc n) ≡ true = le-leb 1 (suc n) (omega arith) in
    rw (above, none_below (num * suc n) den k some, some_shared num den n (i + 1) numbers some) refl
some_shared num den n i (pos k ∷ numbers) some =
    let here : leb (num * suc n) (k * den) ≡ leb (rounded (num * suc n) den) k = same_test (num * suc n) den k some in
    let above : leb 1 (suc n) ≡ true = le-leb 1 (suc n) (omega arith) in
    rw (above, here, some_shared num den n (i + 1) numbers some) refl

-- of none
none_shared : (num den i : ℕ) (numbers : List ℤ) → filter (is_shared num den (pos 0)) (map (λ x. as_entry x.0 x.1) (enumerate_from i numbers)) ≡ []
none_shared num den i [] = refl
none_shared num den i (a ∷ numbers) = none_shared num den (i + 1) numbers

-- of a total above 0 the entries that have a share are those of at least its count, whatever the others are
pub shares_above : (num den n : ℕ) (numbers : List ℤ) → 1 ≤ den → int_sum numbers ≡ pos (suc n)
    → filter (is_shared num den (int_sum numbers)) (entries numbers) ≡ heavy_of (if int_le (pos 1) (int_sum numbers) then (num * nat_abs (int_sum numbers) + den - 1) / den else 1) numbers
shares_above num den n numbers some is =
    let above : leb 1 (suc n) ≡ true = le-leb 1 (suc n) (omega arith) in
    rw (is, above) (some_shared num den n 0 numbers some)

pub shares_heavy : (num den : ℕ) (numbers : List ℤ) → 1 ≤ den → All (λ a. pos 0 ≤ℤ a) numbers
    → filter (is_shared num den (int_sum numbers)) (entries numbers) ≡ heavy_of (if int_le (pos 1) (int_sum numbers) then (num * nat_abs (int_sum numbers) + den - 1) / den else 1) numbers
shares_heavy num den numbers some strict =
    let each = recursion_from_All (λ a. pos 0 ≤ℤ a) numbers strict in
    let n = positive_is (int_sum numbers) (sum_positive numbers each) in
    by_total n.0 n.1 each
  where
    by_total : (n : ℕ) → int_sum numbers ≡ pos n → AllByRecursion (λ a. pos 0 ≤ℤ a) numbers
        → filter (is_shared num den (int_sum numbers)) (entries numbers) ≡ heavy_of (if int_le (pos 1) (int_sum numbers) then (num * nat_abs (int_sum numbers) + den - 1) / den else 1) numbers
    by_total zero is each = rw is (none_shared num den 0 numbers ∙ sym (none_heavy 1 0 numbers each 0 is (omega arith)))
    by_total (suc n) is each = shares_above num den n numbers some is
