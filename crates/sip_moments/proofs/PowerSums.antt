-- Sums of powers over entries: that they are moments, and how large they are.
use Rattle.std.proofs.Common.{◌≡◌, ℕ, zero, suc, ◌+◌, ◌*◌, ◌^◌, ◌≤◌, FitsSigned, w64, to_z, of_z, List, [], ◌∷◌, sum_by, ℤ, pos, ◌+ℤ◌, nat_abs, refl, ap, ◌∙◌, arith}
use Rattle.std.specs.Int.{int_pow}
use Rattle.std.proofs.Math.Nat.{pow-zero, pow-succ', pow-le-pow_left, one-le-pow, mul-le-mul_left}
use Rattle.std.proofs.lemmas.Int.{fits_signed_from_abs, to_z-of_z}
use Rattle.std.proofs.lemmas.List.Sums.{sum_by-cons}
use Rattle.sip_vector.specs.declared.update.Entry.{Entry}
use Rattle.sip_vector.specs.Vectors.{nonzero}
use Rattle.sip_vector.specs.inside.Gathered.{abs_sum}
use Rattle.sip_vector.proofs.Sums.{nat_abs-add-le}
use Rattle.sip_wire.specs.Table.{most_claim}
use Rattle.sip_sums.proofs.ClaimSums.{kept, kept-light, sum-first}
use Rattle.sip_moments.specs.Moments.{moment}
use Rattle.sip_moments.specs.Powers.{powers_of}
use Rattle.sip_moments.proofs.IntPowers.{abs-power, power_of_nothing}

-- the sum of two powers is no larger than the power of the sum
pub powers_below : (k a b : ℕ) → 1 ≤ k → a ^ k + b ^ k ≤ (a + b) ^ k
powers_below zero a b some = absurd (omega arith)
powers_below (suc zero) a b some =
    let one : (n : ℕ) → n ^ 1 ≡ n = λ n. pow-succ' n 0 ∙ ap (λ m. n * m) (pow-zero n) ∙ (let e : n * 1 ≡ n = omega arith in e) in
    rw (one a, one b, one (a + b)) (omega arith)
powers_below (suc (suc k)) a b some =
    let rest = powers_below (suc k) a b (omega arith) in
    let more = mul-le-mul_left (a + b) rest in
    let apart : (u v : ℕ) → a * u + b * v ≤ (a + b) * (u + v) = λ u v. omega arith in
    rw (pow-succ' a (suc k), pow-succ' b (suc k), pow-succ' (a + b) (suc k)) (omega (arith, apart (a ^ suc k) (b ^ suc k), more))

-- ---- how large a moment is

pub moment-light : (k weight : ℕ) (numbers : List ℤ) → 1 ≤ k → sum_by nat_abs numbers ≤ weight → nat_abs (moment k numbers) ≤ weight ^ k
moment-light k weight numbers some light = omega (arith, by_numbers numbers, pow-le-pow_left light k)
  where
    by_numbers : (xs : List ℤ) → nat_abs (moment k xs) ≤ sum_by nat_abs xs ^ k
    by_numbers [] = omega arith
    by_numbers (x ∷ xs) =
        let whole = powers_below k (nat_abs x) (sum_by nat_abs xs) some in
        let first = sum_by-cons nat_abs x xs in
        rw first (omega (arith, whole, by_numbers xs, nat_abs-add-le (int_pow x k) (moment k xs), abs-power x k))

-- ---- the entries that are not 0

powers-moment : (k i : ℕ) (xs : List ℤ) → 1 ≤ k → powers_of k (kept i xs) ≡ moment k xs
powers-moment k i [] some = refl
powers-moment k i (x ∷ xs) some =
    sum-first (λ e. int_pow e.value k) (λ j. power_of_nothing k some) i x xs ∙ ap (λ z. int_pow x k +ℤ z) (powers-moment k (i + 1) xs some)

module _ (k : ℕ) (some : 1 ≤ k) (numbers : List ℤ) (es : List Entry) (is : es ≡ nonzero numbers) where
  pub entries-light : (weight : ℕ) → sum_by nat_abs numbers ≤ weight → weight ^ k ≤ most_claim → abs_sum es ^ k ≤ most_claim
  entries-light weight light fits =
      let less : abs_sum es ≤ weight = rw is (omega (arith, kept-light 0 numbers, light)) in
      omega (arith, pow-le-pow_left less k, fits)

  pub powers-are : (sum : ℤ) → sum ≡ powers_of k es → nat_abs sum ≤ most_claim → to_z w64 (of_z w64 sum) ≡ moment k numbers
  powers-are sum e fits =
      to_z-of_z w64 sum (fits_signed_from_abs w64 sum (omega (arith, fits))) ∙ e ∙ ap (powers_of k) is ∙ powers-moment k 0 numbers some

-- ---- from one entry to the next

-- the powers so far leave room for those that are to come
pub record HasRoom (k : ℕ) (sum : ℤ) (rest : List Entry) : Type 0 where
  pub weight : ℕ
  pub light : nat_abs sum ≤ weight ^ k
  pub room : (weight + abs_sum rest) ^ k ≤ most_claim

pub room-first : (k : ℕ) (es : List Entry) → abs_sum es ^ k ≤ most_claim → HasRoom k (pos 0) es
room-first k es light = record { weight = 0; light = omega arith; room = rw (let e : 0 + abs_sum es ≡ abs_sum es = omega arith in e) light }

pub room-light : (k : ℕ) (sum : ℤ) (rest : List Entry) → HasRoom k sum rest → nat_abs sum ≤ most_claim
room-light k sum rest h =
    let le : h.weight ≤ h.weight + abs_sum rest = omega arith in
    omega (arith, h.light, h.room, pow-le-pow_left le k)

pub room-fits : (k : ℕ) (sum : ℤ) (rest : List Entry) → HasRoom k sum rest → FitsSigned w64 sum
room-fits k sum rest h = fits_signed_from_abs w64 sum (omega (arith, room-light k sum rest h))

pub power-fits : (k : ℕ) (sum : ℤ) (e : Entry) (rest : List Entry) → HasRoom k sum (e ∷ rest) → FitsSigned w64 (int_pow e.value k)
power-fits k sum e rest h =
    let le : nat_abs e.value ≤ h.weight + (nat_abs e.value + abs_sum rest) = omega arith in
    fits_signed_from_abs w64 (int_pow e.value k) (omega (arith, h.room, pow-le-pow_left le k, abs-power e.value k))

pub room-next : (k : ℕ) (sum : ℤ) (e : Entry) (rest : List Entry) → 1 ≤ k → HasRoom k sum (e ∷ rest) → HasRoom k (sum +ℤ int_pow e.value k) rest
room-next k sum e rest some h = record {
  weight = h.weight + nat_abs e.value;
  light = omega (arith, h.light, powers_below k h.weight (nat_abs e.value) some, abs-power e.value k, nat_abs-add-le sum (int_pow e.value k));
  room = rw (let same : h.weight + nat_abs e.value + abs_sum rest ≡ h.weight + (nat_abs e.value + abs_sum rest) = omega arith in same) h.room;
}

-- a number is no larger than its powers
below_power : (k a : ℕ) → 1 ≤ k → a ≤ a ^ k
below_power zero a some = absurd (omega arith)
below_power (suc k) zero some = omega arith
below_power (suc k) (suc a) some =
    let most = mul-le-mul_left (suc a) (one-le-pow k (suc a) (omega arith)) in
    rw (pow-succ' (suc a) k) (omega (arith, most))

pub value-fits : (k : ℕ) (sum : ℤ) (e : Entry) (rest : List Entry) → 1 ≤ k → HasRoom k sum (e ∷ rest) → FitsSigned w64 e.value
value-fits k sum e rest some h =
    let le : nat_abs e.value ≤ h.weight + (nat_abs e.value + abs_sum rest) = omega arith in
    fits_signed_from_abs w64 e.value (omega (arith, h.room, pow-le-pow_left le k, below_power k (nat_abs e.value) some))
