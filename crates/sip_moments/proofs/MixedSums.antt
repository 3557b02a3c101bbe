-- The sums of products of powers over pairs, and their differences.
use Rattle.std.proofs.Common.{◌≡◌, ℕ, zero, suc, ◌+◌, ◌*◌, ◌-◌, ◌/◌, ◌%◌, ◌^◌, ◌<◌, ◌≤◌, List, [], ◌∷◌, length, get_or, sum_by, All, refl, ap, sym, ◌∙◌, inl, inr, add-one, arith}
use Rattle.std.proofs.Math.Nat.{mod-lt, mod-eq_of_lt, mod-add-mod, add-mod-mod, add-mod_right, pow-zero, pow-succ'}
use Rattle.std.proofs.lemmas.Bool.{cases_lt}
use Rattle.std.proofs.lemmas.Bool.Decides.{eqb_tells}
use Rattle.std.proofs.lemmas.Nat.{mul-mod_first, mul-mod_second}
use Rattle.std.proofs.lemmas.List.Sums.{sum_by-cons}
use Rattle.std.proofs.lemmas.List.Elements.{All-head, All-tail, All-cons, All-nil}
use Rattle.sip_field.specs.Residue.{difference_mod}
use Rattle.sip_vector.proofs.TreeResidues.{mod_plus, mod_cancel}
use Rattle.sip_sums.specs.Honest.{over_pairs}
use Rattle.sip_sums.specs.Pairs.{Neighbours, neighbours, alone, paired}
use Rattle.sip_sums.proofs.ListPairs.{pairs_from}
use Rattle.sip_sums.proofs.PairSums.{no_difference, over, over-squares}
use Rattle.sip_sums.proofs.ResidueProducts.{mod_twice, mod_times}
use Rattle.sip_sums.proofs.RoundSums.{other_end}
use Rattle.sip_moments.specs.Honest.{binomial, of_first, term}
use Rattle.sip_moments.specs.Powers.{mixed, AreDifferences}
use Rattle.sip_moments.proofs.Places.{at, read}

-- ---- one pair

pub counted : (p s x y a b t v : ℕ) → a ≡ x % p → b ≡ y % p → t ≡ (a * b) % p → v ≡ (s + t) % p → v ≡ (s + x * y) % p
counted p s x y a b t v is_a is_b is_t is_v =
    is_v ∙ ap (λ n. (s + n) % p) (is_t ∙ ap (λ n. (n * b) % p) is_a ∙ ap (λ n. ((x % p) * n) % p) is_b ∙ mul-mod_first x (y % p) p ∙ mul-mod_second x y p)
    ∙ add-mod-mod s (x * y) p

pub mixed-first : (k : ℕ) (s : Neighbours) → mixed k 0 s ≡ s.left ^ k
mixed-first k s =
    let whole : k - 0 ≡ k = omega arith in
    rw (whole, pow-zero s.right) (omega arith)

pub mixed-last : (k : ℕ) (s : Neighbours) → mixed k k s ≡ s.right ^ k
mixed-last k s =
    let none : k - k ≡ 0 = omega arith in
    rw (none, pow-zero s.left) (omega arith)

-- what is added at the place 0
pub first-counted : (p k s a v : ℕ) (pair : Neighbours) → a ≡ (pair.left ^ k) % p → v ≡ (s + a) % p → v ≡ (s + mixed k 0 pair) % p
first-counted p k s a v pair is_a is_v =
    is_v ∙ ap (λ n. (s + n) % p) is_a ∙ add-mod-mod s (pair.left ^ k) p ∙ ap (λ n. (s + n) % p) (sym (mixed-first k pair))

-- so is the first number of a slice
pub first-added : {F : Type 0} (number : F → ℕ) (p k : ℕ) (sums : List F) (pair : Neighbours) (was power v : F) → 0 < length sums → was ≡ get_or sums 0 was
    → number power ≡ (pair.left ^ k) % p → number v ≡ (number was + number power) % p → number v ≡ (at number sums 0 + mixed k 0 pair) % p
first-added number p k sums pair was power v within is of_left plus =
    first-counted p k (at number sums 0) (number power) (number v) pair of_left (plus ∙ ap (λ n. (n + number power) % p) (read number sums 0 was within is))

no_power : (a k : ℕ) → 1 ≤ k → a ≡ 0 → a ^ k ≡ 0
no_power a zero some e = absurd (omega arith)
no_power a (suc k) some e = rw (pow-succ' a k, e) (omega arith)

-- an entry that is 0
pub no_right : (k j : ℕ) (s : Neighbours) → 1 ≤ j → s.right ≡ 0 → mixed k j s ≡ 0
no_right k j s some e = rw (no_power s.right j some e) (omega arith)

pub no_left : (k j : ℕ) (s : Neighbours) → j < k → s.left ≡ 0 → mixed k j s ≡ 0
no_left k j s some e = rw (no_power s.left (k - j) (omega (arith, some)) e) (omega arith)

pub unchanged : (p s m : ℕ) → s < p → m ≡ 0 → s ≡ (s + m) % p
unchanged p s m less e = sym (ap (λ n. (s + n) % p) e ∙ ap (λ n. n % p) (let f : s + 0 ≡ s = omega arith in f) ∙ mod-eq_of_lt less)

-- ---- from one pair to the next

pub sums-next : (p x y all : ℕ) (f : Neighbours → ℕ) (s : Neighbours) (ss : List Neighbours) → (x + sum_by f (s ∷ ss)) % p ≡ all → y ≡ (x + f s) % p → (y + sum_by f ss) % p ≡ all
sums-next p x y all f s ss e is =
    ap (λ n. (n + sum_by f ss) % p) is ∙ mod-add-mod (x + f s) p (sum_by f ss)
    ∙ ap (λ n. n % p) (let g : x + f s + sum_by f ss ≡ x + sum_by f (s ∷ ss) = omega (arith, sum_by-cons f s ss) in g) ∙ e

pub sums-last : (p x all : ℕ) (f : Neighbours → ℕ) (ss : List Neighbours) → ss ≡ [] → x < p → (x + sum_by f ss) % p ≡ all → x ≡ all
sums-last p x all f ss none less e =
    unchanged p x (sum_by f ss) less (ap (sum_by f) none) ∙ e

-- ---- differences

pub difference_is : (p a b c : ℕ) → 0 < p → (c + b) % p ≡ a % p → difference_mod p (a % p) (b % p) ≡ c % p
difference_is p a b c some e =
    let least : b % p < p = mod-lt b some in
    let whole : a % p + (p - b % p) + b % p ≡ a % p + p = omega (arith, least) in
    mod_cancel p (a % p + (p - b % p)) c b some
    (mod_plus p (a % p + (p - b % p)) _ b (b % p) refl (sym (mod_twice p b)) ∙ ap (λ n. n % p) whole ∙ add-mod_right (a % p) p ∙ mod_twice p a ∙ sym e)

-- a number of the next row of a table
pub row_next : (p n row j x y v : ℕ) (t : ℕ → ℕ → ℕ) → 0 < p → AreDifferences p n t → 1 ≤ row → row ≤ j → j < n
    → x ≡ t (row - 1) j % p → y ≡ t (row - 1) (j - 1) % p → v ≡ difference_mod p x y → v ≡ t row j % p
row_next p n zero j x y v t some steps first le lt is_x is_y is_v = absurd (omega arith)
row_next p n (suc i) zero x y v t some steps first le lt is_x is_y is_v = absurd (omega (arith, le))
row_next p n (suc i) (suc m) x y v t some steps first le lt is_x is_y is_v =
    let row : suc i - 1 ≡ i = omega arith in
    let place : suc m - 1 ≡ m = omega arith in
    let step : (t (suc i) (suc m) + t i m) % p ≡ t i (suc m) % p = rw (add-one i, add-one m) at (steps i m (omega (arith, le)) (omega (arith, lt))) in
    is_v ∙ ap (λ q. difference_mod p q y) (is_x ∙ ap (λ q. t q (suc m) % p) row)
    ∙ ap (difference_mod p (t i (suc m) % p)) (is_y ∙ ap (λ q. t q (suc m - 1) % p) row ∙ ap (λ q. t i q % p) place)
    ∙ difference_is p (t i (suc m)) (t i m) (t (suc i) (suc m)) some step

-- the first rows of a table have their last differences, and behind them stands the row before
abbrev pub AreRows : ℕ → ℕ → ℕ → (ℕ → ℕ → ℕ) → (ℕ → ℕ) → Type 0
AreRows p n row t f =
    ((j : ℕ) → j < row → j < n → f j ≡ t j j % p) × ((j : ℕ) → row ≤ j → j < n → f j ≡ t (row - 1) j % p)

module _ (p n row : ℕ) (t : ℕ → ℕ → ℕ) (old new : ℕ → ℕ) (some : 0 < p) (first : 1 ≤ row) (steps : AreDifferences p n t) (rows : AreRows p n row t old)
    (kept : (j : ℕ) → j < row → new j ≡ old j) (made : (j : ℕ) → row ≤ j → j < n → new j ≡ difference_mod p (old j) (old (j - 1))) where
  -- the number before one of the row
  before : (j : ℕ) → row ≤ j → j < n → old (j - 1) ≡ t (row - 1) (j - 1) % p
  before j le lt = elim (cases_lt (j - 1) row) [
    | inl low ↦ rows.0 (j - 1) low (omega (arith, lt)) ∙ ap (λ q. t q (j - 1) % p) (let e : j - 1 ≡ row - 1 = omega (arith, low, le, first) in e)
    | inr high ↦ rows.1 (j - 1) high (omega (arith, lt))
  ]

  later : (j : ℕ) → row ≤ j → j < n → new j ≡ t row j % p
  later j le lt = row_next p n row j (old j) (old (j - 1)) (new j) t some steps first le lt (rows.1 j le lt) (before j le lt) (made j le lt)

  done : (j : ℕ) → j < row + 1 → j < n → new j ≡ t j j % p
  done j low lt = elim (cases_lt j row) [
    | inl less ↦ kept j less ∙ rows.0 j less lt
    | inr same ↦ later j same lt ∙ ap (λ q. t q j % p) (let e : row ≡ j = omega (arith, same, low) in e)
  ]

  pub rows_next : AreRows p n (row + 1) t new
  rows_next = (done, λ j above lt. later j (omega (arith, above)) lt ∙ ap (λ q. t q j % p) (let e : row ≡ row + 1 - 1 = omega arith in e))

-- i factors of the difference take the place of as many of the right entry
abbrev pub part : ℕ → ℕ → ℕ → ℕ → Neighbours → ℕ
part p k i j s = s.left ^ (k - j) * s.right ^ (j - i) * difference_mod p s.right s.left ^ i

abbrev pub table : ℕ → ℕ → List Neighbours → ℕ → ℕ → ℕ
table p k ss i j = sum_by (part p k i j) ss

split : (a b c d u : ℕ) → a * b * (d * c) + u * a * b * c ≡ a * b * c * (u + d)
split a b c d u = omega arith

joined : (a b c w : ℕ) → a * b * c * w ≡ a * (w * b) * c
joined a b c w = omega arith

part_step : (p k i j : ℕ) (s : Neighbours) → i ≤ j → j < k → s.left ≤ p → (part p k (i + 1) (j + 1) s + part p k i j s) % p ≡ part p k i (j + 1) s % p
part_step p k i j s le lt small =
    let a : ℕ = s.left ^ (k - (j + 1)) in
    let b : ℕ = s.right ^ (j - i) in
    let d : ℕ = difference_mod p s.right s.left in
    let c : ℕ = d ^ i in
    let one : i + 1 ≡ suc i = omega arith in
    let same : j + 1 - suc i ≡ j - i = omega arith in
    let more : k - j ≡ suc (k - (j + 1)) = omega arith in
    let longer : j + 1 - i ≡ suc (j - i) = omega arith in
    let first : part p k (i + 1) (j + 1) s ≡ a * b * (d * c) = rw (one, same, pow-succ' d i) refl in
    let second : part p k i j s ≡ s.left * a * b * c = rw (more, pow-succ' s.left (k - (j + 1))) refl in
    let third : part p k i (j + 1) s ≡ a * (s.right * b) * c = rw (longer, pow-succ' s.right (j - i)) refl in
    ap (λ n. (n + part p k i j s) % p) first ∙ ap (λ n. (a * b * (d * c) + n) % p) second
    ∙ ap (λ n. n % p) (split a b c d s.left)
    ∙ mod_times p (a * b * c) (a * b * c) (s.left + d) s.right refl (other_end p s.left s.right small)
    ∙ ap (λ n. n % p) (joined a b c s.right ∙ sym third)

rearranged : (a b c d : ℕ) → a + b + (c + d) ≡ a + c + (b + d)
rearranged a b c d = omega arith

table_step : (p k i j : ℕ) (ss : List Neighbours) → i ≤ j → j < k → All (λ (s : Neighbours). s.left ≤ p) ss
    → (table p k ss (i + 1) (j + 1) + table p k ss i j) % p ≡ table p k ss i (j + 1) % p
table_step p k i j [] le lt small = refl
table_step p k i j (s ∷ ss) le lt small =
    let P : Neighbours → Type 0 = λ (r : Neighbours). r.left ≤ p in
    ap (λ n. (n + table p k (s ∷ ss) i j) % p) (sum_by-cons (part p k (i + 1) (j + 1)) s ss)
    ∙ ap (λ n. (part p k (i + 1) (j + 1) s + table p k ss (i + 1) (j + 1) + n) % p) (sum_by-cons (part p k i j) s ss)
    ∙ ap (λ n. n % p) (rearranged (part p k (i + 1) (j + 1) s) (table p k ss (i + 1) (j + 1)) (part p k i j s) (table p k ss i j))
    ∙ mod_plus p _ _ _ _ (part_step p k i j s le lt (All-head P s ss small)) (table_step p k i j ss le lt (All-tail P s ss small))
    ∙ ap (λ n. n % p) (sym (sum_by-cons (part p k i (j + 1)) s ss))

pub differences : (p k : ℕ) (ss : List Neighbours) → All (λ (s : Neighbours). s.left ≤ p) ss → AreDifferences p (k + 1) (table p k ss)
differences p k ss small i j le lt = table_step p k i j ss le (omega (arith, lt)) small

-- the entries of pairs are those of the list
alone-small : (p : ℕ) (e : ℕ × ℕ) → e.1 < p → (alone e).left ≤ p
alone-small p e less = elim (eqb_tells (e.0 % 2) 0) [
  | inl t ↦ rw t.0 (omega (arith, less))
  | inr t ↦ rw t.0 (omega arith)
]

pub pairs-small : (p : ℕ) (es : List (ℕ × ℕ)) → All (λ (e : ℕ × ℕ). e.1 < p) es → All (λ (s : Neighbours). s.left ≤ p) (paired es)
pairs-small p [] less = All-nil (λ (s : Neighbours). s.left ≤ p)
pairs-small p (e ∷ []) less =
    All-cons (λ (s : Neighbours). s.left ≤ p) (alone e) [] (alone-small p e (All-head (λ (r : ℕ × ℕ). r.1 < p) e [] less)) (All-nil (λ (s : Neighbours). s.left ≤ p))
pairs-small p (e ∷ g ∷ es) less =
    let P : Neighbours → Type 0 = λ (s : Neighbours). s.left ≤ p in
    let Q : ℕ × ℕ → Type 0 = λ (r : ℕ × ℕ). r.1 < p in
    let first : e.1 < p = All-head Q e (g ∷ es) less in
    let others : All Q (g ∷ es) = All-tail Q e (g ∷ es) less in
    elim (eqb_tells (e.0 / 2) (g.0 / 2)) [
      | inl t ↦ rw t.0 (All-cons P (neighbours (e.0 / 2) e.1 g.1) (paired es) (omega (arith, first)) (pairs-small p es (All-tail Q g es others)))
      | inr t ↦ rw t.0 (All-cons P (alone e) (paired (g ∷ es)) (alone-small p e first) (pairs-small p (g ∷ es) others))
    ]

-- ---- the first row, and the last place of each

same_sum : (f g : Neighbours → ℕ) (ss : List Neighbours) → ((s : Neighbours) → f s ≡ g s) → sum_by f ss ≡ sum_by g ss
same_sum f g [] same = refl
same_sum f g (s ∷ ss) same =
    sum_by-cons f s ss ∙ ap (λ n. n + sum_by f ss) (same s) ∙ ap (λ n. g s + n) (same_sum f g ss same) ∙ sym (sum_by-cons g s ss)

pub first-row : (p k j : ℕ) (ss : List Neighbours) → table p k ss 0 j ≡ sum_by (mixed k j) ss
first-row p k j ss = same_sum (part p k 0 j) (mixed k j) ss by_pair
  where
    by_pair : (s : Neighbours) → part p k 0 j s ≡ mixed k j s
    by_pair s =
        let whole : j - 0 ≡ j = omega arith in
        rw (whole, pow-zero (difference_mod p s.right s.left)) (omega arith)

moved : (b a d : ℕ) → b * (a * 1 * d) ≡ b * a * d
moved b a d = omega arith

weighed : (p k m : ℕ) (ss : List Neighbours) → binomial k m * table p k ss m m ≡ over (λ (s : Neighbours). term p k m s.left s.right) ss
weighed p k m [] = omega arith
weighed p k m (s ∷ ss) =
    let none : m - m ≡ 0 = omega arith in
    let here : binomial k m * part p k m m s ≡ term p k m s.left s.right =
    rw (none, pow-zero s.right) (moved (binomial k m) (s.left ^ (k - m)) (difference_mod p s.right s.left ^ m)) in
    let apart : (b x y : ℕ) → b * (x + y) ≡ b * x + b * y = λ b x y. omega arith in
    ap (λ n. binomial k m * n) (sum_by-cons (part p k m m) s ss) ∙ apart (binomial k m) (part p k m m s) (table p k ss m m)
    ∙ ap (λ n. n + binomial k m * table p k ss m m) here ∙ ap (λ n. term p k m s.left s.right + n) (weighed p k m ss)

-- a pair of zeros has no terms
nothing : (p k m : ℕ) → 1 ≤ k → m ≤ k → (x y : ℕ) → of_first p k m 0 0 x y ≡ 0
nothing p k zero some le x y =
    let none : 0 ^ (k - 0) ≡ 0 = no_power 0 (k - 0) (omega (arith, some)) refl in
    let apart : (b v : ℕ) → b * 0 * v ≡ 0 = λ b v. omega arith in
    rw none (apart (binomial k 0) (difference_mod p 0 0 ^ 0))
nothing p k (suc m) some le x y =
    let none : difference_mod p 0 0 ^ suc m ≡ 0 = no_power (difference_mod p 0 0) (suc m) (omega arith) (no_difference p) in
    let apart : (b v : ℕ) → b * v * 0 ≡ 0 = λ b v. omega arith in
    rw none (apart (binomial k (suc m)) (0 ^ (k - suc m)))

pub coefficient-made : (p k m n w t : ℕ) (xs : List ℕ) → 1 ≤ k → m ≤ k → length xs ≡ 2 * n → t ≡ table p k (pairs_from 0 xs) m m % p → w ≡ (binomial k m * t) % p
    → w ≡ over_pairs (of_first p k m) xs xs % p
coefficient-made p k m n w t xs some le long is_t is_w =
    is_w ∙ ap (λ i. (binomial k m * i) % p) is_t ∙ mul-mod_second (binomial k m) (table p k (pairs_from 0 xs) m m) p
    ∙ ap (λ i. i % p) (weighed p k m (pairs_from 0 xs) ∙ over-squares (of_first p k m) (nothing p k m some le) 0 n xs long)

-- ---- the sums of the left entries' powers and of the right ones'

abbrev both : ℕ → ℕ → ℕ → ℕ → ℕ → ℕ
both k u w _ _ = u ^ k + w ^ k

whole-sum : (k n : ℕ) (xs : List ℕ) → length xs ≡ 2 * n → over_pairs (both k) xs xs ≡ sum_by (λ x. x ^ k) xs
whole-sum k n [] long = refl
whole-sum k n (u ∷ []) long = absurd (omega (arith, long))
whole-sum k zero (u ∷ w ∷ us) long = absurd (omega (arith, long))
whole-sum k (suc n) (u ∷ w ∷ us) long =
    omega (arith, sum_by-cons (λ x. x ^ k) u (w ∷ us), sum_by-cons (λ x. x ^ k) w us, whole-sum k n us (omega (arith, long)))

ends-sum : (k : ℕ) (ss : List Neighbours) → over (λ (s : Neighbours). s.left ^ k + s.right ^ k) ss ≡ sum_by (mixed k 0) ss + sum_by (mixed k k) ss
ends-sum k [] = refl
ends-sum k (s ∷ ss) =
    omega (arith, sum_by-cons (mixed k 0) s ss, sum_by-cons (mixed k k) s ss, mixed-first k s, mixed-last k s, ends-sum k ss)

pub ends-are : (k n : ℕ) (xs : List ℕ) → 1 ≤ k → length xs ≡ 2 * n
    → sum_by (λ x. x ^ k) xs ≡ sum_by (mixed k 0) (pairs_from 0 xs) + sum_by (mixed k k) (pairs_from 0 xs)
ends-are k n xs some long =
    let none : 0 ^ k ≡ 0 = no_power 0 k some refl in
    let no_pair : (x y : ℕ) → both k 0 0 x y ≡ 0 = λ x y. omega (arith, none) in
    sym (whole-sum k n xs long) ∙ sym (over-squares (both k) no_pair 0 n xs long) ∙ ends-sum k (pairs_from 0 xs)

-- what is expected less the first sum is the last
pub last-sum : (p k n e s v : ℕ) (xs : List ℕ) → 0 < p → 1 ≤ k → length xs ≡ 2 * n → e ≡ sum_by (λ x. x ^ k) xs % p → s ≡ sum_by (mixed k 0) (pairs_from 0 xs) % p
    → v ≡ difference_mod p e s → v ≡ sum_by (mixed k k) (pairs_from 0 xs) % p
last-sum p k n e s v xs positive some long is_e is_s is_v =
    let first : ℕ = sum_by (mixed k 0) (pairs_from 0 xs) in
    let last : ℕ = sum_by (mixed k k) (pairs_from 0 xs) in
    is_v ∙ ap (λ i. difference_mod p i s) (is_e ∙ ap (λ i. i % p) (ends-are k n xs some long)) ∙ ap (difference_mod p ((first + last) % p)) is_s
    ∙ difference_is p (first + last) first last positive (ap (λ i. i % p) (let swap : last + first ≡ first + last = omega arith in swap))
