-- The binomial theorem, and how large a binomial coefficient is.
use Rattle.std.proofs.Common.{◌≡◌, ℕ, zero, suc, ◌+◌, ◌*◌, ◌-◌, ◌/◌, ◌^◌, ◌<◌, ◌≤◌, refl, ap, sym, ◌∙◌, arith}
use Rattle.std.proofs.Math.Nat.{mul-div_cancel, pow-zero, pow-succ', pow-le-pow_right}
use Rattle.sip_counts.specs.Counts.{sum_below}
use Rattle.sip_counts.proofs.Sums.{sum_below-add, sum_below-times}
use Rattle.sip_counts.proofs.Sums.{sum_below-front, sum_below-within}
use Rattle.sip_moments.specs.Honest.{binomial}

-- a set that has more members than there are to choose from
binomial-above : (n m : ℕ) → n < m → binomial n m ≡ 0
binomial-above n zero lt = absurd (omega arith)
binomial-above zero (suc m) lt = refl
binomial-above (suc n) (suc m) lt = omega (arith, binomial-above n m (omega arith), binomial-above n (suc m) (omega arith))

pub binomial-most : (n m : ℕ) → binomial n m ≤ 2 ^ n
binomial-most n zero = pow-le-pow_right {n = 2} (omega arith) {i = 0} {j = n} (omega arith)
binomial-most zero (suc m) = omega arith
binomial-most (suc n) (suc m) = omega (arith, binomial-most n m, binomial-most n (suc m), pow-succ' 2 n)

-- of the sets of one more than i members, each is one of i with one of the n - i others
pub binomial-next : (n i : ℕ) → suc i * binomial n (suc i) + i * binomial n i ≡ n * binomial n i
binomial-next zero zero = refl
binomial-next zero (suc i) = omega arith
binomial-next (suc n) zero = omega (arith, binomial-next n zero)
binomial-next (suc n) (suc i) = omega (arith, binomial-next n i, binomial-next n (suc i))

ratio : (n i others b c : ℕ) → n ≡ i + others → suc i * c + i * b ≡ n * b
    → b * others ≡ c * (i + 1)
ratio n i others b c split e = let f = e ∙ ap (λ m. m * b) split in omega (arith, f)

pub binomial-ratio : (n i : ℕ) → i ≤ n
    → binomial n i * (n - i) / (i + 1) ≡ binomial n (i + 1)
binomial-ratio n i le =
    let split : n ≡ i + (n - i) = omega (arith, le) in
    ap (λ m. m / (i + 1)) (ratio n i (n - i) _ _ split (binomial-next n i))
    ∙ mul-div_cancel (binomial n (suc i)) {n = i + 1} (omega arith)
    ∙ ap (binomial n) (let e : suc i ≡ i + 1 = omega arith in e)

-- ---- the theorem

-- a term of the power of u + y
abbrev pub power_term : ℕ → ℕ → ℕ → ℕ → ℕ
power_term k u y m = binomial k m * u ^ (k - m) * y ^ m

-- a power more of u, or of y
pub first_term : (k u y : ℕ) → power_term (suc k) u y 0 ≡ u * power_term k u y 0
first_term k u y =
    let whole : suc k - 0 ≡ suc k = omega arith in
    let rest : k - 0 ≡ k = omega arith in
    rw (whole, rest, pow-succ' u k, pow-zero y) (omega arith)

parts : (b c u y v w : ℕ) → (b + c) * v * (y * w) ≡ b * v * w * y + c * v * (y * w)
parts b c u y v w = omega arith

next_term : (k u y m : ℕ) → power_term (suc k) u y (suc m) ≡ power_term k u y m * y + binomial k (suc m) * u ^ (k - m) * y ^ suc m
next_term k u y m =
    let less : suc k - suc m ≡ k - m = omega arith in
    rw (less, pow-succ' y m) (parts (binomial k m) (binomial k (suc m)) u y (u ^ (k - m)) (y ^ m))

moved : (b u v w : ℕ) → b * (u * v) * w ≡ b * v * w * u
moved b u v w = omega arith

behind_term : (k u y m : ℕ) → m < k → binomial k (suc m) * u ^ (k - m) * y ^ suc m ≡ power_term k u y (suc m) * u
behind_term k u y m lt =
    let more : k - m ≡ suc (k - suc m) = omega arith in
    rw (more, pow-succ' u (k - suc m)) (moved (binomial k (suc m)) u (u ^ (k - suc m)) (y ^ suc m))

last_behind : (k u y : ℕ) → binomial k (suc k) * u ^ (k - k) * y ^ suc k ≡ 0
last_behind k u y = rw (binomial-above k (suc k) (omega arith)) (omega arith)

whole_step : (u y t r s p : ℕ) → s ≡ t + r → u * t + (s * y + r * u) ≡ s * y + u * s
whole_step u y t r s p e = rw e (omega arith)

distributed : (s u y p q : ℕ) → p ≡ s → q ≡ (u + y) * p → s * y + u * s ≡ q
distributed s u y p q e f = rw (f, e) (omega arith)

pub binomial-theorem : (k u y : ℕ) → sum_below (suc k) (power_term k u y) ≡ (u + y) ^ k
unfolding sum_below
binomial-theorem zero u y = rw (pow-zero u, pow-zero y, pow-zero (u + y)) (omega arith)
binomial-theorem (suc k) u y =
    let behind : ℕ → ℕ = λ m. binomial k (suc m) * u ^ (k - m) * y ^ suc m in
    let later : ℕ → ℕ = λ m. power_term k u y (suc m) in
    let all : ℕ = sum_below (suc k) (power_term k u y) in
    let front = sum_below-front (suc k) (power_term (suc k) u y) in
    let apart : sum_below (suc k) (λ m. power_term (suc k) u y (suc m)) ≡ all * y + sum_below (suc k) behind =
    sum_below-within (suc k) _ _ (λ m lt. next_term k u y m) ∙ sum_below-add (suc k) (λ m. power_term k u y m * y) behind
    ∙ ap (λ n. n + sum_below (suc k) behind) (sum_below-times (suc k) y (power_term k u y)) in
    let short : sum_below (suc k) behind ≡ sum_below k later * u =
    ap (λ n. sum_below k behind + n) (last_behind k u y)
    ∙ (let e : sum_below k behind + 0 ≡ sum_below k behind = omega arith in e)
    ∙ sum_below-within k _ _ (λ m lt. behind_term k u y m lt) ∙ sum_below-times k u later in
    let split : all ≡ power_term k u y 0 + sum_below k later = sum_below-front k (power_term k u y) in
    front ∙ ap (λ n. n + sum_below (suc k) (λ m. power_term (suc k) u y (suc m))) (first_term k u y)
    ∙ ap (λ n. u * power_term k u y 0 + n) (apart ∙ ap (λ n. all * y + n) short)
    ∙ whole_step u y (power_term k u y 0) (sum_below k later) all 0 split
    ∙ distributed all u y ((u + y) ^ k) ((u + y) ^ suc k) (sym (binomial-theorem k u y)) (pow-succ' (u + y) k)
