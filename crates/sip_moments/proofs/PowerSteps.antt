-- One step of a power, and of the sum of a polynomial's ends; and that binomial coefficients are
-- small.
use Rattle.std.proofs.Common.{◌≡◌, ℕ, ◌+◌, ◌*◌, ◌%◌, ◌^◌, ◌<◌, ◌≤◌, List, [], ◌∷◌, length, get_or, drop, map, sum, ap, sym, ◌∙◌, add-one, arith}
use Rattle.std.proofs.Math.Nat.{mod-add-mod, mod-eq_of_lt, pow-zero, pow-suc, pow-le-pow_right}
use Rattle.std.proofs.lemmas.Nat.{mul-mod, mul-mod_first, pow-add}
use Rattle.std.proofs.lemmas.List.{drop_more}
use Rattle.std.proofs.lemmas.List.Sums.{sum_by-cons}
use Rattle.sip_counts.specs.Rounds.{sum_of_ends}
use Rattle.sip_wire.specs.Table.{most_degree}
use Rattle.sip_moments.specs.Honest.{binomial}
use Rattle.sip_moments.proofs.Binomials.{binomial-most}

-- ---- powers

pub first-power : (p x : ℕ) → x < p → x ≡ (x ^ 1) % p
first-power p x below =
    sym (ap (λ n. n % p) (pow-suc x 0 ∙ ap (λ n. n * x) (pow-zero x) ∙ (let e : 1 * x ≡ x = omega arith in e)) ∙ mod-eq_of_lt below)

pub power-next : (p x i v w : ℕ) → v ≡ (x ^ i) % p → w ≡ (v * x) % p → w ≡ (x ^ (i + 1)) % p
power-next p x i v w e f =
    f ∙ ap (λ n. (n * x) % p) e ∙ mul-mod_first (x ^ i) x p ∙ ap (λ n. n % p) (sym (pow-suc x i) ∙ ap (λ n. x ^ n) (sym (add-one i)))

pub power-double : (p x i v w : ℕ) → v ≡ (x ^ i) % p → w ≡ (v * v) % p → w ≡ (x ^ (i + i)) % p
power-double p x i v w e f =
    f ∙ ap (λ n. (n * n) % p) e ∙ sym (mul-mod (x ^ i) (x ^ i) p)
    ∙ ap (λ n. n % p) (sym (pow-add x i i))

-- ---- the sum of the values at 0 and 1

module _ {F : Type 0} (number : F → ℕ) (p : ℕ) where
  pub ends-first : (xs : List F) (x : F) → 0 < length xs → x ≡ get_or xs 0 x → (number x + sum (map number xs)) % p ≡ sum_of_ends p (map number xs)
  ends-first [] x some is = absurd (omega arith)
  ends-first (y ∷ ys) x some is =
      ap (λ z. (number z + sum (map number (y ∷ ys))) % p) is
      ∙ ap (λ n. n % p) (let e : number y + sum (map number (y ∷ ys)) ≡ 2 * number y + sum (map number ys) = omega (arith, sum_by-cons (λ n. n) (number y) (map number ys)) in e)

  pub ends-next : (x : F) (xs : List F) (sum_so_far next all : ℕ) → (sum_so_far + sum (map number (x ∷ xs))) % p ≡ all → next ≡ (sum_so_far + number x) % p
      → (next + sum (map number xs)) % p ≡ all
  ends-next x xs so_far next all e f =
      ap (λ n. (n + sum (map number xs)) % p) f ∙ mod-add-mod (so_far + number x) p (sum (map number xs))
      ∙ ap (λ n. n % p) (let g : so_far + number x + sum (map number xs) ≡ so_far + sum (map number (x ∷ xs)) = omega (arith, sum_by-cons (λ n. n) (number x) (map number xs)) in g) ∙ e

  pub ends-step : (xs : List F) (i : ℕ) (x : F) (so_far next all : ℕ) → i < length xs → x ≡ get_or xs i x → (so_far + sum (map number (drop i xs))) % p ≡ all → next ≡ (so_far + number x) % p
      → (next + sum (map number (drop (i + 1) xs))) % p ≡ all
  ends-step xs i x so_far next all lt is e f =
      let more : drop i xs ≡ x ∷ drop (i + 1) xs = drop_more xs i x lt ∙ ap (λ y. y ∷ drop (i + 1) xs) (sym is) in
      ends-next x (drop (i + 1) xs) so_far next all (ap (λ l. (so_far + sum (map number l)) % p) (sym more) ∙ e) f

  pub ends-last : (xs : List F) (so_far all : ℕ) → xs ≡ [] → so_far < p → (so_far + sum (map number xs)) % p ≡ all → so_far ≡ all
  ends-last xs so_far all none below e =
      sym (mod-eq_of_lt below) ∙ ap (λ n. n % p) (let f : so_far ≡ so_far + sum (map number []) = omega arith in f)
      ∙ ap (λ l. (so_far + sum (map number l)) % p) (sym none) ∙ e

-- ---- binomial coefficients

pub binomial-small : (n m : ℕ) → n ≤ most_degree → binomial n m ≤ 256
binomial-small n m few =
    let top = pow-le-pow_right {n = 2} (omega arith) {i = n} {j = 8} few in
    omega (arith, binomial-most n m, top)
