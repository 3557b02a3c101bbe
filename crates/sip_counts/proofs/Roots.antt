-- Over a prime modulus a polynomial that is not zero has no more roots than its degree.
use Rattle.std.proofs.Common.{◌≡◌, ◌≢◌, ℕ, zero, suc, ◌+◌, ◌*◌, ◌-◌, ◌^◌, ◌%◌, ◌<◌, ◌≤◌, Bool, true, eqb, List, [], ◌∷◌, length, get_or, refl, ap, arith, inl, inr, ◌⊎◌, add-one}
use Rattle.std.specs.List.{AllByRecursion}
use Rattle.std.specs.Int.{◌∣◌}
use Rattle.std.proofs.Math.Nat.{pow-zero, pow-succ', mod-eq_of_lt, dvd-mul_left_of_dvd, dvd-add_iff_left, dvd-add_iff_right, dvd_of_mod-eq-zero, mod-eq-zero_of_dvd, zero-mod, dvd-zero}
use Rattle.std.proofs.lemmas.Bool.{cases_eq, cases_lt, eqb-true, eq-eqb}
use Rattle.sip_field.specs.Prime.{IsPrime}
use Rattle.sip_field.specs.Polynomial.{powers_from, polynomial}
use Rattle.sip_field.specs.LawProofs.Euclid.{euclid}
use Rattle.sip_counts.specs.Counts.{count_below}
use Rattle.sip_counts.proofs.Sums.{count_below-none, count_below-or, count_below-one, search_below}

-- ---- values by Horner's rule

unfoldable pub value : List ℕ → ℕ → ℕ
value [] x = 0
value (c ∷ cs) x = c + x * value cs x

-- a power more in each term is a factor
powers_from-shift : (k x : ℕ) (cs : List ℕ) → powers_from (k + 1) x cs ≡ x * powers_from k x cs
powers_from-shift k x [] = omega arith
powers_from-shift k x (c ∷ cs) =
    let e : x ^ (k + 1) ≡ x * x ^ k = rw add-one (pow-succ' x k) in
    omega (arith, powers_from-shift (k + 1) x cs, ap (λ n. c * n) e)

pub polynomial-value : (x : ℕ) (cs : List ℕ) → polynomial x cs ≡ value cs x
unfolding value
polynomial-value x [] = refl
polynomial-value x (c ∷ cs) = omega (arith, powers_from-shift 0 x cs, ap (λ n. c * n) (pow-zero x), ap (λ n. x * n) (polynomial-value x cs))

-- ---- divisors

-- a part of a multiple is one where the other part is
other_left : (p m n : ℕ) → p ∣ m → p ∣ m + n → p ∣ n
other_left p m n h k = (dvd-add_iff_right p h).1 k

other_right : (p m n : ℕ) → p ∣ n → p ∣ m + n → p ∣ m
other_right p m n h k = (dvd-add_iff_left p h).1 k

-- a prime that divides a product, and not the first factor, divides the second
prime_divides : (p : ℕ) → IsPrime p → (a b : ℕ) → 0 < a → a < p → p ∣ a * b → p ∣ b
prime_divides p prime a b pos lt d = elim (euclid p prime a b (mod-eq-zero_of_dvd p d)) [
  | inl none ↦ absurd (let same : a % p ≡ a = mod-eq_of_lt lt in omega arith)
  | inr is ↦ dvd_of_mod-eq-zero p is
]

-- ---- division by x - a

-- the coefficients of what is left of c ∷ cs after a division by x - a, from cs
divided : ℕ → List ℕ → List ℕ
divided a [] = []
divided a (d ∷ ds) = value (d ∷ ds) a ∷ divided a ds

divided-length : (a : ℕ) (cs : List ℕ) → length (divided a cs) ≡ length cs
unfolding divided
divided-length a [] = refl
divided-length a (d ∷ ds) = ap suc (divided-length a ds)

division_step : (x a d u v g : ℕ) → x * u + a * g ≡ a * v + x * g → x * (d + x * u) + a * ((d + a * v) + x * g) ≡ a * (d + a * v) + x * ((d + a * v) + x * g)
division_step x a d u v g e = let f : x * (x * u + a * g) ≡ x * (a * v + x * g) = ap (λ k. x * k) e in omega arith

-- x times a polynomial f, and a * f a: (x - a) times what is left is between them
division : (x a : ℕ) (cs : List ℕ) → x * value cs x + a * value (divided a cs) x ≡ a * value cs a + x * value (divided a cs) x
unfolding divided value
division x a [] = omega arith
division x a (d ∷ ds) = division_step x a d (value ds x) (value ds a) (value (divided a ds) x) (division x a ds)

-- each coefficient is a multiple of p
abbrev Vanishes : ℕ → List ℕ → Type 0
Vanishes p cs = AllByRecursion (λ c. p ∣ c) cs

constant_vanishes : (p a c : ℕ) (cs : List ℕ) → p ∣ c + a * value cs a → p ∣ value cs a → p ∣ c
constant_vanishes p a c cs h k = other_right p c (a * value cs a) (dvd-mul_left_of_dvd p k a) h

-- where what is left after the division vanishes, and a is a root, all vanishes
vanishes_from_divided : (p a c : ℕ) (cs : List ℕ) → p ∣ value (c ∷ cs) a → Vanishes p (divided a cs) → Vanishes p (c ∷ cs)
unfolding divided value
vanishes_from_divided p a c [] h z = (constant_vanishes p a c [] h (dvd-zero p), tt)
vanishes_from_divided p a c (d ∷ ds) h z = (constant_vanishes p a c (d ∷ ds) h z.0, vanishes_from_divided p a d ds z.0 z.1)

-- ---- roots

apart : (x a k u v g c : ℕ) → a ≡ x + k → x * u + a * g ≡ a * v + x * g → k * g + (c + x * u) ≡ c + a * v
apart x a k u v g c s e = let f = rw s at e in rw s (omega arith)

-- a root x other than a is one of what is left
root_step : (p : ℕ) → IsPrime p → (x a u v g c : ℕ) → x < p → a < p → x ≢ a → x * u + a * g ≡ a * v + x * g → p ∣ c + x * u → p ∣ c + a * v → p ∣ g
root_step p h x a u v g c lt la ne e hx ha =
    elim (cases_lt x a) [
      | inl less ↦
          let f : (a - x) * g + (c + x * u) ≡ c + a * v = apart x a (a - x) u v g c (omega arith) e in
          prime_divides p h (a - x) g (omega arith) (omega arith) (other_right p ((a - x) * g) (c + x * u) hx (rw f ha))
      | inr more ↦
          let f : (x - a) * g + (c + a * v) ≡ c + x * u = apart a x (x - a) v u g c (omega arith) (omega arith) in
          prime_divides p h (x - a) g (omega arith) (omega arith) (other_right p ((x - a) * g) (c + a * v) ha (rw f hx))
    ]

is_root : ℕ → List ℕ → ℕ → Bool
is_root p cs x = eqb (value cs x % p) 0

root-divides : (p : ℕ) (cs : List ℕ) (x : ℕ) → is_root p cs x ≡ true → p ∣ value cs x
unfolding is_root
root-divides p cs x e = dvd_of_mod-eq-zero p (eqb-true (value cs x % p) 0 e)

divides-root : (p : ℕ) (cs : List ℕ) (x : ℕ) → p ∣ value cs x → is_root p cs x ≡ true
unfolding is_root
divides-root p cs x h = eq-eqb (value cs x % p) 0 (mod-eq-zero_of_dvd p h)

-- with a root a, each root is a or one of what is left
one_more : (p : ℕ) → IsPrime p → (a c d : ℕ) (ds : List ℕ) → a < p → p ∣ value (c ∷ d ∷ ds) a → (x : ℕ) → x < p → is_root p (c ∷ d ∷ ds) x ≡ true → (eqb x a ≡ true) ⊎ (is_root p (divided a (d ∷ ds)) x ≡ true)
unfolding value
one_more p h a c d ds la ha x lx e =
    elim (cases_eq x a) [
      | inl same ↦ inl (eq-eqb x a same)
      | inr ne ↦
          inr (divides-root p (divided a (d ∷ ds)) x
          (root_step p h x a (value (d ∷ ds) x) (value (d ∷ ds) a) (value (divided a (d ∷ ds)) x) c lx la ne (division x a (d ∷ ds)) (root-divides p (c ∷ d ∷ ds) x e) ha))
    ]

roots : (p : ℕ) → IsPrime p → (k c : ℕ) (cs : List ℕ) → length cs ≤ k → (Vanishes p (c ∷ cs) → ⊥) → count_below p (is_root p (c ∷ cs)) ≤ k
unfolding divided
roots p h k c [] le nz =
    elim (search_below p (is_root p (c ∷ []))) [
      | inr none ↦ omega (arith, count_below-none p (is_root p (c ∷ [])) none)
      | inl w ↦ absurd (nz (vanishes_from_divided p w.0 c [] (root-divides p (c ∷ []) w.0 w.2) tt))
    ]
roots p h zero c (d ∷ ds) le nz = absurd (omega arith)
roots p h (suc k) c (d ∷ ds) le nz =
    elim (search_below p (is_root p (c ∷ d ∷ ds))) [
      | inr none ↦ omega (arith, count_below-none p (is_root p (c ∷ d ∷ ds)) none)
      | inl w ↦
          let ha = root-divides p (c ∷ d ∷ ds) w.0 w.2 in
          let ih = roots p h k (value (d ∷ ds) w.0) (divided w.0 ds) (omega (arith, divided-length w.0 ds)) (λ z. nz (vanishes_from_divided p w.0 c (d ∷ ds) ha z)) in
          let both = count_below-or p (is_root p (c ∷ d ∷ ds)) (λ x. eqb x w.0) (is_root p (divided w.0 (d ∷ ds))) (one_more p h w.0 c d ds w.1 ha) in
          omega (arith, count_below-one p w.0)
    ]

coefficient-vanishes : (p : ℕ) (cs : List ℕ) (i : ℕ) → Vanishes p cs → p ∣ get_or cs i 0
coefficient-vanishes p [] i z = dvd-zero p
coefficient-vanishes p (c ∷ cs) zero z = z.0
coefficient-vanishes p (c ∷ cs) (suc i) z = coefficient-vanishes p cs i z.1

pub few_roots : (p k : ℕ) (cs : List ℕ) (i : ℕ) → IsPrime p → length cs ≤ k + 1 → get_or cs i 0 % p ≢ 0 → count_below p (λ x. eqb (value cs x % p) 0) ≤ k
unfolding is_root
few_roots p k [] i h le nz = absurd (nz (zero-mod p))
few_roots p k (c ∷ cs) i h le nz = roots p h k c cs (omega arith) (λ z. nz (mod-eq-zero_of_dvd p (coefficient-vanishes p (c ∷ cs) i z)))
