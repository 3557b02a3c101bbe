-- How the product of two lines is added to a polynomial, step by step.
use Rattle.std.proofs.Common.{◌≡◌, ℕ, ◌+◌, ◌-◌, ◌*◌, ◌%◌, ◌<◌, sym, ap, ◌∙◌, arith}
use Rattle.std.proofs.Math.Nat.{add-mod-mod, add-mod_right, mod-eq_of_lt}
use Rattle.sip_field.specs.Residue.{difference_mod}
use Rattle.sip_sums.specs.AcceptsSum.{Coefficients}
use Rattle.sip_sums.specs.Pairs.{neighbours, with_product}
use Rattle.sip_sums.proofs.PairSums.{made, made-same}

added_two : (p c a b : ℕ) → (c + (a % p + b % p) % p) % p ≡ (c + (a + b)) % p
added_two p c a b =
    add-mod-mod c (a % p + b % p) p
    ∙ ap (λ n. n % p) (let e : c + (a % p + b % p) ≡ c + a % p + b % p = omega arith in e)
    ∙ add-mod-mod (c + a % p) b p
    ∙ ap (λ n. n % p) (let e : c + a % p + b ≡ c + b + a % p = omega arith in e)
    ∙ add-mod-mod (c + b) a p
    ∙ ap (λ n. n % p) (let e : c + b + a ≡ c + (a + b) = omega arith in e)

module _ (p : ℕ) (c : Coefficients) (u w d : ℕ) (slope : d ≡ difference_mod p w u) (square s0 s2 : ℕ)
    (of_square : square ≡ (d * d) % p) (of_s2 : s2 ≡ (c.c2 + square) % p) where
  square_added : s2 ≡ (c.c2 + difference_mod p w u * difference_mod p w u) % p
  square_added = of_s2 ∙ ap (λ n. (c.c2 + n) % p) of_square ∙ add-mod-mod c.c2 (d * d) p ∙ ap (λ n. (c.c2 + n * n) % p) slope

  module _ (constant cross twice s1 : ℕ) (of_constant : constant ≡ (u * u) % p) (of_s0 : s0 ≡ (c.c0 + constant) % p)
      (of_cross : cross ≡ (u * d) % p) (of_twice : twice ≡ (cross + cross) % p) (of_s1 : s1 ≡ (c.c1 + twice) % p) where
    -- a pair with itself
    pub with_square-is : (k : ℕ) → made p s0 s1 s2 ≡ with_product p c (neighbours k u w) (neighbours k u w)
    with_square-is k =
        made-same p s0 s1 s2 _ _ _ (of_s0 ∙ ap (λ n. (c.c0 + n) % p) of_constant ∙ add-mod-mod c.c0 (u * u) p)
        (of_s1 ∙ ap (λ n. (c.c1 + n) % p) of_twice ∙ ap (λ n. (c.c1 + (n + n) % p) % p) of_cross ∙ added_two p c.c1 (u * d) (u * d)
        ∙ ap (λ n. (c.c1 + (u * n + u * n)) % p) slope)
        square_added

module _ (p : ℕ) (c : Coefficients) (u w x y d e : ℕ) (slope : d ≡ difference_mod p w u) (other_slope : e ≡ difference_mod p y x)
    (constant first second cross square s0 s1 s2 : ℕ)
    (of_constant : constant ≡ (u * x) % p) (of_s0 : s0 ≡ (c.c0 + constant) % p)
    (of_first : first ≡ (u * e) % p) (of_second : second ≡ (x * d) % p) (of_cross : cross ≡ (first + second) % p) (of_s1 : s1 ≡ (c.c1 + cross) % p)
    (of_square : square ≡ (d * e) % p) (of_s2 : s2 ≡ (c.c2 + square) % p) where
  linear_added : s1 ≡ (c.c1 + (u * difference_mod p y x + x * difference_mod p w u)) % p
  linear_added =
      of_s1 ∙ ap (λ n. (c.c1 + n) % p) of_cross
      ∙ ap (λ n. (c.c1 + (n + second) % p) % p) of_first
      ∙ ap (λ n. (c.c1 + ((u * e) % p + n) % p) % p) of_second
      ∙ added_two p c.c1 (u * e) (x * d)
      ∙ ap (λ n. (c.c1 + (u * n + x * d)) % p) other_slope
      ∙ ap (λ n. (c.c1 + (u * difference_mod p y x + x * n)) % p) slope

  squares_added : s2 ≡ (c.c2 + difference_mod p w u * difference_mod p y x) % p
  squares_added =
      of_s2 ∙ ap (λ n. (c.c2 + n) % p) of_square ∙ add-mod-mod c.c2 (d * e) p
      ∙ ap (λ n. (c.c2 + n * e) % p) slope ∙ ap (λ n. (c.c2 + difference_mod p w u * n) % p) other_slope

  -- a pair with another one
  pub with_product-is : (k j : ℕ) → made p s0 s1 s2 ≡ with_product p c (neighbours k u w) (neighbours j x y)
  with_product-is k j =
      made-same p s0 s1 s2 _ _ _ (of_s0 ∙ ap (λ n. (c.c0 + n) % p) of_constant ∙ add-mod-mod c.c0 (u * x) p) linear_added squares_added

module _ (p : ℕ) (c : Coefficients) (some : 0 < p) (reduced : c.c2 < p) where
  no_slope : difference_mod p 1 1 ≡ 0
  no_slope = ap (λ n. n % p) (let e : 1 + (p - 1) ≡ 0 + p = omega (arith, some) in e) ∙ add-mod_right 0 p ∙ mod-eq_of_lt some

  -- a pair with one that is 1 throughout
  pub with_line-is : (u w x y d s0 s1 k j : ℕ) → x ≡ 1 → y ≡ 1 → d ≡ difference_mod p w u → s0 ≡ (c.c0 + u) % p → s1 ≡ (c.c1 + d) % p
      → made p s0 s1 c.c2 ≡ with_product p c (neighbours k u w) (neighbours j x y)
  with_line-is u w x y d s0 s1 k j is_x is_y slope of_s0 of_s1 =
      rw (is_x, is_y, no_slope)
      (made-same p s0 s1 c.c2 _ _ _ (of_s0 ∙ ap (λ n. (c.c0 + n) % p) (let e : u ≡ u * 1 = omega arith in e))
      (of_s1 ∙ ap (λ n. (c.c1 + n) % p) (slope ∙ (let e : difference_mod p w u ≡ u * 0 + 1 * difference_mod p w u = omega arith in e)))
      (sym (ap (λ n. n % p) (let e : c.c2 + difference_mod p w u * 0 ≡ c.c2 = omega arith in e) ∙ mod-eq_of_lt reduced)))
