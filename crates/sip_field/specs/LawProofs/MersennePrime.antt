-- 2^61 - 1 is prime.
use Rattle.std.proofs.Common.{◌≡◌, ◌≢◌, ℕ, zero, suc, ◌+◌, ◌-◌, ◌*◌, ◌%◌, ◌/◌, ◌^◌, ◌<◌, ◌≤◌, inl}
use Rattle.std.proofs.Common.{inr, refl, sym, ◌∙◌, ap, subst, arith, lit<}
use Rattle.std.proofs.Math.Nat.{mod-add-div, mul-le-mul_left, mod-mod, mul-mod_right, pow-zero}
use Rattle.std.proofs.Math.Nat.{pow-suc}
use Rattle.std.proofs.lemmas.Bool.{cases_lt}
use Rattle.sip_field.specs.Moduli.{m61_modulus}
use Rattle.sip_field.specs.Prime.{IsPrime}
use Rattle.sip_field.specs.LawProofs.Congruence.{Same, mod_same, same_refl, same_trans, same_plus}
use Rattle.sip_field.specs.LawProofs.Congruence.{same_times}
use Rattle.sip_field.specs.LawProofs.Pairs.{times, power, Near, near_refl, power_add}
use Rattle.sip_field.specs.LawProofs.OrderOfTwoPlusRoot.{minus_one, many}

-- the square of a pair, modulo p
square : ℕ → ℕ × ℕ → ℕ × ℕ
square p a = ((a.0 * a.0 + 3 * (a.1 * a.1)) % p, (2 * (a.0 * a.1)) % p)

-- n squarings of 2 + √3, modulo p
pub squared : ℕ → ℕ → ℕ × ℕ
squared p zero = (2, 1)
squared p (suc n) = square p (squared p n)

-- squaring keeps pairs the same modulo p, whether the squares are reduced or not
near_square : (p : ℕ) (a b : ℕ × ℕ) → Near p a b → Near p (times a a) (square p b)
unfolding times square
near_square p a b h = record {
  whole = same_trans p _ _ _ (same_plus p _ _ _ _ (same_times p _ _ _ _ h.whole h.whole)
      (same_times p _ _ _ _ (same_refl p 3) (same_times p _ _ _ _ h.root h.root)))
      (mod_same p _ _ (sym (mod-mod _ p)));
  root = same_trans p _ _ _ (same_plus p _ _ _ _ (same_times p _ _ _ _ h.whole h.root)
      (same_times p _ _ _ _ h.root h.whole))
      (same_trans p _ (2 * (b.0 * b.1)) _ (record { left = 0; right = 0; is = omega arith })
      (mod_same p _ _ (sym (mod-mod _ p))));
}

-- n squarings give the power 2^n
near_squared : (p n : ℕ) → Near p (power (2 ^ n)) (squared p n)
unfolding squared power
near_squared p zero = rw (pow-zero 2) (near_refl p (2, 1))
near_squared p (suc n) =
    rw (let d : 2 ^ suc n ≡ 2 ^ n + 2 ^ n = omega (arith, pow-suc 2 n) in d, power_add)
    (near_square p _ _ (near_squared p n))

-- what is the same modulo q * r is the same modulo q
same_part : (p q r a b : ℕ) → p ≡ q * r → Same p a b → Same q a b
same_part p q r a b pr h = record {
  left = r * h.left;
  right = r * h.right;
  is = omega (arith, h.is, ap (λ n. n * h.left) pr, ap (λ n. n * h.right) pr);
}

-- p is odd and below 2^(e + 1), and e squarings of 2 + √3 modulo p give -1
module _ (p e : ℕ) (odd : p % 2 ≡ 1) (small : p < 2 ^ suc e)
    (last : squared p e ≡ minus_one p) where
  -- each of two factors above 1 has a square above p
  square_above : (q r : ℕ) → 1 < q → 1 < r → p ≡ q * r → p < q * q
  unfolding minus_one
  square_above q r one one_r pr =
      let at_p : Near p (power (2 ^ e)) (minus_one p) =
      subst (λ b. Near p (power (2 ^ e)) b) last (near_squared p e) in
      let at_q : Near q (power (2 ^ e)) (minus_one q) = record {
        whole = same_trans q _ (p - 1) _ (same_part p q r _ _ pr at_p.whole)
            record { left = 0; right = r - 1; is = reach };
        root = same_part p q r _ _ pr at_p.root;
      } in
      let m : 2 ^ suc e ≤ q * q = many q e two at_q in
      omega arith
    where
      not_two : q ≢ 2
      not_two t =
          let even : p % 2 ≡ 0 = ap (λ n. n % 2) (pr ∙ ap (λ n. n * r) t) ∙ mul-mod_right 2 r in
          omega arith

      reach : p - 1 + q * 0 ≡ q - 1 + q * (r - 1)
      reach =
          let k : q * (r - 1) + q ≡ q * r =
          (let s : (r - 1) + 1 ≡ r = omega arith in
          let t : q * ((r - 1) + 1) ≡ q * r = ap (λ n. q * n) s in omega arith) in
          omega arith

      two : 2 < q
      two = omega (arith, not_two)

  -- so p has no two such factors: the smaller one's square is at most p
  pub prime : 1 < p → IsPrime p
  prime above = record {
    above_one = above;
    no_divisor = λ q one less h. no_split q (p / q) one less (omega (arith, mod-add-div p q));
  }
    where
      no_split : (q r : ℕ) → 1 < q → q < p → p ≡ q * r → ⊥
      no_split q r one less pr =
          let not_none : r ≢ 0 = λ z. (let t : q * r ≡ q * 0 = ap (λ n. q * n) z in omega arith) in
          let not_one_more : r ≢ 1 =
          λ z. (let t : q * r ≡ q * 1 = ap (λ n. q * n) z in omega arith) in
          let one_r : 1 < r = omega arith in
          elim (cases_lt r q) [
            | inr le ↦ omega (arith, square_above q r one one_r pr, mul-le-mul_left q le)
            | inl lt ↦ omega (
              arith,
              square_above r q one_r one (let t : p ≡ r * q = omega arith in t),
              mul-le-mul_left r (let le : r ≤ q = omega arith in le),
            )
          ]

-- 2^61 - 1 is such a number: sixty squarings give -1, as computing them shows
pub m61_prime : IsPrime m61_modulus
unfolding squared square minus_one
m61_prime = prime m61_modulus 60 refl (lit< tt) refl (lit< tt)
