-- No two of the powers of 2 + √3 below the 2^(e + 1)-th are the same modulo q, where the 2^e-th is
-- -1.
use Rattle.std.proofs.Common.{◌≡◌, ◌≢◌, ℕ, zero, suc, ◌+◌, ◌-◌, ◌*◌, ◌%◌, ◌/◌, ◌^◌, ◌<◌, ◌≤◌, ◌⊎◌}
use Rattle.std.proofs.Common.{inl, inr, refl, sym, ◌∙◌, ap, subst, arith}
use Rattle.std.proofs.Math.Nat.{mod-lt, mul-le-mul_left, mod-eq_of_lt, pow-zero, pow-suc}
use Rattle.std.proofs.lemmas.Nat.{pow-add}
use Rattle.std.proofs.lemmas.Bool.{cases_eq}
use Rattle.std.proofs.Math.Arith.{digits_mod, digits_div}
use Rattle.sip_field.specs.LawProofs.Congruence.{same_mod, mod_same}
use Rattle.sip_field.specs.LawProofs.Pairs.{times, power, Near, near_sym, near_trans, near_times}
use Rattle.sip_field.specs.LawProofs.Pairs.{power_add, power_down, power_of_one}
use Rattle.sip_field.specs.LawProofs.Pigeon.{pigeon}

-- a number is twice another, or one more
parity : (k : ℕ) → ((h : ℕ) × (k ≡ 2 * h)) ⊎ ((h : ℕ) × (k ≡ 1 + 2 * h))
parity k = elim (cases_eq (k % 2) 0) [
  | inl even ↦ inl (k / 2, omega arith)
  | inr odd ↦ inr (k / 2, omega arith)
]

-- -1 modulo q
unfoldable pub minus_one : ℕ → ℕ × ℕ
minus_one q = (q - 1, 0)

-- the square of -1 is 1
minus_squared : (q : ℕ) → 2 < q → Near q (times (minus_one q) (minus_one q)) (power 0)
unfolding times power minus_one
minus_squared q big = record {
  whole = record {
    left = 0;
    right = q - 2;
    is = (let r : q ≡ (q - 2) + 2 = omega arith in
        let t : q - 1 ≡ (q - 2) + 1 = omega arith in
        omega (arith, ap (λ n. n * n) t, ap (λ n. n * (q - 2)) r));
  };
  root = record { left = 0; right = 0; is = omega arith };
}

-- q is above 2, and the power 2^e of 2 + √3 is -1 modulo q
module _ (q e : ℕ) (big : 2 < q) (minus : Near q (power (2 ^ e)) (minus_one q)) where
  -- the power of twice that exponent is 1
  twice : Near q (power (2 ^ e * 2)) (power 0)
  twice = rw (let d : 2 ^ e * 2 ≡ 2 ^ e + 2 ^ e = omega arith in d, power_add)
      (near_trans q _ _ _ (near_times q _ _ _ _ minus minus) (minus_squared q big))

  -- -1 times 1 is -1
  times_one : Near q (times (minus_one q) (power 0)) (minus_one q)
  unfolding times power minus_one
  times_one = record {
    whole = record { left = 0; right = 0; is = omega arith };
    root = record { left = 0; right = 0; is = omega arith };
  }

  -- and the power of an odd multiple of it is -1
  odd_power : (h : ℕ) → Near q (power (2 ^ e * (1 + 2 * h))) (minus_one q)
  odd_power h =
      rw (let d : 2 ^ e * (1 + 2 * h) ≡ 2 ^ e + 2 ^ e * 2 * h = omega arith in d, power_add)
      (near_trans q _ _ _ (near_times q _ _ _ _ minus (power_of_one q (2 ^ e * 2) twice h))
      times_one)

  -- -1 is not 1
  not_one : Near q (minus_one q) (power 0) → ⊥
  unfolding power minus_one
  not_one h =
      let s : (q - 1) % q ≡ 1 % q = same_mod q _ _ h.whole in
      let a : q - 1 < q = omega arith in
      let b : 1 < q = omega arith in
      let t : q - 1 ≡ 1 = sym (mod-eq_of_lt a) ∙ s ∙ mod-eq_of_lt b in
      omega arith

  -- a power that is 1 has no exponent 2^s * k with odd k: its 2^t-th power would be both 1 and -1
  odd_case : (t s k h : ℕ) → t + s ≡ e → k ≡ 1 + 2 * h → Near q (power (2 ^ s * k)) (power 0) → ⊥
  odd_case t s k h te ke one =
      let p : 2 ^ e ≡ 2 ^ t * 2 ^ s = ap (λ n. 2 ^ n) (sym te) ∙ pow-add 2 t s in
      let d : 2 ^ s * k * 2 ^ t ≡ 2 ^ e * (1 + 2 * h) =
      omega (arith, ap (λ n. n * k) p, ap (λ n. 2 ^ e * n) ke) in
      not_one (near_trans q _ _ _
      (near_sym q _ _ (subst (λ n. Near q (power n) (minus_one q)) (sym d) (odd_power h)))
      (power_of_one q (2 ^ s * k) one (2 ^ t)))

  -- no power is 1 whose exponent is 2^s * k, for k above 0 and below 2^(t + 1): by halving k until
  -- it is odd
  descend : (t s k : ℕ) → t + s ≡ e → 0 < k → k < 2 ^ suc t → Near q (power (2 ^ s * k)) (power 0)
      → ⊥
  descend zero s k te pos lt one = elim (parity k) [
    | inl h ↦ (let two : 2 ^ suc 0 ≡ 2 = refl in let d = h.1 in omega (arith, d, two))
    | inr h ↦ odd_case 0 s k h.0 te h.1 one
  ]
  descend (suc t) s k te pos lt one = elim (parity k) [
    | inl h ↦ descend t (suc s) h.0 (omega arith) (let d = h.1 in omega (arith, d))
        (omega (arith, h.1, pow-suc 2 (suc t)))
        (rw (let d : 2 ^ suc s * h.0 ≡ 2 ^ s * k =
        omega (arith, ap (λ n. n * h.0) (pow-suc 2 s), ap (λ n. 2 ^ s * n) h.1) in d) one)
    | inr h ↦ odd_case (suc t) s k h.0 te h.1 one
  ]

  -- different powers are different
  differ : (i j : ℕ) → i < j → j < 2 ^ suc e → Near q (power i) (power j) → ⊥
  differ i j lt small h =
      descend e 0 (j - i) (omega arith) (omega arith) (omega arith)
      (rw (let d : 2 ^ 0 * (j - i) ≡ j - i = omega (arith, ap (λ n. n * (j - i)) (pow-zero 2)) in d)
      (near_sym q _ _ (power_down q i (j - i) (rw (let d : i + (j - i) ≡ j = omega arith in d) h))))

  -- a power modulo q, as one number below q * q
  code : ℕ → ℕ
  code k = (power k).0 % q * q + (power k).1 % q

  code_below : (k : ℕ) → code k < q * q
  unfolding code
  code_below k =
      let pos : 0 < q = omega arith in
      let a : (power k).0 % q < q = mod-lt _ pos in
      let b : (power k).1 % q < q = mod-lt _ pos in
      omega (arith, mul-le-mul_left q (let s : (power k).0 % q + 1 ≤ q = omega arith in s))

  -- different powers have different numbers
  code_differ : (i j : ℕ) → i < j → j < 2 ^ suc e → code i ≢ code j
  unfolding code
  code_differ i j lt small same =
      let pos : 0 < q = omega arith in
      let bi : (power i).1 % q < q = mod-lt _ pos in
      let bj : (power j).1 % q < q = mod-lt _ pos in
      differ i j lt small record {
        whole = mod_same q _ _ (sym (digits_div _ bi) ∙ ap (λ n. n / q) same ∙ digits_div _ bj);
        root = mod_same q _ _ (sym (digits_mod _ bi) ∙ ap (λ n. n % q) same ∙ digits_mod _ bj);
      }

  -- so there are at least 2^(e + 1) numbers below q * q
  pub many : 2 ^ suc e ≤ q * q
  many = pigeon (q * q) (2 ^ suc e) code (λ i h. code_below i) code_differ
