-- The powers of 2 + √3, as pairs of whole numbers, and when two pairs are the same modulo q.
use Rattle.std.proofs.Common.{◌≡◌, ℕ, zero, suc, ◌+◌, ◌*◌, subst, arith}
use Rattle.sip_field.specs.LawProofs.Congruence.{Same, same_refl, same_sym, same_trans, same_plus}
use Rattle.sip_field.specs.LawProofs.Congruence.{same_times}

-- (x, y) stands for x + y·√3: the product of two of them
unfoldable pub times : ℕ × ℕ → ℕ × ℕ → ℕ × ℕ
times a b = (a.0 * b.0 + 3 * (a.1 * b.1), a.0 * b.1 + a.1 * b.0)

-- the k-th power of 2 + √3, each the one before times 2 + √3
unfoldable pub power : ℕ → ℕ × ℕ
power zero = (1, 0)
power (suc k) = (2 * (power k).0 + 3 * (power k).1, (power k).0 + 2 * (power k).1)

-- two pairs that are the same modulo q, in both places
pub record Near (q : ℕ) (a b : ℕ × ℕ) : Type 0 where
  pub whole : Same q a.0 b.0
  pub root : Same q a.1 b.1

-- this is an equivalence, which products keep
pub near_refl : (q : ℕ) (a : ℕ × ℕ) → Near q a a
near_refl q a = record { whole = same_refl q a.0; root = same_refl q a.1 }

pub near_sym : (q : ℕ) (a b : ℕ × ℕ) → Near q a b → Near q b a
near_sym q a b h = record { whole = same_sym q _ _ h.whole; root = same_sym q _ _ h.root }

pub near_trans : (q : ℕ) (a b c : ℕ × ℕ) → Near q a b → Near q b c → Near q a c
near_trans q a b c h k =
    record { whole = same_trans q _ _ _ h.whole k.whole; root = same_trans q _ _ _ h.root k.root }

pub near_times : (q : ℕ) (a b c d : ℕ × ℕ) → Near q a b → Near q c d
    → Near q (times a c) (times b d)
unfolding times
near_times q a b c d h k = record {
  whole = same_plus q _ _ _ _ (same_times q _ _ _ _ h.whole k.whole)
      (same_times q _ _ _ _ (same_refl q 3) (same_times q _ _ _ _ h.root k.root));
  root = same_plus q _ _ _ _ (same_times q _ _ _ _ h.whole k.root)
      (same_times q _ _ _ _ h.root k.whole);
}

-- a sum of exponents is a product of powers
pub power_add : (i j : ℕ) → power (i + j) ≡ times (power i) (power j)
unfolding power times
power_add i zero = rw (let e : i + 0 ≡ i = omega arith in e) (λ k. (firsts k, seconds k))
  where
    firsts : (power i).0 ≡ (power i).0 * 1 + 3 * ((power i).1 * 0)
    firsts = omega arith

    seconds : (power i).1 ≡ (power i).0 * 0 + (power i).1 * 1
    seconds = omega arith
power_add i (suc j) =
    rw (let e : i + suc j ≡ suc (i + j) = omega arith in e)
    (rw (power_add i j) (λ k. (firsts k, seconds k)))
  where
    firsts : 2 * ((power i).0 * (power j).0 + 3 * ((power i).1 * (power j).1))
        + 3 * ((power i).0 * (power j).1 + (power i).1 * (power j).0)
        ≡ (power i).0 * (2 * (power j).0 + 3 * (power j).1)
        + 3 * ((power i).1 * ((power j).0 + 2 * (power j).1))
    firsts = omega arith

    seconds : (power i).0 * (power j).0 + 3 * ((power i).1 * (power j).1)
        + 2 * ((power i).0 * (power j).1 + (power i).1 * (power j).0)
        ≡ (power i).0 * ((power j).0 + 2 * (power j).1)
        + (power i).1 * (2 * (power j).0 + 3 * (power j).1)
    seconds = omega arith

-- 2 + √3 can be cancelled, since 2 - √3 is its inverse
power_back : (q i j : ℕ) → Near q (power (suc i)) (power (suc j)) → Near q (power i) (power j)
unfolding power
power_back q i j h = record {
  whole = record {
    left = 2 * h.whole.left + 3 * h.root.right;
    right = 2 * h.whole.right + 3 * h.root.left;
    is = omega (arith, h.whole.is, h.root.is);
  };
  root = record {
    left = 2 * h.root.left + h.whole.right;
    right = 2 * h.root.right + h.whole.left;
    is = omega (arith, h.whole.is, h.root.is);
  };
}

-- so two powers that are the same give a power that is 1
pub power_down : (q i k : ℕ) → Near q (power i) (power (i + k)) → Near q (power 0) (power k)
power_down q zero k h = rw (let e : k ≡ 0 + k = omega arith in e) h
power_down q (suc i) k h =
    power_down q i k (power_back q i (i + k)
    (rw (let e : suc (i + k) ≡ suc i + k = omega arith in e) h))

module _ (q k : ℕ) (one : Near q (power k) (power 0)) where
  -- the powers of a power that is 1 are 1
  pub power_of_one : (m : ℕ) → Near q (power (k * m)) (power 0)
  power_of_one zero = rw (let e : k * 0 ≡ 0 = omega arith in e) (near_refl q (power 0))
  power_of_one (suc m) = rw (let e : k * suc m ≡ k + k * m = omega arith in e, power_add)
      (near_trans q _ (times (power 0) (power 0)) _ (near_times q _ _ _ _ one (power_of_one m))
      (subst (λ p. Near q p (power 0)) (power_add 0 0) (near_refl q (power 0))))
