-- Numbers that are the same modulo q, by the multiples of q between them.
use Rattle.std.proofs.Common.{◌≡◌, ℕ, ◌+◌, ◌*◌, ◌%◌, ◌/◌, refl, sym, ◌∙◌, ap, arith}
use Rattle.std.proofs.Math.Nat.{add-mul-mod_self_left, mod-add-div}

-- a and b are the same modulo q: some multiples of q make them equal
pub record Same (q a b : ℕ) : Type 0 where
  pub left : ℕ
  pub right : ℕ
  pub is : a + q * left ≡ b + q * right

-- the same as to have one remainder
pub same_mod : (q a b : ℕ) → Same q a b → a % q ≡ b % q
same_mod q a b h =
    sym (add-mul-mod_self_left a q h.left) ∙ ap (λ n. n % q) h.is
    ∙ add-mul-mod_self_left b q h.right

pub mod_same : (q a b : ℕ) → a % q ≡ b % q → Same q a b
mod_same q a b e = record {
  left = b / q;
  right = a / q;
  is = omega (arith, mod-add-div a q, mod-add-div b q, e);
}

-- this is an equivalence, which sums and products keep
pub same_refl : (q a : ℕ) → Same q a a
same_refl q a = record { left = 0; right = 0; is = refl }

pub same_sym : (q a b : ℕ) → Same q a b → Same q b a
same_sym q a b h = record { left = h.right; right = h.left; is = sym h.is }

pub same_trans : (q a b c : ℕ) → Same q a b → Same q b c → Same q a c
same_trans q a b c h k =
    record { left = h.left + k.left; right = h.right + k.right; is = omega (arith, h.is, k.is) }

pub same_plus : (q a b c d : ℕ) → Same q a b → Same q c d → Same q (a + c) (b + d)
same_plus q a b c d h k =
    record { left = h.left + k.left; right = h.right + k.right; is = omega (arith, h.is, k.is) }

-- the product of two sides, with the multiples of q apart
expanded : (q a s c t : ℕ) → a * c + q * (a * t + s * c + q * s * t) ≡ (a + q * s) * (c + q * t)
expanded q a s c t = omega arith

pub same_times : (q a b c d : ℕ) → Same q a b → Same q c d → Same q (a * c) (b * d)
same_times q a b c d h k = record {
  left = a * k.left + h.left * c + q * h.left * k.left;
  right = b * k.right + h.right * d + q * h.right * k.right;
  is = expanded q a h.left c k.left
      ∙ ap (λ n. n * (c + q * k.left)) h.is ∙ ap (λ n. (b + q * h.right) * n) k.is
      ∙ sym (expanded q b h.right d k.right);
}
