-- The residue of a signed sum.
use Rattle.std.proofs.Common.{◌≡◌, ℕ, zero, suc, ◌+◌, ◌-◌, ◌*◌, ◌/◌, ◌%◌, ◌<◌, ℤ, pos, negsuc, ◌+ℤ◌, refl, sym, ◌∙◌, ap, arith, ◌≤◌, nat_abs}
use Rattle.std.proofs.Math.Nat.{mod-lt, mod-add-div, mod-eq_of_lt, add-mul-mod_self_left, mod-add-mod, add-mod-mod}
use Rattle.std.proofs.lemmas.Int.{ints}
use borrow.Author.Differences.{up, down}
use Rattle.sip_field.specs.Residue.{residue}

pub residue_below : (p : ℕ) (x : ℤ) → 0 < p → residue p x < p
residue_below p (pos n) some = mod-lt n some
residue_below p (negsuc n) some = omega arith

-- the residue stands for the number, which is its positive part less its negative part
pub residue_is : (p : ℕ) (x : ℤ) → 0 < p → (residue p x + down x) % p ≡ up x % p
residue_is p (pos n) some = simp mod-add-mod (ap (λ k. k % p) (let e : n + 0 ≡ n = omega arith in e))
residue_is p (negsuc n) some =
    let below : n % p < p = mod-lt n some in
    ap (λ k. k % p) (let e : p - 1 - n % p + suc n ≡ 0 + p * (n / p + 1) = omega (arith, mod-add-div n p) in e) ∙ add-mul-mod_self_left 0 p (n / p + 1)

-- two small numbers with one residue are the same
pub same_from_residue : (p : ℕ) (a b : ℤ) → 0 < p → nat_abs a ≤ (p - 1) / 2 → nat_abs b ≤ (p - 1) / 2 → residue p a ≡ residue p b → a ≡ b
same_from_residue p (pos n) (pos m) some sa sb e =
    let x : n % p ≡ n = mod-eq_of_lt (omega arith) in
    let y : m % p ≡ m = mod-eq_of_lt (omega arith) in
    ap pos (omega arith)
same_from_residue p (pos n) (negsuc m) some sa sb e =
    let x : n % p ≡ n = mod-eq_of_lt (omega arith) in
    let y : m % p ≡ m = mod-eq_of_lt (omega arith) in
    absurd (omega arith)
same_from_residue p (negsuc n) (pos m) some sa sb e =
    let x : n % p ≡ n = mod-eq_of_lt (omega arith) in
    let y : m % p ≡ m = mod-eq_of_lt (omega arith) in
    absurd (omega arith)
same_from_residue p (negsuc n) (negsuc m) some sa sb e =
    let x : n % p ≡ n = mod-eq_of_lt (omega arith) in
    let y : m % p ≡ m = mod-eq_of_lt (omega arith) in
    ap negsuc (omega arith)

-- a number and p - 1 times it are a multiple of p
cancelled : (p a c : ℕ) → 0 < p → (a + c + (p - 1) * c) % p ≡ a % p
cancelled zero a c some = absurd (omega arith)
cancelled (suc q) a c some = ap (λ k. k % suc q) (let e : a + c + (suc q - 1) * c ≡ a + suc q * c = grind arith in e) ∙ add-mul-mod_self_left a (suc q) c

pub mod_cancel : (p a b c : ℕ) → 0 < p → (a + c) % p ≡ (b + c) % p → a % p ≡ b % p
mod_cancel p a b c some e =
    sym (cancelled p a c some) ∙ sym (mod-add-mod (a + c) p ((p - 1) * c)) ∙ ap (λ k. (k + (p - 1) * c) % p) e
    ∙ mod-add-mod (b + c) p ((p - 1) * c) ∙ cancelled p b c some

-- sums keep what is the same modulo p
remainders_in : (p a b : ℕ) → (a % p + b % p) % p ≡ (a + b) % p
remainders_in p a b = simp (mod-add-mod, add-mod-mod)

pub mod_plus : (p a b c d : ℕ) → a % p ≡ b % p → c % p ≡ d % p → (a + c) % p ≡ (b + d) % p
mod_plus p a b c d e f = sym (remainders_in p a c) ∙ ap (λ k. (k + c % p) % p) e ∙ ap (λ k. (b % p + k) % p) f ∙ remainders_in p b d

pub residue_of_sum : (p : ℕ) (x y : ℤ) → 0 < p → residue p (x +ℤ y) ≡ (residue p x + residue p y) % p
residue_of_sum p x y some =
    let s : ℕ = residue p (x +ℤ y) in
    let u : ℕ = residue p x in
    let w : ℕ = residue p y in
    let off : ℕ = down (x +ℤ y) + (down x + down y) in
    let parts : up (x +ℤ y) + (down x + down y) ≡ down (x +ℤ y) + (up x + up y) = omega (arith, ints) in
    let whole : (s + off) % p ≡ (up (x +ℤ y) + (down x + down y)) % p =
    ap (λ k. k % p) (let e : s + off ≡ s + down (x +ℤ y) + (down x + down y) = omega arith in e)
    ∙ mod_plus p _ _ (down x + down y) _ (residue_is p (x +ℤ y) some) refl in
    let apart : (u + w + off) % p ≡ (down (x +ℤ y) + (up x + up y)) % p =
    ap (λ k. k % p) (let e : u + w + off ≡ down (x +ℤ y) + ((u + down x) + (w + down y)) = omega arith in e)
    ∙ mod_plus p (down (x +ℤ y)) _ _ _ refl (mod_plus p _ _ _ _ (residue_is p x some) (residue_is p y some)) in
    sym (mod-eq_of_lt (residue_below p (x +ℤ y) some)) ∙ mod_cancel p s (u + w) off some (whole ∙ ap (λ k. k % p) parts ∙ sym apart)
