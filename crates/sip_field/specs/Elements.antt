-- What the values of the two fields stand for, and the value of a number's residue.
use Rattle.std.specs.Prelude.{◌≡◌, ℕ, ◌%◌, ◌<◌}
use Rattle.std.proofs.Common.{lit<, subst, ap}
use Rattle.std.proofs.Math.Nat.{mod-lt}
use Rattle.std.proofs.Math.Bridge.{le_prop}
use Rattle.sip_field.specs.Moduli.{m61_modulus, f31_modulus}
use Rattle.sip_field.specs.declared.mersenne.M61.{M61}
use Rattle.sip_field.specs.declared.small.F31.{F31}

-- the residue that a value of M61 stands for
abbrev pub m61_number : M61 → ℕ
m61_number x = x.value

-- the value of n's residue modulo 2^61 - 1
abbrev pub m61_element : ℕ → M61
m61_element n = record { value = n % m61_modulus; below = mod-lt n (lit< tt) }

-- the residue that a value of F31 stands for
abbrev pub f31_number : F31 → ℕ
f31_number x = x.value

-- the value of n's residue modulo 31
abbrev pub f31_element : ℕ → F31
f31_element n = record { value = n % f31_modulus; below = mod-lt n (lit< tt) }

m61_at : (n : ℕ) → n < m61_modulus → M61
m61_at n h = record { value = n; below = h }

-- two values with one number are the same
pub m61_distinguishes : (x y : M61) → x.value ≡ y.value → x ≡ y
unfolding m61_at
m61_distinguishes x y e =
    let P : ℕ → Type 0 = λ n. (h : n < m61_modulus) → x ≡ m61_at n h in
    (subst P e (λ h. ap (m61_at x.value) (le_prop x.below h))) y.below

f31_at : (n : ℕ) → n < f31_modulus → F31
f31_at n h = record { value = n; below = h }

-- two values with one number are the same
pub f31_distinguishes : (x y : F31) → x.value ≡ y.value → x ≡ y
unfolding f31_at
f31_distinguishes x y e =
    let P : ℕ → Type 0 = λ n. (h : n < f31_modulus) → x ≡ f31_at n h in
    (subst P e (λ h. ap (f31_at x.value) (le_prop x.below h))) y.below
