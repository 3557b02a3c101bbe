use Rattle.std.proofs.Common.{◌≡◌, ℕ, ◌+◌, ◌*◌, ◌/◌, ◌%◌, ◌^◌, ◌∙◌, ap}
use Rattle.std.proofs.Math.Nat.{mod-add-mod, add-mod-mod}
use Rattle.std.proofs.lemmas.Nat.{mul-mod_first, mul-mod_second, div-add-mod'}
use Rattle.sip_field.proofs.factors.of_wide.Goals as goal

-- the residue of a number from those of its two halves
halves : (x p : ℕ) → (((x / 2 ^ 64) % p * ((18446744073709551615 % p + 1 % p) % p)) % p + x % 2 ^ 64 % p) % p ≡ x % p
halves x p =
    let a : ℕ = x / 2 ^ 64 in
    let b : ℕ = x % 2 ^ 64 in
    let most : ℕ = 18446744073709551615 in
    let shift : (most % p + 1 % p) % p ≡ (most + 1) % p = mod-add-mod most p (1 % p) ∙ add-mod-mod most 1 p in
    let high : (a % p * ((most % p + 1 % p) % p)) % p ≡ (a * (most + 1)) % p =
    mul-mod_first a ((most % p + 1 % p) % p) p ∙ ap (λ s. (a * s) % p) shift ∙ mul-mod_second a (most + 1) p in
    let whole : a * (most + 1) + b ≡ x = div-add-mod' x (2 ^ 64) in
    ap (λ h. (h + b % p) % p) high ∙ add-mod-mod ((a * (most + 1)) % p) b p ∙ mod-add-mod (a * (most + 1)) p b ∙ ap (λ y. y % p) whole

pub returns : goal.returns
returns g c =
    rw (c.plus.ensures, c.times.ensures, c.of-high.ensures, c.of-low.ensures, c.plus-shift.ensures, c.of.ensures, c.of-2.ensures) (halves c.args.x g.F.Field.MODULUS)
