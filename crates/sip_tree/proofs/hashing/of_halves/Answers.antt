use Rattle.std.proofs.Common.{◌≡◌, ℕ, ◌+◌, ◌*◌, ◌%◌, ◌^◌, ◌∙◌, ap, arith}
use Rattle.std.proofs.Math.Nat.{mod-add-mod, add-mod-mod}
use Rattle.std.proofs.lemmas.Nat.{mul-mod_first, mul-mod_second}
use Rattle.sip_tree.proofs.hashing.of_halves.Goals as goal

-- the residue of two halves from those of each
joined : (low high p : ℕ) → ((high % p * (2 ^ 64 % p)) % p + low % p) % p ≡ (low + high * 2 ^ 64) % p
joined low high p =
    let upper : (high % p * (2 ^ 64 % p)) % p ≡ (high * 2 ^ 64) % p = mul-mod_first high (2 ^ 64 % p) p ∙ mul-mod_second high (2 ^ 64) p in
    ap (λ h. (h + low % p) % p) upper ∙ add-mod-mod ((high * 2 ^ 64) % p) low p ∙ mod-add-mod (high * 2 ^ 64) p low
    ∙ ap (λ y. y % p) (let same : high * 2 ^ 64 + low ≡ low + high * 2 ^ 64 = omega arith in same)

pub returns : goal.returns
returns g c = rw (c.plus.ensures, c.times.ensures, c.of_wide.ensures, c.of_wide-shift.ensures, c.of_wide-2.ensures) (joined c.args.low c.args.high g.F.Field.MODULUS)
