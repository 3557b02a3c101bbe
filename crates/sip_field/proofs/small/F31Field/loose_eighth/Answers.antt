use Rattle.std.proofs.Common.{◌≡◌, ◌*◌, ◌/◌, ◌%◌, ◌∙◌, ap, arith}
use Rattle.std.proofs.lemmas.Nat.{mul-mod_first, mul-mod_second}
use Rattle.sip_field.specs.Moduli.{f31_modulus}
use Rattle.sip_field.proofs.small.F31Field.loose_eighth.Goals as goal

pub returns-clause-residue : goal.returns-clause-residue
returns-clause-residue c y is =
    let eighth : c.args.eightfold / 8 ≡ y = omega (arith, is) in
    mul-mod_first c.args.x (c.args.eightfold / 8 % f31_modulus) f31_modulus ∙ mul-mod_second c.args.x (c.args.eightfold / 8) f31_modulus
    ∙ ap (λ z. (c.args.x * z) % f31_modulus) eighth
