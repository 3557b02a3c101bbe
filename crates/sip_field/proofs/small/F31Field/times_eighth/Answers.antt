use Rattle.std.proofs.Common.{◌≡◌, ◌*◌, ◌/◌, ◌%◌, ◌∙◌, ap, arith}
use Rattle.std.proofs.lemmas.Nat.{mul-mod_second}
use Rattle.sip_field.specs.Moduli.{f31_modulus}
use Rattle.sip_field.proofs.small.F31Field.times_eighth.Goals as goal

pub returns : goal.returns
returns c y is =
    let eighth : c.args.eightfold / 8 ≡ y = omega (arith, is) in
    c.of.ensures ∙ mul-mod_second c.args.self.value (c.args.eightfold / 8) f31_modulus
    ∙ ap (λ z. (c.args.self.value * z) % f31_modulus) eighth
