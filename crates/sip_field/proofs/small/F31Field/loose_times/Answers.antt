use Rattle.std.proofs.lemmas.Nat.{mul-mod_first}
use Rattle.sip_field.specs.Moduli.{f31_modulus}
use Rattle.sip_field.proofs.small.F31Field.loose_times.Goals as goal

pub returns-clause-residue : goal.returns-clause-residue
returns-clause-residue c = mul-mod_first c.args.x c.args.y f31_modulus
