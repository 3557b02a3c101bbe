use Rattle.std.proofs.Common.{[], ◌%◌, ◌<◌, get_or, ◌∙◌, arith}
use Rattle.std.proofs.Math.Nat.{mod-lt}
use Rattle.sip_field.proofs.BitProducts.{high_part}
use Rattle.sip_tree.specs.Steps.{no_step, IsBelow}
use Rattle.sip_tree.proofs.StepTables.{first_step_table, below_step}
use Rattle.sip_tree.proofs.steps.loosely_by_steps.Goals as goal

pub loosely_from-requires-clause-hash : goal.loosely_from-requires-clause-hash
loosely_from-requires-clause-hash g c =
    let low : c.args.index % 256 < 256 = mod-lt c.args.index (omega arith) in
    let below : IsBelow g.F.Field.MODULUS (get_or (get_or c.args.tables.now 0 []) (c.args.index % 256) no_step) =
    below_step g.F.Field.MODULUS c.args.tables.now 0 _ c.requires.some (omega (arith, low, c.told-tables 0 c.requires.some)) c.requires.below in
    below.1

pub returns-clause-weight : goal.returns-clause-weight
returns-clause-weight g c challenges are long within =
    let above : 1 < g.F.Field.MODULUS = omega (arith, g.met.F.Field.at_least) in
    c.loosely_from.ensures.hash challenges are long (high_part 8 c.args.index challenges within)
    ∙ first_step_table g.F.Field.MODULUS c.args.index challenges c.args.tables.now above are c.requires.some (loosely_from-requires-clause-hash g c.before) within
