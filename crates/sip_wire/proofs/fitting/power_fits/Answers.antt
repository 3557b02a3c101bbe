use Rattle.std.proofs.Common.{◌≤◌, ◌∙◌, ◌&&◌, ℕ, List, [], ◌∷◌, ap, arith, length, tests}
use Rattle.sip_wire.specs.Rows.{holds, rooms}
use Rattle.sip_wire.specs.Spelling.{coefficient_numbers}
use Rattle.sip_wire.specs.Table.{element}
use Rattle.sip_wire.proofs.Powers.{power_fits}
use Rattle.sip_wire.proofs.fitting.power_fits.Goals as goal

pub returns-then-not-is_empty : goal.returns-then-not-is_empty
returns-then-not-is_empty c =
    let same = c.deref.ensures.0 in
    let most : length c.args.coefficients.now.items ≤ 9 = omega (arith, ap length same, c.deref.ensures.1) in
    let some : 1 ≤ length c.args.coefficients.now.items = grind (arith, tests) in
    c.rows_fit.ensures ∙ ap (λ (xs : List ℕ). rooms coefficient_numbers (element ∷ []) xs && holds coefficient_numbers (element ∷ []) xs) same ∙ power_fits c.args.version c.args.coefficients.now most some
