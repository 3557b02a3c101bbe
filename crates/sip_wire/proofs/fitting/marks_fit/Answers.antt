use Rattle.std.proofs.Common.{◌≡◌, ◌≤◌, ◌∙◌, ◌&&◌, Bool, true, false, List, length, ap, sym, arith, tests}
use Rattle.std.specs.List.{flat_map}
use Rattle.sip_wire.specs.declared.message.Mark.{Mark}
use Rattle.sip_wire.specs.Rows.{holds, rooms}
use Rattle.sip_wire.specs.Spelling.{mark_numbers}
use Rattle.sip_wire.specs.declared.kind.Kind.TheVariants as kinds
use Rattle.sip_wire.specs.Table.{mark_fields, stands_in, within_weights}
use Rattle.sip_wire.proofs.Marks.{marks_fits}
use Rattle.sip_wire.proofs.fitting.marks_fit.Goals as goal

pub returns-else-rows_fit : goal.returns-else-rows_fit
returns-else-rows_fit c =
    let same = c.deref.ensures.0 in
    let most : length c.args.marks.now.items ≤ 256 = omega (arith, ap length same, c.deref.ensures.1) in
    let some : 1 ≤ length c.args.marks.now.items = grind (arith, tests) in
    let stands : stands_in kinds.Marks c.args.version ≡ true = grind (arith, tests) in
    let ms : List Mark = c.args.marks.now.items in
    let no : (rooms mark_numbers mark_fields ms && holds mark_numbers mark_fields ms) ≡ false =
    sym (ap (λ (xs : List Mark). rooms mark_numbers mark_fields xs && holds mark_numbers mark_fields xs) same) ∙ sym c.rows_fit.ensures ∙ c.if-rows_fit.false in
    c.if-rows_fit.false ∙ ap (λ (b : Bool). b && within_weights (flat_map mark_numbers ms)) (sym no) ∙ marks_fits c.args.version c.args.marks.now most some stands
