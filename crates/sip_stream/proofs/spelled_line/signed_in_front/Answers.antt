-- A minus sign and a number.
use Rattle.std.proofs.Common.{rules, arith, ◌≡◌, ◌<◌, ◌-◌, suc, get_or, length, take, drop, sym, ap, ◌∙◌}
use Rattle.std.specs.Prelude.{decimal}
use Rattle.std.specs.Fmt.{signed_decimal}
use Rattle.sip_stream.proofs.RecordsRead.{rest_at}
use Rattle.sip_stream.proofs.SpelledFronts.{minus_read, negated}
use Rattle.sip_stream.proofs.spelled_line.signed_in_front.Goals as goal

pub returns-clause-spelled : goal.returns-clause-spelled
returns-clause-spelled c =
    let text = c.args.text.now in
    let size = c.in_ok-size-2.size in
    let count = c.in_ok-size-2.count in
    let whole : size ≡ suc (size - 1) = omega (arith, c.if-size-eq0.false) in
    let behind : take count (drop 1 text) ≡ decimal (suc (size - 1)) = ap (take count) (sym (rest_at 1 text)) ∙ c.in_ok-size-2.ensures.spelled ∙ ap decimal whole in
    let some : 0 < length text = search rules in
    let minus : get_or text 0 0 ≡ 45 = search rules in
    minus_read text (size - 1) count some minus behind ∙ ap signed_decimal (sym (negated (size - 1) (omega (arith, c.in_ok-size-2.ensures.small))))
