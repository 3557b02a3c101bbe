-- The parts of the line, in front of the bytes.
use Rattle.std.proofs.Common.{rules, arith, ◌≡◌, ◌<◌, ◌+◌, get_or, length, length-drop, take, drop, sym, ap, ◌∙◌, w64, to_z, of_z}
use Rattle.std.specs.Prelude.{FitsSigned, decimal}
use Rattle.std.specs.Fmt.{signed_decimal}
use Rattle.std.proofs.lemmas.Int.{to_z-of_z}
use Rattle.sip_vector.specs.declared.update.Update.{Update}
use Rattle.sip_stream.proofs.RecordsRead.{rest_at}
use Rattle.sip_stream.proofs.SpelledFronts.{holds_spelled, line_read, side_digit}
use Rattle.sip_stream.proofs.spelled_line.spelled_in_front.Goals as goal

pub returns-clause-line : goal.returns-clause-line
returns-clause-line c =
    let bytes = c.args.bytes.now in
    let i = c.in_ok-item.items in
    let z = c.in_ok-delta.sizes in
    let fits : FitsSigned w64 c.in_ok-delta.delta = search rules in
    let kept : to_z w64 (of_z w64 c.in_ok-delta.delta) ≡ c.in_ok-delta.delta = to_z-of_z w64 c.in_ok-delta.delta fits in
    let u : Update = record { side = c.side_of.result; item = c.in_ok-item.item; delta = to_z w64 (of_z w64 c.in_ok-delta.delta) } in
    let fits_kept : FitsSigned w64 u.delta = rw kept fits in
    let behind = ap length (rest_at 2 bytes) ∙ length-drop 2 bytes in
    let later = ap length (rest_at (2 + i + 1) bytes) ∙ length-drop (2 + i + 1) bytes in
    let long : 2 + i + 1 + z < length bytes = omega (arith, behind, later, c.in_ok-item.ensures.within, c.in_ok-delta.ensures.within) in
    let side : get_or bytes 0 0 ≡ _ = side_digit (get_or bytes 0 0) c.side_of.result (search rules) (search rules) c.side_of.ensures in
    let item : take i (drop 2 bytes) ≡ decimal u.item = ap (take i) (sym (rest_at 2 bytes)) ∙ c.in_ok-item.ensures.spelled in
    let delta : take z (drop (2 + i + 1) bytes) ≡ signed_decimal u.delta = ap (take z) (sym (rest_at (2 + i + 1) bytes)) ∙ c.in_ok-delta.ensures.spelled ∙ ap signed_decimal (sym kept) in
    let space : get_or bytes 1 0 ≡ 32 = search rules in
    let gap : get_or bytes (2 + i) 0 ≡ 32 = search rules in
    let feed : get_or bytes (2 + i + 1 + z) 0 ≡ 10 = search rules in
    holds_spelled bytes u (2 + i + 1 + z + 1) (omega (arith, long)) (omega (arith, c.in_ok-item.ensures.few, c.in_ok-delta.ensures.few)) (omega (arith, c.in_ok-item.ensures.small)) fits_kept
    (line_read bytes u i z long side space item gap delta feed)
