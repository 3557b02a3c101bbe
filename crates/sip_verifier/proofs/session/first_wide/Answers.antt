-- A seat that is not wide is one more of those before the first.
use Rattle.std.proofs.Common.{◌≡◌, true, false, get_or, rules, sym, subst}
use Rattle.sip_verifier.specs.QuerySeats.{Seated}
use Rattle.sip_verifier.specs.Widths.{is_wide_seat}
use Rattle.sip_verifier.proofs.WideSeats.{narrow_so_far, wide_here}
use Rattle.sip_verifier.proofs.session.first_wide.Goals as goal

pub loop-index-preserved : goal.loop-index-preserved
loop-index-preserved c =
    let here : get_or c.args.seats.now c.loop-index.index c.index-seats-index.result ≡ c.index-seats-index.result = search rules in
    let narrow : is_wide_seat c.index-seats-index.result.query c.index-seats-index.result.running ≡ false = search rules in
    narrow_so_far c.args.seats.now c.loop-index.index c.index-seats-index.result c.loop-index-test.true c.loop-index.invariant
    (subst (λ (s : Seated). is_wide_seat s.query s.running ≡ false) (sym here) narrow)

pub returns-then-is_wide : goal.returns-then-is_wide
returns-then-is_wide c =
    let here : get_or c.args.seats.now c.loop-index.index c.index-seats-index.result ≡ c.index-seats-index.result = search rules in
    let wide : is_wide_seat c.index-seats-index.result.query c.index-seats-index.result.running ≡ true = search rules in
    sym (wide_here c.args.seats.now c.loop-index.index c.index-seats-index.result c.loop-index-test.true c.loop-index.invariant
    (subst (λ (s : Seated). is_wide_seat s.query s.running ≡ true) (sym here) wide))
