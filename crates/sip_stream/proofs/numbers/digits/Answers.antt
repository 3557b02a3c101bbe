-- Up to 38 digits fit.
use Rattle.std.proofs.Common.{◌<◌, slice_index_or, rules, arith}
use Rattle.sip_stream.proofs.Digits.{small_fits}
use Rattle.sip_stream.proofs.numbers.digits.Goals as goal

pub overflow_mul-number : goal.overflow_mul-number
overflow_mul-number c =
    let small = small_fits c.loop-index.number c.loop-index.index c.loop-index.invariant.small (omega (arith, c.requires, c.loop-index-test.true)) in
    record { fits = omega (arith, small) }

pub overflow_add-number : goal.overflow_add-number
overflow_add-number c =
    let small = small_fits c.loop-index.number c.loop-index.index c.loop-index.invariant.small (omega (arith, c.requires, c.loop-index-test.true)) in
    let digit : slice_index_or c.args.text.now c.loop-index.index 0 < 256 = search rules in
    record { fits = omega (arith, small, digit) }
