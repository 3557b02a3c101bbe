-- Up to 19 digits fit.
use Rattle.std.proofs.Common.{◌<◌, slice_index_or, rules, arith}
use Rattle.sip_stream.proofs.Digits.{few_fit}
use Rattle.sip_stream.proofs.numbers.few_digits.Goals as goal

pub overflow_mul-number : goal.overflow_mul-number
overflow_mul-number c =
    let small = few_fit c.loop-index.number c.loop-index.index c.loop-index.invariant.small (omega (arith, c.requires, c.loop-index-test.true)) in
    record { fits = omega (arith, small) }

pub overflow_add-number : goal.overflow_add-number
overflow_add-number c =
    let small = few_fit c.loop-index.number c.loop-index.index c.loop-index.invariant.small (omega (arith, c.requires, c.loop-index-test.true)) in
    let digit : slice_index_or c.args.text.now c.loop-index.index 0 < 256 = search rules in
    record { fits = omega (arith, small, digit) }
