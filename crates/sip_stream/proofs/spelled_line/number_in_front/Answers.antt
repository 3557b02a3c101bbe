-- One more digit, and the digits at their end.
use Rattle.std.proofs.Common.{◌≡◌, ◌<◌, ◌≤◌, ◌+◌, ◌-◌, ◌*◌, slice_index_or, rules, arith, ap, ◌∙◌, length}
use Rattle.std.specs.Char.{digit_value}
use Rattle.std.proofs.lemmas.Int.Digits.{digits_more, digits_value_more}
use Rattle.std.proofs.lemmas.Str.{digit_value_digit}
use Rattle.sip_stream.proofs.Digits.{few_fit, small_step}
use Rattle.sip_stream.proofs.SpelledFronts.{few_small, number_read}
use Rattle.sip_stream.proofs.spelled_line.number_in_front.Goals as goal

pub returns-then-byte-lt48-clause-spelled : goal.returns-then-byte-lt48-clause-spelled
returns-then-byte-lt48-clause-spelled c =
    number_read c.args.text.now c.loop-index.number c.loop-index.index (search rules) (search rules) (search rules) (λ zero. search rules) c.loop-index.invariant.digits c.loop-index.invariant.value

pub returns-then-byte-lt48-clause-small : goal.returns-then-byte-lt48-clause-small
returns-then-byte-lt48-clause-small c = few_small c.loop-index.number c.loop-index.index c.loop-index.invariant.small (search rules)

pub overflow_mul-number : goal.overflow_mul-number
overflow_mul-number c =
    let short : c.loop-index.index ≤ 16 = search rules in
    let small = few_fit c.loop-index.number c.loop-index.index c.loop-index.invariant.small (omega (arith, short)) in
    record { fits = omega (arith, small) }

pub overflow_add-number : goal.overflow_add-number
overflow_add-number c =
    let short : c.loop-index.index ≤ 16 = search rules in
    let small = few_fit c.loop-index.number c.loop-index.index c.loop-index.invariant.small (omega (arith, short)) in
    let digit : slice_index_or c.args.text.now c.loop-index.index 0 < 256 = search rules in
    record { fits = omega (arith, small, digit) }

pub loop-index-preserved : goal.loop-index-preserved
loop-index-preserved c =
    let text = c.args.text.now in
    let index = c.loop-index.index in
    let number = c.loop-index.number in
    let byte = slice_index_or text index 0 in
    let inside : index < length text = search rules in
    let is : digit_value byte + 48 ≡ byte = digit_value_digit byte (omega (arith, c.if-byte-lt48.false), omega (arith, c.if-byte-gt57.false)) in
    record {
      digits = digits_more 10 text index inside c.loop-index.invariant.digits (omega (arith, is, c.if-byte-gt57.false));
      value = digits_value_more 10 text index inside ∙ ap (λ n. n * 10 + digit_value byte) c.loop-index.invariant.value ∙ (let same : number * 10 + digit_value byte ≡ number * 10 + (byte - 48) = omega (arith, is) in same);
      small = small_step number (byte - 48) index c.loop-index.invariant.small (omega (arith, c.if-byte-lt48.false, c.if-byte-gt57.false));
    }
