-- The bytes so far are digits, and this is their number.
use Rattle.std.proofs.Common.{◌≡◌, ◌<◌, ◌^◌, drop}
use Rattle.std.specs.Str.{all_ascii_digits}
use Rattle.std.specs.Str.Parse.{digits_value, digits_value_after}
use Rattle.sip_stream.proofs.numbers.few_digits.Given as goal

abbrev pub invariant-loop-index : goal.invariant-loop-index
invariant-loop-index l = record {
  digits : all_ascii_digits l.text ≡ all_ascii_digits (drop l.index l.text);
  value : digits_value 10 l.text ≡ digits_value_after 10 l.number (drop l.index l.text);
  small : l.number < 10 ^ l.index;
}
