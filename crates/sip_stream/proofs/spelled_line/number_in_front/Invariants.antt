-- The bytes so far are digits, and this is their number.
use Rattle.std.proofs.Common.{◌≡◌, ◌<◌, ◌^◌, take}
use Rattle.std.specs.Str.Parse.{AllDigits, digits_value}
use Rattle.sip_stream.proofs.spelled_line.number_in_front.Given as goal

abbrev pub invariant-loop-index : goal.invariant-loop-index
invariant-loop-index l = record {
  digits : AllDigits 10 (take l.index l.text);
  value : digits_value 10 (take l.index l.text) ≡ l.number;
  small : l.number < 10 ^ l.index;
}
