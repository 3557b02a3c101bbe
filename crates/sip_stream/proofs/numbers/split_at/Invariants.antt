-- The mark is not in front of this place.
use Rattle.std.proofs.Common.{◌≡◌, take}
use Rattle.std.specs.Prelude.{None}
use Rattle.sip_stream.specs.Lines.{parts_at}
use Rattle.sip_stream.proofs.numbers.split_at.Given as goal

abbrev pub invariant-loop-index : goal.invariant-loop-index
invariant-loop-index l = record {
  clean : parts_at l.mark (take l.index l.text) ≡ None;
}
