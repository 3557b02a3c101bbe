-- What was read so far are records of updates that are legal, and these stand in front in the block.
use Rattle.std.proofs.Common.{◌≡◌, ◌≤◌, ◌-◌, length, take}
use Rattle.sip_stream.specs.Reading.{HasRead}
use Rattle.sip_stream.proofs.reader.Reader.take_lines.Given as goal

abbrev pub invariant-loop-count : goal.invariant-loop-count
invariant-loop-count l = record {
  within : l.used ≤ length l.bytes;
  few : l.count ≤ length l.block;
  len : length l.block ≡ length l.fn.block;
  took : HasRead l.fn.self l.reader (take l.used l.bytes) (take l.count l.block);
}

abbrev pub decreases-loop-count : goal.decreases-loop-count
decreases-loop-count l = length l.bytes - l.used
