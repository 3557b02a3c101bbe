-- What was read so far are records of updates that are legal, and their spellings stand behind what was gathered before.
use Rattle.std.proofs.Common.{◌≡◌, ◌≤◌, ◌-◌, ◌++◌, List, length, take}
use Rattle.sip_vector.specs.declared.update.Update.{Update}
use Rattle.sip_stream.specs.Reading.{HasRead}
use Rattle.sip_stream.specs.Spellings.{all_spelled}
use Rattle.sip_stream.proofs.reader.Reader.spell_records.Given as goal

abbrev pub invariant-loop-to : goal.invariant-loop-to
invariant-loop-to g l = record {
  within : l.used ≤ length l.bytes;
  same_to : l.to ≡ l.fn.to;
  grown : (us : List Update) × (l.gathered.items ≡ l.fn.gathered.items ++ all_spelled l.fn.to us) × HasRead l.fn.self l.reader (take l.used l.bytes) us;
}

abbrev pub decreases-loop-to : goal.decreases-loop-to
decreases-loop-to g l = length l.bytes - l.used
