-- What was passed so far are records of updates that are legal, which these bytes spell.
use Rattle.std.proofs.Common.{◌≡◌, ◌≤◌, ◌-◌, List, length, take}
use Rattle.sip_vector.specs.declared.update.Update.{Update}
use Rattle.sip_stream.specs.Reading.{HasRead}
use Rattle.sip_stream.specs.Spellings.{all_spelled}
use Rattle.sip_stream.proofs.reader.Reader.pass_lines.Given as goal

abbrev pub invariant-loop-said : goal.invariant-loop-said
invariant-loop-said l = record {
  within : l.used ≤ length l.bytes;
  passed : (us : List Update) × (all_spelled l.fn.self.form us ≡ take l.used l.bytes) × HasRead l.fn.self l.reader (take l.used l.bytes) us;
}

abbrev pub decreases-loop-said : goal.decreases-loop-said
decreases-loop-said l = length l.bytes - l.used
