-- Where no test fails of what was counted so far, it is records of updates that are legal, which these bytes spell.
use Rattle.std.proofs.Common.{◌≡◌, ◌≤◌, ◌-◌, List, length, take}
use Rattle.sip_vector.specs.declared.update.Update.{Update}
use Rattle.sip_stream.specs.Reading.{HasRead}
use Rattle.sip_stream.specs.Spellings.{all_spelled}
use Rattle.sip_stream.specs.Batches.{IsClean, IsFew, IsLight, reader_of}
use Rattle.sip_stream.proofs.reader.Reader.pass_all.Given as goal

abbrev pub invariant-loop-used : goal.invariant-loop-used
invariant-loop-used g l = record {
  within : l.used ≤ length l.bytes;
  few : IsFew l.used l.batch;
  passed : IsClean l.fn.self.depth l.batch → IsLight l.batch
      × (us : List Update) × (all_spelled l.fn.self.form us ≡ take l.used l.bytes) × HasRead l.fn.self (reader_of l.fn.self l.batch) (take l.used l.bytes) us;
}

abbrev pub decreases-loop-used : goal.decreases-loop-used
decreases-loop-used g l = length l.bytes - l.used
