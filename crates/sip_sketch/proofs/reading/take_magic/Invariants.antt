use Rattle.std.proofs.Common.{◌≡◌, take, drop}
use Rattle.sip_sketch.specs.Fields.{Fields}
use Rattle.sip_sketch.specs.Reading.{Passes}
use Rattle.sip_sketch.specs.Sketches.{fixed, magic}
use Rattle.sip_sketch.proofs.reading.take_magic.Given as goal

abbrev pub invariant-loop-byte : goal.invariant-loop-byte
invariant-loop-byte l = (l.byte-items ≡ magic) × ((behind : Fields)
    → Passes l.fn.cursor l.cursor (fixed magic behind) (fixed (drop l.byte-index magic) behind) (take l.byte-index magic))
