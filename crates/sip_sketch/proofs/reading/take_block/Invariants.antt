use Rattle.std.proofs.Common.{◌≡◌, ◌-◌, ◌≤◌, map, length}
use Rattle.sip_field.specs.Elements.{m61_number}
use Rattle.sip_sketch.specs.Fields.{Fields}
use Rattle.sip_sketch.specs.Reading.{Passes}
use Rattle.sip_sketch.specs.Sketches.{elements}
use Rattle.sip_sketch.proofs.reading.take_block.Given as goal

abbrev pub invariant-loop : goal.invariant-loop
invariant-loop l = (l.end ≡ l.fn.depth) × (l.counter ≤ l.end) × (length l.challenges.items ≡ l.counter) × ((behind : Fields)
    → Passes l.fn.cursor l.cursor (elements l.fn.depth behind) (elements (l.fn.depth - l.counter) behind) (map m61_number l.challenges.items))
