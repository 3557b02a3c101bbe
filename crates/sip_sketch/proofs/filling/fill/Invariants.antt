-- So many records came, and there is room for more.
use Rattle.std.proofs.Common.{◌≡◌, ℕ, ◌-◌, ◌≤◌, ◌++◌, List, length, take, Some, false}
use Rattle.std.specs.Prelude.{IsSome}
use Rattle.sip_ports.specs.Ports.{Lasts}
use Rattle.sip_stream.specs.Reading.{IsAfter}
use Rattle.sip_vector.specs.declared.update.Update.{Update}
use Rattle.sip_sketch.specs.Watching.{ReadsTo}
use Rattle.sip_sketch.specs.declared.filling.Pause.TheVariants.{Full}
use Rattle.sip_sketch.proofs.filling.fill.Given as goal

abbrev pub invariant-loop-count : goal.invariant-loop-count
invariant-loop-count g l = record {
  few : l.count ≤ length l.block;
  long : length l.block ≡ length l.fn.block;
  reads : (before : List Update) (bytes : List ℕ) → IsAfter l.fn.reader before → g.A.Source.left l.fn.first ≡ Some bytes
      → ReadsTo l.fn.reader.depth l.fn.reader.form before bytes (g.A.Source.left l.first) (take l.count l.block) Full;
  after : (before : List Update) → IsAfter l.fn.reader before → IsAfter l.reader (before ++ take l.count l.block);
  depth : l.reader.depth ≡ l.fn.reader.depth;
  form : l.reader.form ≡ l.fn.reader.form;
  ready : l.reader.is_spent ≡ false;
  told : IsSome (g.A.Source.left l.fn.first) → IsSome (g.A.Source.left l.first);
  first : Lasts g.A.Source.faults g.A.Source.wants g.A.Source.is_sure l.fn.first l.first;
}

abbrev pub decreases-loop-count : goal.decreases-loop-count
decreases-loop-count g l = length l.block - l.count
