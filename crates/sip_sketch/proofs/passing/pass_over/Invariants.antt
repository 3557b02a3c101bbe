-- So many records came, and more are to come.
use Rattle.std.proofs.Common.{◌≡◌, ℕ, ◌-◌, ◌≤◌, List, [], length, Some, false}
use Rattle.std.specs.Prelude.{IsSome}
use Rattle.sip_ports.specs.Ports.{Lasts}
use Rattle.sip_stream.specs.Reading.{IsAfter}
use Rattle.sip_vector.specs.declared.update.Update.{Update}
use Rattle.sip_sketch.specs.Watching.{ReadsTo}
use Rattle.sip_sketch.specs.declared.filling.Pause.TheVariants.{Full}
use Rattle.sip_sketch.proofs.passing.pass_over.Given as goal

abbrev pub invariant-loop-passed : goal.invariant-loop-passed
invariant-loop-passed g l = record {
  few : l.passed ≤ l.count;
  whole : l.count ≡ l.fn.count;
  passed : (passed : List Update) × (length passed ≡ l.passed) × IsAfter l.reader passed
      × ((bytes : List ℕ) → g.A.Source.left l.fn.first ≡ Some bytes
      → ReadsTo l.fn.depth l.fn.form [] bytes (g.A.Source.left l.first) passed Full);
  depth : l.reader.depth ≡ l.fn.depth;
  form : l.reader.form ≡ l.fn.form;
  ready : l.reader.is_spent ≡ false;
  told : IsSome (g.A.Source.left l.fn.first) → IsSome (g.A.Source.left l.first);
  first : Lasts g.A.Source.faults g.A.Source.wants g.A.Source.is_sure l.fn.first l.first;
}

abbrev pub decreases-loop-passed : goal.decreases-loop-passed
decreases-loop-passed g l = l.count - l.passed
