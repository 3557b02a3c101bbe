-- The parts so far were loaded and added up.
use Rattle.std.proofs.Common.{◌≡◌, ◌+◌, List, length}
use Rattle.sip_ports.specs.Ports.{Lasts}
use Rattle.sip_sketch.specs.Sketches.{SketchValues}
use Rattle.sip_sketch.specs.inside.Merging.{AreJoined}
use Rattle.sip_sketch.proofs.merging.add_parts.Given as goal

abbrev pub invariant-loop-number : goal.invariant-loop-number
invariant-loop-number g l = record {
  all : l.number-end ≡ l.fn.count + 1;
  joined : (more : List SketchValues) × (length more + 2 ≡ l.number)
      × AreJoined (g.P.SketchFiles.content l.fn.parts) 2 l.fn.sum more l.sum;
  content : g.P.SketchFiles.content l.parts ≡ g.P.SketchFiles.content l.fn.parts;
  parts : Lasts g.P.SketchFiles.faults g.P.SketchFiles.wants g.P.SketchFiles.is_sure l.fn.parts l.parts;
}
