-- Causes of the faults that calls over files answer.
use Rattle.std.specs.Prelude.{ℕ, ⊤}
use Rattle.sip_ports.specs.Ports.{Rose}
use Rattle.sip_sketch.specs.declared.status.SketchPort.TheVariants as ports
use Rattle.sip_sketch.specs.declared.status.SketchStatus.{SketchStatus}
use Rattle.sip_sketch.specs.declared.status.SketchStatus.TheVariants as statuses

-- how often the stream, the seed, the file of the sketch, those of parts and the report have failed
pub record Counts : Type 0 where
  pub first : ℕ
  pub second : ℕ
  pub sketch : ℕ
  pub parts : ℕ
  pub report : ℕ

abbrev pub counts : ℕ → ℕ → ℕ → ℕ → ℕ → Counts
counts first second sketch parts report = record {
  first = first;
  second = second;
  sketch = sketch;
  parts = parts;
  report = report;
}

-- Which count of faults rose where this status is answered, whatever the ports tell. A status that
-- is no fault needs none. No call reads the report, and none writes the stream, the seed or a part.
abbrev pub HasRisen : Counts → Counts → SketchStatus → Type 0
HasRisen before now (statuses.ReadFault ports.First) = Rose before.first now.first
HasRisen before now (statuses.ReadFault ports.Second) = Rose before.second now.second
HasRisen before now (statuses.ReadFault ports.Sketch) = Rose before.sketch now.sketch
HasRisen before now (statuses.ReadFault (ports.Part number)) = Rose before.parts now.parts
HasRisen before now (statuses.WriteFault ports.Sketch) = Rose before.sketch now.sketch
HasRisen before now (statuses.WriteFault ports.Report) = Rose before.report now.report
HasRisen before now (statuses.ReadFault _) = ⊥
HasRisen before now (statuses.WriteFault _) = ⊥
HasRisen before now _ = ⊤
