-- Causes of faults, seen from an earlier moment to a later one.
use Rattle.std.proofs.Common.{ℕ, ◌≤◌, le_refl}
use Rattle.sip_ports.specs.Ports.{Rose}
use Rattle.sip_ports.proofs.FaultLemmas.{Rose-since, Rose-until}
use Rattle.sip_sketch.specs.Risen.{Counts, HasRisen}
use Rattle.sip_sketch.specs.inside.Causes.{with_parts, with_sketch}
use Rattle.sip_sketch.specs.declared.status.SketchPort.TheVariants as ports
use Rattle.sip_sketch.specs.declared.status.SketchStatus.{SketchStatus}
use Rattle.sip_sketch.specs.declared.status.SketchStatus.TheVariants as statuses

-- no count fell
pub record AreLater (before now : Counts) : Type 0 where
  pub first : before.first ≤ now.first
  pub second : before.second ≤ now.second
  pub sketch : before.sketch ≤ now.sketch
  pub parts : before.parts ≤ now.parts
  pub report : before.report ≤ now.report

-- they are no less than themselves
pub as_late : (c : Counts) → AreLater c c
as_late c = record { first = le_refl c.first; second = le_refl c.second; sketch = le_refl c.sketch; parts = le_refl c.parts; report = le_refl c.report }

rose : (a b c d : ℕ) → a ≤ b → Rose b c → c ≤ d → Rose a d
rose a b c d earlier risen later = Rose-until a c d (Rose-since a b c earlier risen) later

-- a fault has its cause between counts that are no greater before, and no less behind
pub risen_between : (a b c d : Counts) (status : SketchStatus) → AreLater a b → HasRisen b c status → AreLater c d → HasRisen a d status
risen_between a b c d (statuses.ReadFault ports.First) p h q = rose a.first b.first c.first d.first p.first h q.first
risen_between a b c d (statuses.ReadFault ports.Second) p h q = rose a.second b.second c.second d.second p.second h q.second
risen_between a b c d (statuses.ReadFault ports.Sketch) p h q = rose a.sketch b.sketch c.sketch d.sketch p.sketch h q.sketch
risen_between a b c d (statuses.ReadFault (ports.Part number)) p h q = rose a.parts b.parts c.parts d.parts p.parts h q.parts
risen_between a b c d (statuses.ReadFault ports.Report) p h q = absurd h
risen_between a b c d (statuses.WriteFault ports.First) p h q = absurd h
risen_between a b c d (statuses.WriteFault ports.Second) p h q = absurd h
risen_between a b c d (statuses.WriteFault ports.Sketch) p h q = rose a.sketch b.sketch c.sketch d.sketch p.sketch h q.sketch
risen_between a b c d (statuses.WriteFault (ports.Part number)) p h q = absurd h
risen_between a b c d (statuses.WriteFault ports.Report) p h q = rose a.report b.report c.report d.report p.report h q.report
risen_between a b c d statuses.Wrote p h q = tt
risen_between a b c d statuses.Exists p h q = tt
risen_between a b c d (statuses.BadSketch number offset) p h q = tt
risen_between a b c d statuses.BadSeed p h q = tt
risen_between a b c d statuses.SeedSpent p h q = tt
risen_between a b c d statuses.Busy p h q = tt
risen_between a b c d (statuses.BadStream at why) p h q = tt
risen_between a b c d (statuses.BadStart records is_sum) p h q = tt
risen_between a b c d (statuses.Behind at) p h q = tt
risen_between a b c d (statuses.Unlike number why) p h q = tt
risen_between a b c d statuses.OutOfMemory p h q = tt

-- so of the files of parts alone, and of that of the sketch
pub parts_since : (before now : Counts) (a b c : ℕ) (status : SketchStatus) → a ≤ b → HasRisen (with_parts before b) (with_parts now c) status → HasRisen (with_parts before a) (with_parts now c) status
parts_since before now a b c status le h =
    risen_between (with_parts before a) (with_parts before b) (with_parts now c) (with_parts now c) status
    record { first = le_refl before.first; second = le_refl before.second; sketch = le_refl before.sketch; parts = le; report = le_refl before.report }
    h (as_late (with_parts now c))

pub sketch_since : (before now : Counts) (a b c : ℕ) (status : SketchStatus) → a ≤ b → HasRisen (with_sketch before b) (with_sketch now c) status → HasRisen (with_sketch before a) (with_sketch now c) status
sketch_since before now a b c status le h =
    risen_between (with_sketch before a) (with_sketch before b) (with_sketch now c) (with_sketch now c) status
    record { first = le_refl before.first; second = le_refl before.second; sketch = le; parts = le_refl before.parts; report = le_refl before.report }
    h (as_late (with_sketch now c))
