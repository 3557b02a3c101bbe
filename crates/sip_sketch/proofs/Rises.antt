-- Counts of faults that rose, seen from before.
use Rattle.std.proofs.Common.{◌≡◌, ℕ, ◌≤◌, refl, le_refl}
use Rattle.sip_ports.specs.Ports.{Rose}
use Rattle.sip_stream.specs.declared.fault.StreamFault.{StreamFault}
use Rattle.sip_stream.specs.declared.fault.StreamFault.TheVariants as faults
use Rattle.sip_sketch.specs.Risen.{Counts, HasRisen}
use Rattle.sip_sketch.specs.inside.Causes.{with_first, with_sketch}
use Rattle.sip_sketch.specs.inside.Following.{status_of}
use Rattle.sip_sketch.specs.declared.status.SketchStatus.{SketchStatus}
use Rattle.sip_sketch.proofs.Causes.{as_late, risen_between}

-- counts of the file of the sketch and of the stream
abbrev pub with_both : Counts → ℕ → ℕ → Counts
with_both c sketch first = with_first (with_sketch c sketch) first

-- from an earlier count on
pub risen_since : (c d : Counts) (sketch sketch' first first' now now' : ℕ) (status : SketchStatus) → sketch' ≤ sketch → first' ≤ first
    → HasRisen (with_both c sketch first) (with_both d now now') status → HasRisen (with_both c sketch' first') (with_both d now now') status
risen_since c d sketch sketch' first first' now now' status le le' h =
    risen_between (with_both c sketch' first') (with_both c sketch first) (with_both d now now') (with_both d now now') status
    record { first = le'; second = le_refl c.second; sketch = le; parts = le_refl c.parts; report = le_refl c.report }
    h (as_late (with_both d now now'))

-- of a stream that is read no further
pub stream_risen : (before now : Counts) (fault : StreamFault) (at : ℕ) → (fault ≡ faults.ReadFault → Rose before.first now.first) → HasRisen before now (status_of fault at)
stream_risen before now (faults.Bad number why) at h = tt
stream_risen before now faults.ReadFault at h = h refl
stream_risen before now faults.OutOfMemory at h = tt
