-- That a sketch is stored once more says of no other process that it has the sketch.
use Rattle.std.proofs.Common.{◌≡◌, ℕ, List, inl, inr, sym, ◌∙◌}
use Rattle.std.specs.declared.option.Option.{Option}
use Rattle.sip_ports.specs.declared.port.TalkEvent.{TalkEvent}
use Rattle.sip_stream.specs.declared.fault.StreamFault.{StreamFault}
use Rattle.sip_stream.specs.declared.fault.StreamFault.TheVariants as faults
use Rattle.sip_sketch.specs.declared.status.SketchPort.TheVariants as ports
use Rattle.sip_sketch.specs.declared.status.SketchStatus.{SketchStatus}
use Rattle.sip_sketch.specs.declared.status.SketchStatus.TheVariants as statuses
use Rattle.sip_sketch.specs.inside.Following.{status_of}
use Rattle.sip_sketch.specs.inside.Keeping.{Closes}

read_free : (fault : StreamFault) (at : ℕ) → status_of fault at ≡ statuses.Busy → ⊥
read_free (faults.Bad place why) at e = cc
read_free faults.ReadFault at e = cc
read_free faults.OutOfMemory at e = cc

pub closes_free : (fault : StreamFault) (at : ℕ) (old new : Option (List TalkEvent)) (file : List ℕ) (result : SketchStatus)
    → Closes old new file (status_of fault at) result → result ≡ statuses.Busy → ⊥
closes_free fault at old new file result (inl (went, is)) busy = read_free fault at (sym is ∙ busy)
closes_free fault at old new file result (inr (stopped, inl is)) busy = let clash : statuses.WriteFault ports.Sketch ≡ statuses.Busy = sym is ∙ busy in cc
closes_free fault at old new file result (inr (stopped, inr is)) busy = let clash : statuses.OutOfMemory ≡ statuses.Busy = sym is ∙ busy in cc
