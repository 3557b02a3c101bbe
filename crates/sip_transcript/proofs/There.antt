-- A field that has to be there.
use Rattle.std.proofs.Common.{◌≡◌, ℕ, Option, Some, None, Result, Ok, Err, List, refl, subst}
use Rattle.std.specs.Prelude.{⊤}
use Rattle.sip_ports.specs.declared.port.PortStop.{PortStop}
use Rattle.sip_ports.specs.declared.port.PortStop.TheVariants as stops
use Rattle.sip_transcript.specs.declared.fault.HeadFault.{HeadFault}
use Rattle.sip_transcript.specs.declared.fault.HeadFault.TheVariants as faults
use Rattle.sip_transcript.specs.Causes.{fault_of, there_of}
use Rattle.sip_transcript.specs.Fields.{Field}
use Rattle.sip_verifier.specs.Exchanges.{TakesAtMost}
use Rattle.sip_transcript.specs.Heads.{longest_field}
use Rattle.sip_transcript.specs.Parts.{ReadsField}

-- the field that begins at this place is not there, or the source stopped
abbrev pub IsNotThere : Field → ℕ → Option (List ℕ) → Option (List ℕ) → HeadFault → Type 0
IsNotThere field at old new (faults.Bad offset) =
    (offset ≡ at) × TakesAtMost longest_field old new × ((bytes : List ℕ) → old ≡ Some bytes → field bytes ≡ None)
IsNotThere field at old new faults.ReadFault = ⊤
IsNotThere field at old new faults.OutOfMemory = ⊤

-- a field that was read
pub there-ok : {T : Type 0} (r : Result (Option T) PortStop) (at : ℕ) (x : T) → Ok x ≡ there_of r at → r ≡ Ok (Some x)
there-ok (Ok (Some y)) at x e = cc
there-ok (Ok None) at x e = absurd cc
there-ok (Err stop) at x e = absurd cc

-- the fault that stands for a stop
stopped : (field : Field) (at : ℕ) (old new : Option (List ℕ)) (stop : PortStop) → IsNotThere field at old new (fault_of stop)
stopped field at old new stops.Failed = tt
stopped field at old new stops.OutOfMemory = tt

-- a field that was not
pub there-err : {T : Type 0} (field : Field) (spelled : T → List ℕ) (may : T → Type 0) (old new : Option (List ℕ)) (r : Result (Option T) PortStop) (at : ℕ) (f : HeadFault) → Err f ≡ there_of r at → ReadsField field spelled may old new r → IsNotThere field at old new f
there-err field spelled may old new (Ok (Some y)) at f e reads = absurd cc
there-err field spelled may old new (Ok None) at f e reads = let same : faults.Bad at ≡ f = cc in subst (IsNotThere field at old new) same (refl, reads.0, reads.1)
there-err field spelled may old new (Err stop) at f e reads = let same : fault_of stop ≡ f = cc in subst (IsNotThere field at old new) same (stopped field at old new stop)

-- the source failed
pub there-failed : {T : Type 0} (r : Result (Option T) PortStop) (at : ℕ) → Err faults.ReadFault ≡ there_of r at → r ≡ Err stops.Failed
there-failed (Ok (Some y)) at e = absurd cc
there-failed (Ok None) at e = absurd cc
there-failed (Err stops.Failed) at e = refl
there-failed (Err stops.OutOfMemory) at e = absurd cc

-- memory was refused to it
pub there-wanted : {T : Type 0} (r : Result (Option T) PortStop) (at : ℕ) → Err faults.OutOfMemory ≡ there_of r at → r ≡ Err stops.OutOfMemory
there-wanted (Ok (Some y)) at e = absurd cc
there-wanted (Ok None) at e = absurd cc
there-wanted (Err stops.Failed) at e = absurd cc
there-wanted (Err stops.OutOfMemory) at e = refl
