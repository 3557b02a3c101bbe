-- Why a file was not loaded or not read, as one of a few statuses.
use Rattle.std.proofs.Common.{◌≡◌, ◌⊎◌, ℕ, List, [], Option, None, Some, Err, inl, inr, refl, sym, ap}
use Rattle.std.specs.Option.{unwrap_or}
use Rattle.std.specs.Result.{result_err}
use Rattle.sip_sketch.specs.Fields.{read}
use Rattle.sip_sketch.specs.Loaded.{IsBadFile}
use Rattle.sip_sketch.specs.Sketches.{sketch_file}
use Rattle.sip_sketch.specs.declared.status.SketchPort.TheVariants as ports
use Rattle.sip_sketch.specs.declared.status.SketchStatus.{SketchStatus}
use Rattle.sip_sketch.specs.declared.status.SketchStatus.TheVariants as statuses
use Rattle.sip_sketch.specs.inside.Loading.{IsUnloaded, IsUnread}

pub unloaded_is : (status : SketchStatus) → IsUnloaded status → (status ≡ statuses.Busy) ⊎ ((status ≡ statuses.ReadFault ports.Sketch) ⊎ (status ≡ statuses.OutOfMemory))
unloaded_is statuses.Busy is = inl refl
unloaded_is (statuses.ReadFault ports.Sketch) is = inr (inl refl)
unloaded_is statuses.OutOfMemory is = inr (inr refl)
unloaded_is statuses.Wrote is = absurd is
unloaded_is statuses.Exists is = absurd is
unloaded_is (statuses.BadSketch part offset) is = absurd is
unloaded_is statuses.BadSeed is = absurd is
unloaded_is statuses.SeedSpent is = absurd is
unloaded_is (statuses.BadStream number why) is = absurd is
unloaded_is (statuses.BadStart records is_sum) is = absurd is
unloaded_is (statuses.Behind number) is = absurd is
unloaded_is (statuses.Unlike part why) is = absurd is
unloaded_is (statuses.ReadFault ports.First) is = absurd is
unloaded_is (statuses.ReadFault ports.Second) is = absurd is
unloaded_is (statuses.ReadFault (ports.Part number)) is = absurd is
unloaded_is (statuses.ReadFault ports.Report) is = absurd is
unloaded_is (statuses.WriteFault port) is = absurd is

-- the bytes of this part are no sketch from a byte on, or there was no memory for one
abbrev pub IsBadOr : ℕ → List ℕ → SketchStatus → Type 0
IsBadOr part bytes status = ((offset : ℕ) × (read sketch_file bytes ≡ Err offset) × (status ≡ statuses.BadSketch part offset)) ⊎ (status ≡ statuses.OutOfMemory)

pub unread_is : (part : ℕ) (bytes : List ℕ) (status : SketchStatus) → IsUnread part bytes status → IsBadOr part bytes status
unread_is part bytes (statuses.BadSketch number offset) (is, bad) = inl (offset, bad, ap (λ n. statuses.BadSketch n offset) is)
unread_is part bytes statuses.OutOfMemory is = inr refl
unread_is part bytes statuses.Wrote is = absurd is
unread_is part bytes statuses.Exists is = absurd is
unread_is part bytes statuses.BadSeed is = absurd is
unread_is part bytes statuses.SeedSpent is = absurd is
unread_is part bytes statuses.Busy is = absurd is
unread_is part bytes (statuses.BadStream number why) is = absurd is
unread_is part bytes (statuses.BadStart records is_sum) is = absurd is
unread_is part bytes (statuses.Behind number) is = absurd is
unread_is part bytes (statuses.Unlike number why) is = absurd is
unread_is part bytes (statuses.ReadFault port) is = absurd is
unread_is part bytes (statuses.WriteFault port) is = absurd is

-- a missing file is read as an empty one, which is bad from its first byte on
pub bad_file : (file : Option (List ℕ)) (offset : ℕ) → read sketch_file (unwrap_or file []) ≡ Err offset → IsBadFile file offset
bad_file None offset bad = sym (ap (λ r. unwrap_or (result_err r) 0) bad)
bad_file (Some bytes) offset bad = bad
