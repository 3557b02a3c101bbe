-- What a call read of its seed that begins a sketch, and what it did to the file.
use Rattle.std.proofs.Common.{◌≡◌, ℕ, ◌<◌, ◌≤◌, List, [], ◌++◌, length, take, Some, None, inl, inr, sym, ap, ◌∙◌, arith, append-nil, length-append, take_all, take_at}
use Rattle.std.proofs.lemmas.List.{length-take}
use Rattle.std.specs.Io.KnownBytes.{Consumes, IsAtEnd}
use Rattle.std.specs.declared.option.Option.{Option}
use Rattle.sip_ports.specs.Desk.{Loads, steps}
use Rattle.sip_ports.specs.Ports.{GoesOn}
use Rattle.sip_ports.specs.declared.port.TalkEvent.{TalkEvent}
use Rattle.sip_ports.proofs.TalkLemmas.{GoesOn-trans}
use Rattle.sip_sketch.specs.Beginnings.{Begins, IsFirstFile, IsSeedOf, IsShort}
use Rattle.sip_sketch.specs.declared.kind.SeatKind.{SeatKind}
use Rattle.sip_sketch.specs.declared.parts.Parts.{Parts}
use Rattle.sip_sketch.specs.declared.status.SketchPort.TheVariants as ports
use Rattle.sip_sketch.specs.declared.status.SketchStatus.{SketchStatus}
use Rattle.sip_sketch.specs.declared.status.SketchStatus.TheVariants as statuses
use Rattle.sip_sketch.specs.inside.Founding.{HasNoSeed, IsNotMissing}
use Rattle.sip_sketch.specs.inside.Storing.{Stores}

-- where 32 bytes came, they are the first ones
pub seed_of : (old new : Option (List ℕ)) (buf : List ℕ) (came : ℕ) → 32 ≤ came → length buf ≡ 32
    → Consumes old new (take came buf) → IsSeedOf old buf
seed_of None new buf came le size took = size
seed_of (Some xs) None buf came le size took = absurd took
seed_of (Some xs) (Some ys) buf came le size took =
    let all : take came buf ≡ buf = take_all came buf (omega arith) in
    let split : xs ≡ buf ++ ys = took ∙ ap (λ (b : List ℕ). b ++ ys) all in
    let long : 32 ≤ length xs = omega (arith, ap length split, length-append buf ys) in
    let front : take 32 xs ≡ buf = ap (take 32) split ∙ take_at buf ys 32 size in
    (long, sym front)

-- where fewer came, there are no more
pub short_of : (old new : Option (List ℕ)) (buf : List ℕ) (came : ℕ) → came < 32
    → Consumes old new (take came buf) → IsAtEnd new → IsShort old
short_of None new buf came less took end = tt
short_of (Some xs) None buf came less took end = absurd took
short_of (Some xs) (Some ys) buf came less took end =
    let split : xs ≡ take came buf =
    took ∙ ap (λ (b : List ℕ). take came buf ++ b) end ∙ append-nil (take came buf) in
    omega (arith, ap length split, length-take came buf)

-- what reading a seed needs of them
pub ruleset seeds = (seed_of, short_of)

-- the file was not found to be missing
pub not_missing : (depth : ℕ) (part : Parts) (kinds : List SeatKind) (left start : Option (List ℕ))
    (old new : Option (List TalkEvent)) (status : SketchStatus)
    → IsNotMissing start old status → GoesOn old new [] → Begins depth part kinds left start old new status
not_missing depth part kinds left start old new statuses.Exists why same = (why.0, why.1, same)
not_missing depth part kinds left start old new statuses.Busy why same = same
not_missing depth part kinds left start old new (statuses.ReadFault ports.Sketch) why same = same
not_missing depth part kinds left start old new statuses.OutOfMemory why same = inl same
not_missing depth part kinds left start old new statuses.Wrote why same = absurd why
not_missing depth part kinds left start old new (statuses.BadSketch number offset) why same = absurd why
not_missing depth part kinds left start old new statuses.BadSeed why same = absurd why
not_missing depth part kinds left start old new statuses.SeedSpent why same = absurd why
not_missing depth part kinds left start old new (statuses.BadStream at reason) why same = absurd why
not_missing depth part kinds left start old new (statuses.BadStart records is_sum) why same = absurd why
not_missing depth part kinds left start old new (statuses.Behind at) why same = absurd why
not_missing depth part kinds left start old new (statuses.Unlike number reason) why same = absurd why
not_missing depth part kinds left start old new (statuses.ReadFault ports.First) why same = absurd why
not_missing depth part kinds left start old new (statuses.ReadFault ports.Second) why same = absurd why
not_missing depth part kinds left start old new (statuses.ReadFault (ports.Part number)) why same = absurd why
not_missing depth part kinds left start old new (statuses.ReadFault ports.Report) why same = absurd why
not_missing depth part kinds left start old new (statuses.WriteFault port) why same = absurd why

-- it was, and there is no seed
pub no_seed : (depth : ℕ) (part : Parts) (kinds : List SeatKind) (left start : Option (List ℕ))
    (old new : Option (List TalkEvent)) (status : SketchStatus)
    → Loads start old None → GoesOn old new [] → HasNoSeed left status → Begins depth part kinds left start old new status
no_seed depth part kinds left start old new statuses.BadSeed none same why = (none, why, same)
no_seed depth part kinds left start old new (statuses.ReadFault ports.Second) none same why = (none, same)
no_seed depth part kinds left start old new statuses.OutOfMemory none same why = inl same
no_seed depth part kinds left start old new statuses.Wrote none same why = absurd why
no_seed depth part kinds left start old new statuses.Exists none same why = absurd why
no_seed depth part kinds left start old new (statuses.BadSketch number offset) none same why = absurd why
no_seed depth part kinds left start old new statuses.SeedSpent none same why = absurd why
no_seed depth part kinds left start old new statuses.Busy none same why = absurd why
no_seed depth part kinds left start old new (statuses.BadStream at reason) none same why = absurd why
no_seed depth part kinds left start old new (statuses.BadStart records is_sum) none same why = absurd why
no_seed depth part kinds left start old new (statuses.Behind at) none same why = absurd why
no_seed depth part kinds left start old new (statuses.Unlike number reason) none same why = absurd why
no_seed depth part kinds left start old new (statuses.ReadFault ports.First) none same why = absurd why
no_seed depth part kinds left start old new (statuses.ReadFault ports.Sketch) none same why = absurd why
no_seed depth part kinds left start old new (statuses.ReadFault (ports.Part number)) none same why = absurd why
no_seed depth part kinds left start old new (statuses.ReadFault ports.Report) none same why = absurd why
no_seed depth part kinds left start old new (statuses.WriteFault port) none same why = absurd why

-- a first file was stored, or that stopped
pub stored : (depth : ℕ) (part : Parts) (kinds : List SeatKind) (left start : Option (List ℕ))
    (old mid new : Option (List TalkEvent)) (file : List ℕ) (status : SketchStatus)
    → Loads start old None → GoesOn old mid [] → IsFirstFile depth part kinds left file
    → Stores mid new file status → Begins depth part kinds left start old new status
stored depth part kinds left start old mid new file statuses.Wrote none same first did =
    (none, record { file = file; first = first; talk = GoesOn-trans old mid new [] (steps file) same did })
stored depth part kinds left start old mid new file (statuses.WriteFault ports.Sketch) none same first did = (
  none,
  record {
    file = file;
    first = first;
    count = did.0;
    short = did.1;
    talk = GoesOn-trans old mid new [] (take did.0 (steps file)) same did.2;
  },
)
stored depth part kinds left start old mid new file statuses.OutOfMemory none same first did = inr (
  none,
  record {
    file = file;
    first = first;
    count = did.0;
    short = did.1;
    talk = GoesOn-trans old mid new [] (take did.0 (steps file)) same did.2;
  },
)
stored depth part kinds left start old mid new file statuses.Exists none same first did = absurd did
stored depth part kinds left start old mid new file (statuses.BadSketch number offset) none same first did = absurd did
stored depth part kinds left start old mid new file statuses.BadSeed none same first did = absurd did
stored depth part kinds left start old mid new file statuses.SeedSpent none same first did = absurd did
stored depth part kinds left start old mid new file statuses.Busy none same first did = absurd did
stored depth part kinds left start old mid new file (statuses.BadStream at why) none same first did = absurd did
stored depth part kinds left start old mid new file (statuses.BadStart records is_sum) none same first did = absurd did
stored depth part kinds left start old mid new file (statuses.Behind at) none same first did = absurd did
stored depth part kinds left start old mid new file (statuses.Unlike number why) none same first did = absurd did
stored depth part kinds left start old mid new file (statuses.ReadFault port) none same first did = absurd did
stored depth part kinds left start old mid new file (statuses.WriteFault ports.First) none same first did = absurd did
stored depth part kinds left start old mid new file (statuses.WriteFault ports.Second) none same first did = absurd did
stored depth part kinds left start old mid new file (statuses.WriteFault (ports.Part number)) none same first did = absurd did
stored depth part kinds left start old mid new file (statuses.WriteFault ports.Report) none same first did = absurd did

-- what begin needs of them
pub ruleset founding = (not_missing, no_seed, stored)
