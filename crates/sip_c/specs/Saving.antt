-- How a sketch is saved to a buffer.
use Rattle.std.specs.Prelude.{◌≡◌, ℕ, ◌<◌, ◌≤◌, List, ◌++◌, drop, length, Ok, Err}
use Rattle.sip_sketch.specs.Sketches.{SketchValues, size_of, spelled_file}
use Rattle.sip_c.specs.Statuses.{Answer}
use Rattle.sip_c.specs.declared.refusal.Refusal.TheVariants as refusals

-- its bytes are in front; or their number is told where there is no room for them
abbrev pub IsSaved : SketchValues → List ℕ → List ℕ → ℕ → ℕ → Answer → Type 0
IsSaved s to to' size size' (Ok done) =
    (size' ≡ size_of s) × (to' ≡ spelled_file s ++ drop (size_of s) to)
IsSaved s to to' size size' (Err refusals.NoRoom) =
    (size' ≡ size_of s) × (to' ≡ to) × (length to < size_of s)
IsSaved s to to' size size' (Err refusals.NoMemory) =
    (size' ≡ size) × (to' ≡ to) × (size_of s ≤ length to)
IsSaved s to to' size size' _ = ⊥

-- the sketch stays as it was
abbrev pub Saves : List ℕ → List ℕ → ℕ → ℕ → SketchValues → Answer → SketchValues → Type 0
Saves to to' size size' s answer t = (t ≡ s) × IsSaved s to to' size size' answer
