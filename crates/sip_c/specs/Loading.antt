-- What is loaded of the bytes of a sketch.
use Rattle.std.specs.Prelude.{◌≡◌, ℕ, List, Err}
use Rattle.sip_sketch.specs.Fields.{read}
use Rattle.sip_sketch.specs.Sketches.{IsSketch, SketchValues, sketch_file, spelled_file}
use Rattle.sip_c.specs.declared.refusal.Refusal.{Refusal}
use Rattle.sip_c.specs.declared.refusal.Refusal.TheVariants as refusals

-- the bytes are those of the sketch, and the offset was not written
pub record IsLoaded (bytes : List ℕ) (offset offset' : ℕ) (s : SketchValues) : Type 0 where
  pub is : IsSketch s
  pub spelled : bytes ≡ spelled_file s
  pub unwritten : offset' ≡ offset

-- they are none, and the offset is that of the first fault; or memory was refused
abbrev pub IsNone : List ℕ → ℕ → ℕ → Refusal → Type 0
IsNone bytes offset offset' refusals.BadSketch = read sketch_file bytes ≡ Err offset'
IsNone bytes offset offset' refusals.NoMemory = offset' ≡ offset
IsNone bytes offset offset' _ = ⊥
