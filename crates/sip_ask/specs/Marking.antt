-- Sketches whose seats are used, and contents of the file in which one is.
use Rattle.std.specs.Prelude.{◌≡◌, ℕ, true, List, Some}
use Rattle.std.specs.List.{AllZip}
use Rattle.std.specs.declared.option.Option.{Option}
use Rattle.sip_sketch.specs.Sketches.{IsSketch, SketchValues, spelled_file}
pub use Rattle.sip_sketch.specs.Marking.{is_used_at, mark, used, used_at}

-- The seats of the one are those of the other, each with its kind and its challenges, and none that
-- was used is unused.
abbrev pub KeepsUsed : SketchValues → SketchValues → Type 0
KeepsUsed old new = AllZip (λ was now. (now.kind ≡ was.kind) × (now.block ≡ was.block)
    × (was.is_used ≡ true → now.is_used ≡ true)) old.seats new.seats

-- a content of the file: that of a sketch in which a question has used the seat at this place
pub record HasUsed (place : ℕ) (content : Option (List ℕ)) : Type 0 where
  pub sketch : SketchValues
  pub is : IsSketch sketch
  pub file : content ≡ Some (spelled_file sketch)
  pub used : is_used_at place sketch.seats ≡ true
