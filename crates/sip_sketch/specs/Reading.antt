-- How a file is read, part by part.
use Rattle.std.specs.Prelude.{◌≡◌, ℕ, ⊤, List, ◌++◌, Result, Ok, Err}
use Rattle.sip_sketch.specs.Fields.{Fields, reads}
use Rattle.sip_sketch.specs.Sketches.{SketchValues, numbers}
use Rattle.sip_sketch.specs.declared.cursor.Cursor.{Cursor}
use Rattle.sip_sketch.specs.declared.fault.SketchFault.{SketchFault}
use Rattle.sip_sketch.specs.declared.fault.SketchFault.TheVariants.{Bad, OutOfMemory}

-- the fault is that of what was read, or memory was refused
abbrev pub IsFaultOf : Result (List ℕ) ℕ → SketchFault → Type 0
IsFaultOf read (Bad offset) = read ≡ Err offset
IsFaultOf read OutOfMemory = ⊤

-- from one place to another these fields have these values, and those stand behind
pub record Passes (old new : Cursor) (fields behind : Fields) (found : List ℕ) : Type 0 where
  pub passes : (values : List ℕ) → reads old.bytes.now fields values old.at
      ≡ reads new.bytes.now behind (values ++ found) new.at

-- at a place there is this fault
pub record Faults (old : Cursor) (fields : Fields) (fault : SketchFault) : Type 0 where
  pub faults : (values : List ℕ) → IsFaultOf (reads old.bytes.now fields values old.at) fault

-- What stands in front of a place was read, or there is a fault. What was read has these numbers,
-- and says which fields stand behind it.
abbrev pub Takes : {T : Type 0} → Cursor → Cursor → Fields → (T → List ℕ) → (T → Fields)
    → Result T SketchFault → Type 0
Takes old new fields found behind (Ok t) = Passes old new fields (behind t) (found t)
Takes old new fields found behind (Err fault) = Faults old fields fault

-- the sketch is what was read, or there is its fault
abbrev pub Gives : Result (List ℕ) ℕ → Result SketchValues SketchFault → Type 0
Gives read (Ok sketch) = read ≡ Ok (numbers sketch)
Gives read (Err fault) = IsFaultOf read fault

-- the sketch is this one, or memory was refused
abbrev pub IsReadAs : SketchValues → Result SketchValues SketchFault → Type 0
IsReadAs sketch (Ok found) = found ≡ sketch
IsReadAs sketch (Err (Bad offset)) = ⊥
IsReadAs sketch (Err OutOfMemory) = ⊤
