-- What a call did that adds up the parts of a stream in the sketch of a desk.
use Rattle.std.specs.Prelude.{◌≡◌, ◌⊎◌, ℕ, zero, suc, ◌+◌, ◌<◌, ◌≤◌, nat_lt, true, false, not}
use Rattle.std.specs.Prelude.{◌||◌, ⊤}
use Rattle.std.specs.Prelude.{List, [], ◌∷◌, length, take, flat_map, All, None, Some}
use Rattle.std.specs.Prelude.{if◌then◌else◌}
use Rattle.std.specs.List.{AllZip}
use Rattle.std.specs.declared.option.Option.{Option}
use Rattle.sip_ports.specs.Desk.{Loads, steps}
use Rattle.sip_ports.specs.Ports.{GoesOn}
use Rattle.sip_ports.specs.declared.port.TalkEvent.{TalkEvent}
use Rattle.sip_vector.specs.declared.tally.Tally.{Tally}
use Rattle.sip_vector.specs.declared.update.Update.{Update}
use Rattle.sip_sketch.specs.Files.{Finds}
use Rattle.sip_sketch.specs.Joining.{added, any_used, is_whole, same_shape, unlike}
use Rattle.sip_sketch.specs.Loaded.{IsBadFile}
use Rattle.sip_sketch.specs.Sketches.{IsSketch, SeatValues, SketchValues, spelled_file}
use Rattle.sip_sketch.specs.Standing.{Stands}
use Rattle.sip_sketch.specs.declared.parts.Parts.{Parts}
use Rattle.sip_sketch.specs.declared.status.SketchPort.TheVariants as ports
use Rattle.sip_sketch.specs.declared.status.SketchStatus.{SketchStatus}
use Rattle.sip_sketch.specs.declared.status.SketchStatus.TheVariants as statuses
use Rattle.sip_sketch.specs.declared.unlike.Unlike.{Unlike}
use Rattle.sip_sketch.specs.declared.unlike.Unlike.TheVariants as reasons

-- ---- what the parts add up to, in the place of a sketch that there may be

-- each used seat of the sketch in the place of the part's
abbrev pub seats_in_place : List SeatValues → List SeatValues → List SeatValues
seats_in_place [] seats = seats
seats_in_place (was ∷ others) [] = []
seats_in_place (was ∷ others) (s ∷ seats) =
    (if was.is_used then was else s) ∷ seats_in_place others seats

-- the first part, but for the seats that questions have used
abbrev pub in_place : Option SketchValues → SketchValues → SketchValues
in_place None part = part
in_place (Some sketch) part = record {
  depth = part.depth;
  parts = part.parts;
  tally = part.tally;
  seats = seats_in_place sketch.seats part.seats;
}

-- why the first part is refused, whatever the sketch
abbrev pub unfit : SketchValues → Option Unlike
unfit part =
    if is_whole part.parts then Some reasons.Whole
    else if any_used part.seats then Some reasons.UsedSeat
    else None

-- Why it is not the first of a sum: the first of these reasons that there is, or none. It is the
-- next of no part, and alone it is never too heavy.
abbrev pub unlike_first : Option SketchValues → SketchValues → Option Unlike
unlike_first None part = unfit part
unlike_first (Some sketch) part =
    if not (same_shape sketch part) then Some reasons.Shape else unfit part

-- each of these parts is the next one, and this is the sum with them
abbrev pub Joins : SketchValues → List SketchValues → SketchValues → Type 0
Joins before [] sum = sum ≡ before
Joins before (part ∷ parts) sum = (unlike before part ≡ None) × Joins (added before part) parts sum

-- This is the sum of the parts. A used seat of the sketch stays as it was: no part is added to it.
abbrev pub Sums : Option SketchValues → List SketchValues → SketchValues → Type 0
Sums sketch [] sum = ⊥
Sums sketch (first ∷ parts) sum =
    (unlike_first sketch first ≡ None) × Joins (in_place sketch first) parts sum

-- these parts have a sum, or there is none of them yet
abbrev pub AddUp : Option SketchValues → List SketchValues → Type 0
AddUp sketch [] = ⊤
AddUp sketch (first ∷ parts) = (sum : SketchValues) × Sums sketch (first ∷ parts) sum

-- why a part is not added to these
abbrev pub IsUnlike : Option SketchValues → List SketchValues → SketchValues → Unlike → Type 0
IsUnlike sketch [] part why = unlike_first sketch part ≡ Some why
IsUnlike sketch (first ∷ parts) part why =
    (sum : SketchValues) × Sums sketch (first ∷ parts) sum × (unlike sum part ≡ Some why)

-- Why a sum doesn't take the place of a sketch with these parts in, of whose stream this is told: a
-- part is in that is not in the sum, or the sum has less.
abbrev pub lacks : Parts → Tally → SketchValues → Option Unlike
lacks parts told sum =
    if nat_lt parts.first sum.parts.first || nat_lt sum.parts.last parts.last
    then Some reasons.Missing
    else if nat_lt sum.tally.count told.count || (nat_lt sum.tally.first told.first
    || nat_lt sum.tally.second told.second)
    then Some reasons.Fewer
    else None

abbrev pub lacks_of : Option SketchValues → SketchValues → Option Unlike
lacks_of None sum = None
lacks_of (Some sketch) sum = lacks sketch.parts sketch.tally sum

-- A seat is used exactly where the sketch had a used one, which it is then, with its numbers.
abbrev pub HasUsed : Option SketchValues → SketchValues → Type 0
HasUsed None sum = All (λ seat. seat.is_used ≡ false) sum.seats
HasUsed (Some sketch) sum = AllZip (λ was now. (now.is_used ≡ was.is_used)
    × (was.is_used ≡ true → now ≡ was)) sketch.seats sum.seats

-- ---- all that is done, over these files, a file that started so, and a desk with this talk

-- the part of this number was loaded
pub record IsPart (files : Option (ℕ → Option (List ℕ))) (number : ℕ) (part : SketchValues)
    : Type 0 where
  pub is : IsSketch part
  pub found : Finds files number (Some (spelled_file part))

-- these are the parts from this number on
abbrev pub AreParts : Option (ℕ → Option (List ℕ)) → ℕ → List SketchValues → Type 0
AreParts files number [] = ⊤
AreParts files number (part ∷ parts) = IsPart files number part × AreParts files (number + 1) parts

-- this sketch was loaded, or none, where the file is missing
abbrev pub IsThere : Option (List ℕ) → Option (List TalkEvent) → Option SketchValues → Type 0
IsThere start talk None = Loads start talk None
IsThere start talk (Some sketch) = IsSketch sketch × Loads start talk (Some (spelled_file sketch))

module _ (files : Option (ℕ → Option (List ℕ))) (count : ℕ) (start : Option (List ℕ))
    (old : Option (List TalkEvent)) where
  -- The parts before the one of this number were loaded, each tested before the next one, and added
  -- up; and so this one is the next to be loaded.
  pub record IsNext (number : ℕ) (sketch : Option SketchValues) (parts : List SketchValues)
      : Type 0 where
    pub there : IsThere start old sketch
    pub place : number ≡ length parts + 1
    pub within : number ≤ count
    pub loaded : AreParts files 1 parts
    pub add_up : AddUp sketch parts

  -- All parts were loaded, and this is their sum.
  pub record IsSum (sketch : Option SketchValues) (parts : List SketchValues) (sum : SketchValues)
      : Type 0 where
    pub there : IsThere start old sketch
    pub many : length parts ≡ count
    pub loaded : AreParts files 1 parts
    pub sums : Sums sketch parts sum

  -- It takes the place of the sketch.
  pub record IsNew (sketch : Option SketchValues) (parts : List SketchValues) (sum : SketchValues)
      : Type 0 where
    pub summed : IsSum sketch parts sum
    pub full : lacks_of sketch sum ≡ None
    pub is : IsSketch sum
    pub used : HasUsed sketch sum
    pub stands : (streams : List (List Update)) → AllZip Stands streams parts
        → Stands (flat_map (λ stream. stream) streams) sum

  -- so of some parts
  abbrev pub Next : ℕ → (Option SketchValues → List SketchValues → Type 0) → Type 0
  Next number holds = (sketch : Option SketchValues) × (parts : List SketchValues)
      × IsNext number sketch parts × holds sketch parts

  abbrev pub New : (SketchValues → Type 0) → Type 0
  New holds = (sketch : Option SketchValues) × (parts : List SketchValues) × (sum : SketchValues)
      × IsNew sketch parts sum × holds sum

  -- The file of this part was found to be no sketch. Part 0 is the sketch itself, which may be
  -- missing.
  abbrev pub IsBadPart : ℕ → ℕ → Type 0
  IsBadPart zero offset =
      (bytes : List ℕ) × Loads start old (Some bytes) × IsBadFile (Some bytes) offset
  IsBadPart (suc k) offset = Next (suc k) (λ sketch parts. (file : Option (List ℕ))
      × Finds files (suc k) file × IsBadFile file offset)

  -- This part is not added to those before, or it is the last one and the sum lacks something.
  abbrev pub IsRefused : ℕ → Unlike → Type 0
  IsRefused number why = Next number (λ sketch parts. (part : SketchValues)
      × IsPart files number part × IsUnlike sketch parts part why)
      ⊎ ((number ≡ count) × (sketch : Option SketchValues) × (parts : List SketchValues)
      × (sum : SketchValues) × IsSum sketch parts sum × (lacks_of sketch sum ≡ Some why))

  -- the sum was stored
  abbrev pub IsStored : Option (List TalkEvent) → Type 0
  IsStored new = New (λ sum. GoesOn old new (steps (spelled_file sum)))

  -- storing it stopped before its last step
  abbrev pub IsCut : Option (List TalkEvent) → Type 0
  IsCut new = New (λ sum. (n : ℕ) × (n < length (steps (spelled_file sum)))
      × GoesOn old new (take n (steps (spelled_file sum))))

  -- What was loaded at this status, and what was stored.
  abbrev pub Merges : Option (List TalkEvent) → SketchStatus → Type 0
  Merges new statuses.Wrote = IsStored new
  Merges new (statuses.BadSketch number offset) = IsBadPart number offset × GoesOn old new []
  Merges new statuses.Busy = GoesOn old new []
  Merges new (statuses.Unlike number why) = IsRefused number why × GoesOn old new []
  Merges new (statuses.ReadFault ports.Sketch) = GoesOn old new []
  Merges new (statuses.ReadFault (ports.Part number)) =
      Next number (λ sketch parts. ⊤) × GoesOn old new []
  Merges new (statuses.WriteFault ports.Sketch) = IsCut new
  Merges new statuses.OutOfMemory = GoesOn old new [] ⊎ IsCut new
  Merges new _ = ⊥

  -- ---- crashes

  -- this is the file that the call stores, whole
  abbrev pub IsNewFile : Option (List ℕ) → Type 0
  IsNewFile content = New (λ sum. content ≡ Some (spelled_file sum))
