-- What adding up the parts did, before the sum was stored.
use Rattle.std.specs.Prelude.{◌≡◌, ◌⊎◌, ℕ, ◌+◌, ◌≤◌, ⊤, List, [], length, map, None, Some}
use Rattle.std.specs.Prelude.{if◌then◌else◌}
use Rattle.std.specs.declared.option.Option.{Option}
use Rattle.sip_ports.specs.Desk.{Loads}
use Rattle.sip_ports.specs.declared.port.TalkEvent.{TalkEvent}
use Rattle.sip_vector.specs.Streams.{most_weight}
use Rattle.sip_sketch.specs.Files.{Finds}
use Rattle.sip_sketch.specs.Joining.{unlike}
use Rattle.sip_sketch.specs.Merging.{AddUp, AreParts, IsPart, IsUnlike, Joins, Sums}
use Rattle.sip_sketch.specs.Sketches.{SeatValues, SketchValues}
use Rattle.sip_sketch.specs.declared.kind.SeatKind.{SeatKind}
use Rattle.sip_sketch.specs.declared.kind.SeatKind.TheVariants.{Above, Entries, Sums as SumsOf, Products}
use Rattle.sip_sketch.specs.declared.kind.SeatKind.TheVariants.{Heavy}
use Rattle.sip_sketch.specs.declared.status.SketchPort.TheVariants as ports
use Rattle.sip_sketch.specs.declared.status.SketchStatus.{SketchStatus}
use Rattle.sip_sketch.specs.declared.status.SketchStatus.TheVariants as statuses
use Rattle.sip_sketch.specs.declared.unlike.Unlike.{Unlike}
use Rattle.sip_sketch.specs.inside.Loading.{IsNoSketch, IsUnloaded, IsUnread}

-- ---- the first part

-- the seats of a sketch that there may be
abbrev pub seats_of : Option SketchValues → List SeatValues
seats_of None = []
seats_of (Some sketch) = sketch.seats

-- it has as many as these, if it is there
abbrev pub HasSeats : Option SketchValues → List SeatValues → Type 0
HasSeats None seats = ⊤
HasSeats (Some sketch) seats = length sketch.seats ≡ length seats

-- ---- a sum that is not whole yet

-- the second number of a seat of this kind before any update
abbrev pub second_at_first : SeatKind → ℕ
second_at_first Entries = 0
second_at_first (SumsOf side) = 0
second_at_first Products = 0
second_at_first (Heavy side) = most_weight
second_at_first (Above side) = 0

-- a seat, with the numbers of no update where it is used
abbrev pub cleared_seat : SeatValues → SeatValues
cleared_seat s = record {
  kind = s.kind;
  is_used = s.is_used;
  block = s.block;
  first = if s.is_used then 0 else s.first;
  second = if s.is_used then second_at_first s.kind else s.second;
}

-- A sum of some of the parts, so. A used seat has a total of the sketch, which may be above the
-- weight of the parts so far; in the end it is not.
abbrev pub cleared : SketchValues → SketchValues
cleared s = record {
  depth = s.depth;
  parts = s.parts;
  tally = s.tally;
  seats = map cleared_seat s.seats;
}

-- ---- loading

-- the file of the sketch was not loaded, or its bytes were not read
abbrev pub IsUnopened : Option (List ℕ) → Option (List TalkEvent) → SketchStatus → Type 0
IsUnopened start talk status = IsUnloaded status
    ⊎ ((bytes : List ℕ) × Loads start talk (Some bytes) × IsUnread 0 bytes status)

module _ (files : Option (ℕ → Option (List ℕ))) where
  -- the part of this number was not loaded, or what was loaded was not read
  abbrev pub IsNoPart : ℕ → SketchStatus → Type 0
  IsNoPart number status = (status ≡ statuses.ReadFault (ports.Part number))
      ⊎ ((status ≡ statuses.OutOfMemory)
      ⊎ ((file : Option (List ℕ)) × Finds files number file × IsNoSketch number file status))

  -- these parts from this number on were loaded and added up behind those before
  pub record AreJoined (from : ℕ) (before : SketchValues) (parts : List SketchValues)
      (sum : SketchValues) : Type 0 where
    pub loaded : AreParts files from parts
    pub joins : Joins before parts sum

  -- The part of this number was not added to those before: it was not loaded, or it is unlike them.
  abbrev pub IsNotAdded : ℕ → SketchStatus → (SketchValues → Unlike → Type 0) → Type 0
  IsNotAdded number status is_unlike = IsNoPart number status
      ⊎ ((part : SketchValues) × (why : Unlike) × IsPart files number part × is_unlike part why
      × (status ≡ statuses.Unlike number why))

  -- adding the parts behind the first stopped at one of them
  abbrev pub StopsWith : ℕ → SketchValues → SketchStatus → Type 0
  StopsWith count before status = (number : ℕ) × (parts : List SketchValues)
      × (sum : SketchValues) × AreJoined 2 before parts sum × (number ≡ length parts + 2)
      × (number ≤ count) × IsNotAdded number status (λ part why. unlike sum part ≡ Some why)

  -- The same of all parts, over a sketch that there may be.
  pub record ComesNext (count number : ℕ) (sketch : Option SketchValues)
      (parts : List SketchValues) : Type 0 where
    pub place : number ≡ length parts + 1
    pub within : number ≤ count
    pub loaded : AreParts files 1 parts
    pub add_up : AddUp sketch parts

  abbrev pub HaltsWith : ℕ → Option SketchValues → SketchStatus → Type 0
  HaltsWith count sketch status = (number : ℕ) × (parts : List SketchValues)
      × ComesNext count number sketch parts × IsNotAdded number status (IsUnlike sketch parts)

  -- all parts were added up
  pub record AreSummed (count : ℕ) (sketch : Option SketchValues) (sum : SketchValues)
      : Type 0 where
    pub all : List SketchValues
    pub many : length all ≡ count
    pub loaded : AreParts files 1 all
    pub sums : Sums sketch all sum
