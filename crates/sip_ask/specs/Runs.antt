-- Runs over one file, each of which may be cut off at any event.
use Rattle.std.specs.Prelude.{◌≡◌, ℕ, ◌-◌, ⊤, List, [], ◌∷◌, ◌++◌, length, take, flat_map, Some}
use Rattle.std.specs.Prelude.{All, Contains}
use Rattle.std.specs.List.{AllByRecursion}
use Rattle.std.specs.declared.option.Option.{Option}
use Rattle.sip_ports.specs.Desk.{may_hold, steps}
use Rattle.sip_ports.specs.declared.port.TalkEvent.{TalkEvent}
use Rattle.sip_wire.specs.declared.version.Version.{Version}
use Rattle.sip_sketch.specs.Sketches.{IsSketch, SketchValues, spelled_file}
use Rattle.sip_ask.specs.Marking.{KeepsUsed}
use Rattle.sip_ask.specs.Turns.{AreTurns, IsFarewell, IsOpening, Turn, places_said, turn_events}

-- What a run does from its beginning to its end: it stores files, or it asks, with what is said
-- before its first turn and behind the last one.
pub data Deed : Type 0 where
  stores : List (List ℕ) → Deed
  asks : List TalkEvent → List Turn → List TalkEvent → Deed

-- all of its events
abbrev pub events_of : Deed → List TalkEvent
events_of (stores files) = flat_map steps files
events_of (asks opened turns behind) = opened ++ (flat_map turn_events turns ++ behind)

-- a run: the content that it loaded, what it does, and how many of its events came
pub record Run : Type 0 where
  pub loaded : Option (List ℕ)
  pub deed : Deed
  pub count : ℕ

abbrev pub events_came : Run → List TalkEvent
events_came r = take r.count (events_of r.deed)

-- The file is that of a sketch in which no seat is unused that was used in the loaded one. Where no
-- sketch was loaded nothing is asked of it.
abbrev pub Follows : Option (List ℕ) → List ℕ → Type 0
Follows loaded file = (was : SketchValues) → IsSketch was → loaded ≡ Some (spelled_file was)
    → (now : SketchValues) × IsSketch now × (file ≡ spelled_file now) × KeepsUsed was now

-- It is done by a run that loaded this: one that asks has loaded a sketch, and says what it says of
-- questions in its turns alone.
abbrev pub IsDeed : Option (List ℕ) → Deed → Type 0
IsDeed loaded (stores files) = All (Follows loaded) files
IsDeed loaded (asks opened turns behind) = (s : SketchValues) × (version : Version) × IsSketch s
    × (loaded ≡ Some (spelled_file s)) × IsOpening version s opened × AreTurns s turns
    × IsFarewell version behind

-- a run behind this talk, over a file that started so: it has loaded a content that the file may
-- have had then
abbrev pub IsRun : Option (List ℕ) → List TalkEvent → Run → Type 0
IsRun start talk r = Contains (may_hold start talk) r.loaded × IsDeed r.loaded r.deed

-- runs, one behind the other
abbrev pub AreRuns : Option (List ℕ) → List TalkEvent → List Run → Type 0
AreRuns start talk [] = ⊤
AreRuns start talk (r ∷ runs) = IsRun start talk r × AreRuns start (talk ++ events_came r) runs

-- ---- seats

-- the seats of the turns of a run in which something was said
abbrev pub said_by : Deed → ℕ → List ℕ
said_by (stores files) count = []
said_by (asks opened turns behind) count = places_said (count - length opened) turns

abbrev pub said_in : Run → List ℕ
said_in r = said_by r.deed r.count

-- no number is one of both
abbrev pub AreApart : List ℕ → List ℕ → Type 0
AreApart places others = AllByRecursion (λ place. ¬ Contains others place) places

-- no number is there twice
abbrev pub AreDistinct : List ℕ → Type 0
AreDistinct [] = ⊤
AreDistinct (place ∷ places) = (¬ Contains places place) × AreDistinct places

-- no seat serves two questions, of one run or of two
abbrev pub NoSeatTwice : List Run → Type 0
NoSeatTwice [] = ⊤
NoSeatTwice (r ∷ runs) = AreDistinct (said_in r)
    × AllByRecursion (λ other. AreApart (said_in r) (said_in other)) runs × NoSeatTwice runs
