-- What an update by numbers does to a sketch.
use Rattle.std.specs.Prelude.{◌≡◌, ◌⊎◌, ℕ, true, List, [], ◌++◌, MatchResult}
use Rattle.std.specs.Prelude.{Option, Ok, Err}
use Rattle.std.specs.List.{AllZip}
use Rattle.sip_vector.specs.Tallies.{joined, tally}
use Rattle.sip_vector.specs.declared.update.Update.{Update}
use Rattle.sip_sketch.specs.Sketches.{SketchValues}
use Rattle.sip_sketch.specs.Standing.{IsKept, Stands}
use Rattle.sip_c.specs.Handles.{ThroughSketch}
use Rattle.sip_c.specs.Records.{ByRecords}
use Rattle.sip_c.specs.Statuses.{Answer}
use Rattle.sip_c.specs.Weighing.{CanCome, IsFirstBad, Place, updates_of}
use Rattle.sip_c.specs.declared.codes.UpdateCode.{UpdateCode}
use Rattle.sip_c.specs.declared.kept.Kept.{Kept}
use Rattle.sip_c.specs.declared.refusal.Refusal.TheVariants as refusals

-- where the stream of a sketch stands
abbrev pub place_of : SketchValues → Place
place_of s = record { depth = s.depth; first = s.tally.first; second = s.tally.second }

-- these updates came to the sketch: to what is told of its stream, and to each unused seat
pub record HasGrown (updates : List Update) (s t : SketchValues) : Type 0 where
  pub kept : IsKept s t
  pub told : t.tally ≡ joined s.tally (tally updates)
  pub used : AllZip (λ was now. was.is_used ≡ true → now ≡ was) s.seats t.seats
  pub stands : (stream : List Update) → Stands stream s → Stands (stream ++ updates) t

-- there are none; or they may come, and came
abbrev pub Comes : SketchValues → List UpdateCode → SketchValues → Type 0
Comes s codes t = ((codes ≡ []) × (t ≡ s))
    ⊎ (CanCome (place_of s) codes × HasGrown (updates_of codes) s t)

-- All of them come; or none where one of them may not, the first of which is told.
abbrev pub Updates : List UpdateCode → ℕ → ℕ → SketchValues → Answer → SketchValues → Type 0
Updates codes at at' s answer t = MatchResult answer
    (λ _. (at' ≡ at) × Comes s codes t)
    (λ why. (t ≡ s) × IsFirstBad (place_of s) codes at' why)

-- The updates that records of a form say come to what a handle has, as those of an array do. Where
-- there is no such form, or the bytes are no whole records, the handle stays as it was, which is an
-- answer.
abbrev pub UpdatesBy : ℕ → List ℕ → ℕ → ℕ → Option Kept → Answer → Option Kept → Type 0
UpdatesBy form bytes at at' old answer new = ByRecords form bytes
    (λ why. (answer ≡ Err why) × (new ≡ old) × (at' ≡ at))
    (λ codes. ThroughSketch (at' ≡ at) (Updates codes at at') old answer new)

-- the sketch stays as it was, whether there is memory for its tables or not
abbrev pub KeepsTables : SketchValues → Answer → SketchValues → Type 0
KeepsTables s (Ok done) t = t ≡ s
KeepsTables s (Err refusals.NoMemory) t = t ≡ s
KeepsTables s _ t = ⊥
