-- What the next part of a stream does to a sketch.
use Rattle.std.specs.Prelude.{◌≡◌, ◌++◌, List, Option, None, Some, Err, MatchResult}
use Rattle.sip_vector.specs.declared.update.Update.{Update}
use Rattle.sip_sketch.specs.Joining.{added, unlike}
use Rattle.sip_sketch.specs.Sketches.{SketchValues}
use Rattle.sip_sketch.specs.Standing.{Stands}
use Rattle.sip_sketch.specs.declared.unlike.Unlike.{Unlike}
use Rattle.sip_sketch.specs.declared.unlike.Unlike.TheVariants as reasons
use Rattle.sip_c.specs.Handles.{OnSketch, Through}
use Rattle.sip_c.specs.Statuses.{Answer}
use Rattle.sip_c.specs.declared.kept.Kept.{Kept}
use Rattle.sip_c.specs.declared.kept.Kept.TheVariants as kept
use Rattle.sip_c.specs.declared.refusal.Refusal.{Refusal}
use Rattle.sip_c.specs.declared.refusal.Refusal.TheVariants as refusals

-- the refusal is for this reason
abbrev pub IsFor : Unlike → Refusal → Type 0
IsFor reasons.Shape why = why ≡ refusals.OtherShape
IsFor reasons.Whole why = why ≡ refusals.Whole
IsFor reasons.UsedSeat why = why ≡ refusals.UsedSeat
IsFor reasons.NotNext why = why ≡ refusals.NotNext
IsFor (reasons.Heavy side) why = why ≡ refusals.TooHeavy
IsFor reasons.Missing why = ⊥
IsFor reasons.Fewer why = ⊥

-- the sketch has the part too, and stands for both streams
pub record HasAdded (s part t : SketchValues) : Type 0 where
  pub like : unlike s part ≡ None
  pub added : t ≡ added s part
  pub stands : (stream more : List Update) → Stands stream s → Stands more part
      → Stands (stream ++ more) t

-- or it stays as it was, and that is why
abbrev pub Absorbs : SketchValues → SketchValues → Answer → SketchValues → Type 0
Absorbs part s answer t = MatchResult answer
    (λ _. HasAdded s part t)
    (λ why. (t ≡ s) × ((reason : Unlike) × (unlike s part ≡ Some reason) × IsFor reason why))

-- of two sketches this holds, the first of which stays one; what is none stays as it was
abbrev pub OnSketches : (SketchValues → SketchValues → Answer → SketchValues → Type 0) → Kept → Kept
    → Answer → Kept → Type 0
OnSketches P (kept.Sketch part) old answer new = OnSketch (Unit {0}) (P part) old answer new
OnSketches P _ old answer new = (answer ≡ Err refusals.OtherHandle) × (new ≡ old)

-- The part that a handle has comes to the sketch that another one has. The first handle stays as it
-- was; where it is empty so does the other, which is an answer.
abbrev pub AbsorbsIn : Option Kept → Option Kept → Option Kept → Answer → Option Kept → Type 0
AbsorbsIn None part' old answer new = (answer ≡ Err refusals.Empty) × (part' ≡ None) × (new ≡ old)
AbsorbsIn (Some part) part' old answer new =
    (part' ≡ Some part) × Through (Unit {0}) (OnSketches Absorbs part) old answer new
