-- Why a part is not added.
use Rattle.std.proofs.Common.{◌≡◌, Bool, true, false, Some, None, refl, subst}
use Rattle.std.specs.Prelude.{Option, if◌then◌else◌}
use Rattle.sip_vector.specs.declared.update.Side.TheVariants.{First, Second}
use Rattle.sip_sketch.specs.Joining.{unlike}
use Rattle.sip_sketch.specs.Sketches.{SketchValues}
use Rattle.sip_sketch.specs.declared.unlike.Unlike.{Unlike}
use Rattle.sip_sketch.specs.declared.unlike.Unlike.TheVariants as reasons
use Rattle.sip_c.specs.Absorbing.{IsFor}
use Rattle.sip_c.specs.declared.refusal.Refusal.{Refusal}
use Rattle.sip_c.specs.declared.refusal.Refusal.TheVariants as refusals

-- some refusal is for it
abbrev HasOne : Unlike → Type 0
HasOne reason = (why : Refusal) × IsFor reason why

-- where there is a reason, some refusal is for it
abbrev Named : Option Unlike → Type 0
Named None = Unit {0}
Named (Some reason) = HasOne reason

first_named : (a b c d e f : Bool)
    → Named (if a then Some reasons.Shape else if b then Some reasons.Whole else if c then Some reasons.UsedSeat else if d then Some reasons.NotNext
    else if e then Some (reasons.Heavy First) else if f then Some (reasons.Heavy Second) else None)
first_named true b c d e f = (refusals.OtherShape, refl)
first_named false true c d e f = (refusals.Whole, refl)
first_named false false true d e f = (refusals.UsedSeat, refl)
first_named false false false true e f = (refusals.NotNext, refl)
first_named false false false false true f = (refusals.TooHeavy, refl)
first_named false false false false false true = (refusals.TooHeavy, refl)
first_named false false false false false false = tt

-- each reason of a part has a refusal
pub named : (s part : SketchValues) (reason : Unlike) → unlike s part ≡ Some reason → HasOne reason
named s part reason is = subst Named is (first_named _ _ _ _ _ _)
