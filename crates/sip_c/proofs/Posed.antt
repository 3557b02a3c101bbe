-- A sketch that is asked in an empty handle.
use Rattle.std.proofs.Common.{◌≡◌, Ok, Err, Some, None, inl, inr}
use Rattle.std.specs.Prelude.{Option, OnOk, OnErr, IfErr}
use Rattle.sip_ask_steps.specs.declared.machine.SketchAsking.{SketchAsking}
use Rattle.sip_sketch.specs.Sketches.{SketchValues}
use Rattle.sip_c.specs.Posing.{AreSome, IsAsked, PosesFrom}
use Rattle.sip_c.specs.Statuses.{Answer}
use Rattle.sip_c.specs.declared.ending.Ending.{Ending}
use Rattle.sip_c.specs.declared.kept.Kept.{Kept}
use Rattle.sip_c.specs.declared.kept.Kept.TheVariants as kept
use Rattle.sip_c.specs.declared.questions.QuestionCode.{QuestionCode}
use Rattle.sip_c.specs.declared.refusal.Refusal.TheVariants as refusals
use mathlib.Core.List.{List}

-- it is there, or there was no memory for it
pub placed : (codes : List QuestionCode) (told told' : Ending) (s : SketchValues) (a : SketchAsking) (r : Answer) (new : Option Kept) → IsAsked s codes a → AreSome codes → told' ≡ told
    → OnOk r (new ≡ Some (kept.Asking a)) → OnErr r (new ≡ None) → IfErr r (λ why. why ≡ refusals.NoMemory) → PosesFrom codes told told' (kept.Sketch s) r new
placed codes told told' s a (Ok done) new asked some same given none why = ((a, given, asked), same)
placed codes told told' s a (Err x) new asked some same given none why = (none, inr (inr (inl (inl why, some, same))))
