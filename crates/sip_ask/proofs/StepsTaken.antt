-- Steps of an ask, seen from the sketch that was loaded.
use Rattle.std.proofs.Common.{◌≡◌, ℕ, List, Option, Result, subst}
use Rattle.std.specs.Prelude.{Err, IfErr}
use Rattle.sip_ports.specs.declared.port.TalkEvent.{TalkEvent}
use Rattle.sip_vector.specs.declared.tally.Tally.{Tally}
use Rattle.sip_vector.specs.declared.update.Update.{Update}
use Rattle.sip_wire.specs.declared.version.Version.{Version}
use Rattle.sip_questions.specs.Questions.{asking}
use Rattle.sip_questions.specs.declared.question.Question.{Question}
use Rattle.sip_sketch.specs.Sketches.{SketchValues}
use Rattle.sip_ask.specs.Asking.{AsksAll, StoresFirst}
use Rattle.sip_ask.specs.Causes.{IsStop}
use Rattle.sip_ask.specs.declared.status.AskStatus.{AskStatus}
use Rattle.sip_ask.specs.inside.Opening.{OpensWith}

-- what stopped an ask of questions is one of their endings
pub stops_so : (r : Result (Unit {0}) AskStatus) → IfErr r IsStop → (status : AskStatus) → r ≡ Err status → IsStop status
stops_so r stops status is = subst (λ (x : Result (Unit {0}) AskStatus). IfErr x IsStop) is stops

pub opens_as : (version v : Version) (depth d : ℕ) (told t : Tally) → version ≡ v → depth ≡ d → told ≡ t → (old new : Option (List TalkEvent)) (r : Result (Unit {0}) AskStatus)
    → OpensWith version depth told old new r → OpensWith v d t old new r
opens_as version v depth d told t same_version same_depth same_tally old new r opens =
    subst (λ (x : Version). OpensWith x d t old new r) same_version
    (subst (λ (x : ℕ). OpensWith version x t old new r) same_depth
    (subst (λ (x : Tally). OpensWith version depth x old new r) same_tally opens))

module _ (version v : Version) (own s : SketchValues) (taken places : List (Option ℕ)) (same_version : version ≡ v) (same_sketch : own ≡ s) (same_places : taken ≡ places)
    (old new : Option (List TalkEvent)) where
  pub stores_as : StoresFirst version own taken old new → StoresFirst v s places old new
  stores_as stores =
      subst (λ (x : Version). StoresFirst x s places old new) same_version
      (subst (λ (x : SketchValues). StoresFirst version x places old new) same_sketch
      (subst (λ (x : List (Option ℕ)). StoresFirst version own x old new) same_places stores))

  pub asks_as : (stream : List Update) (asked : List Question) (blank full : Option (List TalkEvent)) (result : Result (Unit {0}) AskStatus)
      → AsksAll version (asking version own.depth stream) own 1 asked taken old new blank full result
      → AsksAll v (asking v s.depth stream) s 1 asked places old new blank full result
  asks_as stream asked blank full result asks =
      subst (λ (x : Version). AsksAll x (asking x s.depth stream) s 1 asked places old new blank full result) same_version
      (subst (λ (x : SketchValues). AsksAll version (asking version x.depth stream) x 1 asked places old new blank full result) same_sketch
      (subst (λ (x : List (Option ℕ)). AsksAll version (asking version own.depth stream) own 1 asked x old new blank full result) same_places asks))
