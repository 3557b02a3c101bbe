-- The questions of a run behind its stream, in an empty handle, or why they are not asked.
use Rattle.std.proofs.Common.{◌≡◌, List, Ok, Err, Some, None, refl, sym, subst}
use Rattle.std.specs.Prelude.{Option, OnOk, OnErr, IfErr}
use Rattle.sip_ports.specs.declared.port.TalkEvent.{TalkEvent}
use Rattle.sip_vector.specs.declared.update.Update.{Update}
use Rattle.sip_verifier.specs.declared.status.Status.{Status}
use Rattle.sip_verifier.specs.declared.status.Status.TheVariants as statuses
use Rattle.sip_questions.specs.Questions.{first_refusal}
use Rattle.sip_runs.specs.Plans.{Plan}
use Rattle.sip_runs.specs.Runs.{IsFollowed, IsToBeAsked}
use Rattle.sip_runs.specs.declared.following.Following.{Following}
use Rattle.sip_runs.specs.declared.to_ask.ToAsk.{ToAsk}
use Rattle.sip_c.specs.RunAsking.{AsksBehind, TurnsTo, refusal_by, told_by}
use Rattle.sip_c.specs.Statuses.{Answer}
use Rattle.sip_c.specs.declared.ending.Ending.{Ending}
use Rattle.sip_c.specs.declared.kept.Kept.{Kept}
use Rattle.sip_c.specs.declared.kept.Kept.TheVariants as kept
use Rattle.sip_c.specs.declared.refusal.Refusal.{Refusal}
use Rattle.sip_c.specs.declared.refusal.Refusal.TheVariants as refusals
use Rattle.sip_c.specs.declared.run_asking.RunAsking.{RunAsking}

module _ (f : Following) (told : Ending) (new : Option Kept) where
  -- they are asked, or there was no memory for the handle
  pub asked_behind : (left : ToAsk) (a : RunAsking) (r : Answer) → TurnsTo 1 left a.left a.step
      → ((p : Plan) (stream : List Update) (events : List TalkEvent) → IsFollowed p stream events f → IsToBeAsked p stream left × (first_refusal stream 1 p.questions ≡ None))
      → OnOk r (new ≡ Some (kept.RunAsking a)) → OnErr r (new ≡ None) → IfErr r (λ why. why ≡ refusals.NoMemory) → AsksBehind f told told r new
  asked_behind left a (Ok done) turns of given none why =
      subst (AsksBehind f told told (Ok done)) (sym given) (refl, (left, turns, of))
  asked_behind left a (Err x) turns of given none why =
      subst (λ (w : Refusal). AsksBehind f told told (Err w) new) (sym why) (none, refl)

  -- this status stands against it
  pub refused_behind : (status : Status) → new ≡ None → ((p : Plan) (stream : List Update) (events : List TalkEvent) → IsFollowed p stream events f → first_refusal stream 1 p.questions ≡ Some status)
      → AsksBehind f told (told_by status told) (Err (refusal_by status)) new
  refused_behind (statuses.TooWide query) none of = (none, (statuses.TooWide query, refl, refl, of))
  refused_behind (statuses.TooHigh query) none of = (none, (statuses.TooHigh query, refl, refl, of))
  refused_behind _ none of = (none, refl)
