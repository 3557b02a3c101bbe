-- What is said of a question is no fault of a port, and where nothing is said yet bytes are due or
-- are to come.
use Rattle.std.proofs.Common.{◌≡◌, ℕ, Bool, true, false, not, if◌then◌else◌, Option, Some, None, Result, Ok, Err, List, refl, sym, ap, subst, ◌∙◌}
use Rattle.sip_vector.specs.declared.update.Entry.{Entry}
use Rattle.sip_wire.specs.declared.message.Reason.TheVariants as reasons
use Rattle.sip_replies.specs.declared.asking.AskStop.{AskStop}
use Rattle.sip_replies.specs.declared.check.Said.{Said}
use Rattle.sip_replies.specs.declared.check.Said.TheVariants as saids
use Rattle.sip_replies.specs.declared.turn.Stage.{Stage}
use Rattle.sip_replies.specs.declared.turn.Stage.TheVariants as stages
use Rattle.sip_replies.specs.Following.{is_due, is_hearing, is_open, verdict_of}
use Rattle.sip_verifier.specs.declared.asker.Unanswered.{Unanswered}
use Rattle.sip_verifier.specs.declared.asker.Unanswered.TheVariants as unanswered
use Rattle.sip_verifier.specs.runs.Askers.{has_failed}
use Rattle.sip_lookup.specs.declared.answer.LookAnswer.{LookAnswer}
use Rattle.sip_lookup.specs.declared.lookup.Lookup.{Lookup}
use Rattle.sip_lookup.specs.Lookups.{Looked, are_alone, stated_answer}
use Rattle.sip_lookup.specs.Sittings.{looked_of}
use Rattle.sip_steps.specs.declared.looking.LookStep.{LookStep}
use Rattle.sip_steps.specs.declared.looking.LookStep.TheVariants as steps
use Rattle.sip_steps.specs.declared.opening.Opening.{Opening}
use Rattle.sip_steps.specs.declared.opening.Opening.TheVariants as openings
use Rattle.sip_steps.specs.declared.question.QuestionAsking.{QuestionAsking}
use Rattle.sip_steps.specs.declared.question.QuestionAsking.TheVariants as askings
use Rattle.sip_steps.specs.Asked.{pairs_of}
use Rattle.sip_steps.specs.Looked as looks
use Rattle.sip_steps.specs.Looked.{SaysLooked, looked_at, looked_by, result_map}
use Rattle.sip_steps.specs.Posed.{asked_at, stage_at}
use Rattle.sip_steps.specs.Questioned.{given_of, is_due_at, is_hearing_at, is_open_at, look_given}
use Rattle.sip_steps.proofs.Questionings.{said_at}

-- ---- what is asked by one message

pub verdict_closes : (stage : Stage) (r : Result Said AskStop) → verdict_of stage ≡ Some r → is_open stage ≡ false
verdict_closes (stages.Said said) r is = refl
verdict_closes (stages.Rejected round reason) r is = refl
verdict_closes stages.Asks r is = absurd cc
verdict_closes stages.Hears r is = absurd cc
verdict_closes (stages.Reveals challenge) r is = absurd cc

stage_judged : (o : Opening) (stage : Stage) → is_open stage ≡ false → has_failed (given_of o (asked_at stage)) ≡ false
stage_judged (openings.Query query) (stages.Said (saids.Number n)) shut = refl
stage_judged (openings.Query query) (stages.Said (saids.Pairs found)) shut = refl
stage_judged (openings.Query query) (stages.Rejected round reason) shut = refl
stage_judged (openings.Moment moment) (stages.Said (saids.Number n)) shut = refl
stage_judged (openings.Moment moment) (stages.Said (saids.Pairs found)) shut = refl
stage_judged (openings.Moment moment) (stages.Rejected round reason) shut = refl
stage_judged (openings.Large large) (stages.Said said) shut = refl
stage_judged (openings.Large large) (stages.Rejected round reason) shut = refl
stage_judged o stages.Asks shut = absurd cc
stage_judged o stages.Hears shut = absurd cc
stage_judged o (stages.Reveals challenge) shut = absurd cc

pub posed_judged : (o : Opening) (stage : Stage) (asked : Result Said AskStop) → verdict_of stage ≡ Some asked → has_failed (given_of o asked) ≡ false
posed_judged o stage asked is = subst (λ (r : Result Said AskStop). has_failed (given_of o r) ≡ false) (said_at stage asked is) (stage_judged o stage (verdict_closes stage asked is))

-- ---- a lookup

alone_judged : (depth : ℕ) (looked : Looked) (b : Bool) → has_failed (if b then Ok looked else Err (unanswered.Rejected depth reasons.NotAlone)) ≡ false
alone_judged depth looked true = refl
alone_judged depth looked false = refl

proves_judged : (depth : ℕ) (lookup : Lookup) (found : Option ℕ) (entries : List Entry) (stage : Stage) → not (is_open stage) ≡ true → has_failed (looked_by depth lookup found entries (asked_at stage)) ≡ false
proves_judged depth lookup found entries (stages.Said (saids.Number n)) shut = refl
proves_judged depth lookup found entries (stages.Said (saids.Pairs count)) shut = alone_judged depth (stated_answer lookup entries) (are_alone lookup found entries)
proves_judged depth lookup found entries (stages.Rejected round reason) shut = refl
proves_judged depth lookup found entries stages.Asks shut = absurd cc
proves_judged depth lookup found entries stages.Hears shut = absurd cc
proves_judged depth lookup found entries (stages.Reveals challenge) shut = absurd cc

step_judged : (depth : ℕ) (lookup : Lookup) (step : LookStep) → looks.is_judged step ≡ true → has_failed (looked_at depth lookup step) ≡ false
step_judged depth lookup (steps.Place room is_asked) judged = absurd cc
step_judged depth lookup (steps.Refused reason) judged = refl
step_judged depth lookup (steps.Proves found a) judged = proves_judged depth lookup found (pairs_of a.turn.stage a.places.items) a.turn.stage judged

-- whose answer it is changes nothing of that
failed_as : (lookup : Lookup) (said : Result LookAnswer Unanswered) → has_failed (look_given lookup said) ≡ has_failed (result_map looked_of said)
failed_as lookup (Ok answer) = refl
failed_as lookup (Err (unanswered.Rejected round reason)) = refl
failed_as lookup (Err (unanswered.Fault fault)) = refl

pub sought_judged : (depth : ℕ) (lookup : Lookup) (step : LookStep) (said : Result LookAnswer Unanswered) → SaysLooked depth lookup step (Some said) → has_failed (look_given lookup said) ≡ false
sought_judged depth lookup step said says = failed_as lookup said ∙ ap has_failed says.1 ∙ step_judged depth lookup step says.0

-- ---- without a verdict

posed_on : (stage : Stage) → is_open stage ≡ true → is_due stage ≡ false → is_hearing stage ≡ true
posed_on stages.Hears still_open silent = refl
posed_on stages.Asks still_open silent = absurd cc
posed_on (stages.Reveals challenge) still_open silent = absurd cc
posed_on (stages.Said said) still_open silent = absurd cc
posed_on (stages.Rejected round reason) still_open silent = absurd cc

posed_quiet : (stage : Stage) → is_hearing stage ≡ true → is_due stage ≡ false
posed_quiet stages.Hears hears = refl
posed_quiet _ hears = absurd cc

open_of : (stage : Stage) → not (not (is_open stage)) ≡ true → is_open stage ≡ true
open_of stages.Asks twice = refl
open_of stages.Hears twice = refl
open_of (stages.Reveals challenge) twice = refl
open_of (stages.Said said) twice = absurd cc
open_of (stages.Rejected round reason) twice = absurd cc

-- bytes are due or to come
pub goes_on : (a : QuestionAsking) → is_open_at a ≡ true → is_due_at a ≡ false → is_hearing_at a ≡ true
goes_on (askings.Posed p) still_open silent = posed_on (stage_at p) still_open silent
goes_on (askings.Looked l) still_open silent = by_step l.step still_open silent
  where
    by_step : (step : LookStep) → not (looks.is_judged step) ≡ true → looks.is_due_at step ≡ false → looks.is_hearing_at step ≡ true
    by_step (steps.Place room true) still_open silent = refl
    by_step (steps.Place room false) still_open silent = absurd cc
    by_step (steps.Refused reason) still_open silent = absurd cc
    by_step (steps.Proves found a) still_open silent = posed_on a.turn.stage (open_of a.turn.stage still_open) silent

-- and not both
pub hears_only : (a : QuestionAsking) → is_hearing_at a ≡ true → is_due_at a ≡ false
hears_only (askings.Posed p) hears = posed_quiet (stage_at p) hears
hears_only (askings.Looked l) hears = by_step l.step hears
  where
    by_step : (step : LookStep) → looks.is_hearing_at step ≡ true → looks.is_due_at step ≡ false
    by_step (steps.Place room true) hears = refl
    by_step (steps.Place room false) hears = absurd cc
    by_step (steps.Refused reason) hears = absurd cc
    by_step (steps.Proves found a) hears = posed_quiet a.turn.stage hears
