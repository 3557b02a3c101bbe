-- No answer is possible yet, or this is what came.
use Rattle.std.proofs.Common.{◌≡◌, false, Option, Result, Ok, Err, Some, sym, ap, subst, ◌∙◌}
use Rattle.sip_questions.specs.declared.asker.QuestionGiven.{QuestionGiven}
use Rattle.sip_verifier.specs.declared.asker.Unanswered.{Unanswered}
use Rattle.std.specs.Prelude.{IfSome}
use Rattle.sip_verifier.specs.runs.Askers.{has_failed}
use Rattle.sip_steps.specs.Questioned.{pairs_of}
use Rattle.sip_steps.specs.declared.question.QuestionAsking.{QuestionAsking}
use Rattle.sip_ask_steps.specs.Steps.{At, IsPast, SettlesAt}
use Rattle.sip_ask_steps.specs.Told.{IsTold}
use Rattle.sip_ask_steps.specs.declared.step.Step.TheVariants as steps
use Rattle.sip_ask_steps.proofs.Going.{none_of}
use Rattle.sip_ask_steps.proofs.Settling.{settled_given, settled_open, settled_stop}
use Rattle.sip_ask_steps.proofs.machine.SketchAsking.settle.Goals as goal

pub returns-in_default-verdict-clause-done : goal.returns-in_default-verdict-clause-done
returns-in_default-verdict-clause-done c p events is =
    let m = c.args.self.now in
    let a = c.in-Asking.asking in
    let way = subst (SettlesAt p events m) c.in-Asking.is is.1 in
    let none = none_of c.verdict.result c.in_default-verdict.not-Some in
    record {
      kept = is.0;
      at = subst (At p events m) (sym c.in-Asking.is)
          (settled_open p m.sketch m.number m.left.items events a (pairs_of a) way c.verdict.result (λ q stream said of asked. c.verdict.ensures.comes q stream said of asked) none c.verdict.ensures.open);
    }

pub returns-in-Ok-clause-done : goal.returns-in-Ok-clause-done
returns-in-Ok-clause-done c p events is =
    let m = c.args.self.now in
    let a = c.in-Asking.asking in
    let way = subst (SettlesAt p events m) c.in-Asking.is is.1 in
    let came : c.verdict.result ≡ Some (Ok c.in-Ok.given) = c.in-Some.is ∙ ap (λ x. Some x) c.in-Ok.is in
    let both : steps.Asking a ≡ steps.Asking c.in-Asking-replace.asking = sym c.in-Asking.is ∙ sym c.replace.ensures.value ∙ c.in-Asking-replace.is in
    let same : a ≡ c.in-Asking-replace.asking = cc in
    let told = settled_given p m.sketch m.number m.left.items events a (pairs_of a) way c.verdict.result (λ q stream said of asked. c.verdict.ensures.comes q stream said of asked) c.in-Ok.given came in
    rw c.go.ensures (record {
      kept = is.0;
      at = subst (λ (x : QuestionAsking). IsTold p events (pairs_of x) m.number c.in-Ok.given × IsPast p m.sketch m.number m.left.items events) same told;
    })

pub returns-in-Err-clause-done : goal.returns-in-Err-clause-done
returns-in-Err-clause-done c p events is =
    let m = c.args.self.now in
    let a = c.in-Asking.asking in
    let way = subst (SettlesAt p events m) c.in-Asking.is is.1 in
    let came : c.verdict.result ≡ Some (Err c.in-Err.why) = c.in-Some.is ∙ ap (λ x. Some x) c.in-Err.is in
    let ends = settled_stop p m.sketch m.number m.left.items events a (pairs_of a) way c.verdict.result (λ q stream said of asked. c.verdict.ensures.comes q stream said of asked) is.0.plan c.in-Err.why came in
    rw (c.go-in-Err.ensures, c.stopped_by.ensures) (record { kept = is.0; at = ends })

pub stopped_by-requires : goal.stopped_by-requires
stopped_by-requires c =
    let came : c.verdict.result ≡ Some (Err c.in-Err.why) = c.in-Some.is ∙ ap (λ x. Some x) c.in-Err.is in
    subst (λ (r : Option (Result QuestionGiven Unanswered)). IfSome r (λ said. has_failed said ≡ false)) came c.verdict.ensures.judged
