use Rattle.std.proofs.Common.{Ok, Err, refl, sym, subst}
use Rattle.std.proofs.lemmas.Result.{err_from_is_err_and}
use Rattle.sip_c.specs.RunAsking.{GoesAt}
use Rattle.sip_c.specs.declared.refusal.Refusal.TheVariants as refusals
use Rattle.sip_c.specs.declared.run_asking.RunAsking.{RunAsking}
use Rattle.sip_c.specs.declared.run_asking.RunStep.{RunStep}
use Rattle.sip_c.specs.declared.run_asking.RunStep.TheVariants as at
use Rattle.sip_c.proofs.Going.{goes, stops}
use Rattle.sip_c.proofs.run_asking.RunAsking.next.Goals as goal

pub returns-in_err-self-clause-goes : goal.returns-in_err-self-clause-goes
returns-in_err-self-clause-goes c =
    let a = c.args.self.now in
    let b : RunAsking = record { left = c.turn.new.left; step = at.Stopped } in
    let talk = c.in-Question.talk in
    let e = err_from_is_err_and c.from_residual.result c.from_residual.ensures.1 in
    rw (e.1, e.2, c.in_err-self.ensures.why) (
    subst (λ (s : RunStep). GoesAt a s (Err refusals.NoMemory) b) (sym c.in-Question.is) (stops a b talk c.in-Some.number talk.said c.in-Some.ensures refl)
    )

pub returns-clause-goes : goal.returns-clause-goes
returns-clause-goes c =
    let a = c.args.self.now in
    let b : RunAsking = record { left = c.turn.new.left; step = c.in_ok-self.field-0 } in
    let talk = c.in-Question.talk in
    subst (λ (s : RunStep). GoesAt a s (Ok tt) b) (sym c.in-Question.is) (goes a b talk c.in-Some.number talk.said c.in-Some.ensures c.in_ok-self.ensures.turns)
