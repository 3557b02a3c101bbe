-- The file was stored, and the question is due.
use Rattle.std.proofs.Common.{◌≡◌, ◌++◌, sym, ap, subst, ◌∙◌}
use Rattle.sip_ask_steps.specs.Steps.{IsDone, Settles, at_step, stored_at, wants_at}
use Rattle.sip_ask_steps.specs.declared.machine.SketchAsking.{SketchAsking}
use Rattle.sip_ask_steps.specs.declared.step.Step.{Step}
use Rattle.sip_ask_steps.specs.declared.wants.Wants.TheVariants as wants
use Rattle.sip_ask_steps.proofs.Going.{done_none, storing_way, store_none}
use Rattle.sip_ask_steps.proofs.machine.SketchAsking.stored.Goals as goal

pub settle-requires : goal.settle-requires
settle-requires c =
    let (p, events, is) = c.requires.begun in
    let m = c.args.self.now in
    let way = storing_way p events m is c.in-Storing.asking (sym c.replace.ensures.value ∙ c.in-Storing.is) in
    record { settles = (p, events ++ stored_at m m.step, subst (Settles p (events ++ stored_at m m.step)) (sym c.go.ensures) way) }

pub returns-in-Storing-clause-done : goal.returns-in-Storing-clause-done
returns-in-Storing-clause-done c p events is =
    let m = c.args.self.now in
    let way = storing_way p events m is c.in-Storing.asking (sym c.replace.ensures.value ∙ c.in-Storing.is) in
    c.settle.ensures.done p (events ++ stored_at m m.step) (subst (Settles p (events ++ stored_at m m.step)) (sym c.go.ensures) way)

pub returns-in-Storing-clause-begun : goal.returns-in-Storing-clause-begun
returns-in-Storing-clause-begun c =
    let (p, events, is) = c.requires.begun in
    let m = c.args.self.now in
    (p, events ++ stored_at m m.step, returns-in-Storing-clause-done c p events is)

pub returns-in_default : goal.returns-in_default
returns-in_default c =
    let m = c.args.self.now in
    let none = store_none m m.step (λ a same. c.in_default.not-Storing a (c.replace.ensures.value ∙ same)) in
    let whole : c.go-in_default.new.self ≡ m = c.go-in_default.ensures ∙ ap (at_step m) c.replace.ensures.value in
    let (p, events, is) = c.requires.begun in
    record {
      begun = (p, events, subst (IsDone p events) (sym whole) is);
      on = subst (λ (s : Step). wants_at s ≡ wants.Stores → ⊥) (sym (ap (λ (x : SketchAsking). x.step) whole)) none.1;
      done = λ p events is. subst (IsDone p (events ++ stored_at m m.step)) (sym whole) (done_none p events (stored_at m m.step) m none.0 is);
    }
