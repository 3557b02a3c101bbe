-- The other end closed: in what it holds, or in a question.
use Rattle.std.proofs.Common.{◌++◌, sym, subst}
use Rattle.sip_steps.specs.Questioned.{end_of}
use Rattle.sip_ask_steps.specs.Steps.{IsDone, end_at}
use Rattle.sip_ask_steps.specs.declared.step.Step.{Step}
use Rattle.sip_ask_steps.proofs.Going.{asking_begun, asking_more, closed_done, done_none, end_none}
use Rattle.sip_ask_steps.proofs.Settling.{end_of_link}
use Rattle.sip_ask_steps.proofs.machine.SketchAsking.close.Goals as goal

pub close-requires : goal.close-requires
close-requires c = let (p, events, is) = c.requires.begun in record { begun = asking_begun p events c.args.self.now is c.in-Asking.asking c.in-Asking.is }

pub settle-requires : goal.settle-requires
settle-requires c =
    let (p, events, is) = c.requires.begun in
    let a = c.in-Asking.asking in
    record { settles = (p, events ++ end_of a, asking_more p events c.args.self.now is a c.in-Asking.is (end_of a) c.close.new.self (end_of_link a) c.close.ensures.asked) }

pub returns-in-Hearing-clause-done : goal.returns-in-Hearing-clause-done
returns-in-Hearing-clause-done c p events is = rw c.go.ensures (closed_done p events c.args.self.now is c.in-Hearing.is)

pub returns-in-Hearing-clause-begun : goal.returns-in-Hearing-clause-begun
returns-in-Hearing-clause-begun c =
    let (p, events, is) = c.requires.begun in
    (p, events ++ end_at c.args.self.now.step, returns-in-Hearing-clause-done c p events is)

pub returns-in-Asking-clause-done : goal.returns-in-Asking-clause-done
returns-in-Asking-clause-done c p events is =
    let a = c.in-Asking.asking in
    subst (λ (s : Step). IsDone p (events ++ end_at s) c.settle.new.self) (sym c.in-Asking.is)
    (c.settle.ensures.done p (events ++ end_of a) (asking_more p events c.args.self.now is a c.in-Asking.is (end_of a) c.close.new.self (end_of_link a) c.close.ensures.asked))

pub returns-in-Asking-clause-begun : goal.returns-in-Asking-clause-begun
returns-in-Asking-clause-begun c =
    let (p, events, is) = c.requires.begun in
    (p, events ++ end_at c.args.self.now.step, returns-in-Asking-clause-done c p events is)

pub returns-in_default : goal.returns-in_default
returns-in_default c =
    let none = end_none c.args.self.now.step c.in_default.not-Hearing c.in_default.not-Asking in
    record {
      begun = c.requires.begun;
      closed = none.1;
      done = λ p events is. done_none p events (end_at c.args.self.now.step) c.args.self.now none.0 is;
    }
