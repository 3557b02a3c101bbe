-- What is due was sent: what a talk begins with, bytes of a question, or the farewell.
use Rattle.std.proofs.Common.{◌≡◌, ◌++◌, [], sym, ap, subst, rules}
use Rattle.sip_ports.specs.Ports.{GoesOn, outs}
use Rattle.sip_ports.proofs.TalkLemmas.{GoesOn-refl}
use Rattle.sip_ports.proofs.DeskLemmas.{IsOfLink-outs}
use Rattle.sip_steps.specs.Questioned.{due_of}
use Rattle.sip_ask_steps.specs.Steps as own
use Rattle.sip_ask_steps.specs.Steps.{IsDone}
use Rattle.sip_ask_steps.specs.declared.step.Step.{Step}
use Rattle.sip_ask_steps.proofs.Going.{asking_begun, asking_more, bye_fits, done_none, due_none, left_done, opened_done, sent_all}
use Rattle.sip_ask_steps.proofs.machine.SketchAsking.due.Goals as goal

pub due-requires : goal.due-requires
due-requires g c = let (p, events, is) = c.requires.begun in record { begun = asking_begun p events c.args.self.now is c.in-Asking.asking c.in-Asking.is }

pub settle-requires : goal.settle-requires
settle-requires g c =
    let (p, events, is) = c.requires.begun in
    let a = c.in-Asking.asking in
    record { settles = (p, events ++ outs (due_of a), asking_more p events c.args.self.now is a c.in-Asking.is (outs (due_of a)) c.due.new.self (IsOfLink-outs (due_of a)) c.in_ok-due-in-Asking.ensures.asked) }

pub encode-requires : goal.encode-requires
encode-requires g c = bye_fits c.args.self.now.version

pub returns-in_ok-recall-in-Opening-clause-done : goal.returns-in_ok-recall-in-Opening-clause-done
returns-in_ok-recall-in-Opening-clause-done g c p events is = rw c.go.ensures (opened_done p events c.args.self.now is c.in-Opening.is)

pub returns-in_ok-recall-in-Opening-clause-begun : goal.returns-in_ok-recall-in-Opening-clause-begun
returns-in_ok-recall-in-Opening-clause-begun g c =
    let (p, events, is) = c.requires.begun in
    (p, events ++ outs (own.due_of c.args.self.now), returns-in_ok-recall-in-Opening-clause-done g c p events is)

pub returns-in_ok-due-in-Asking-clause-done : goal.returns-in_ok-due-in-Asking-clause-done
returns-in_ok-due-in-Asking-clause-done g c p events is =
    let a = c.in-Asking.asking in
    let m = c.args.self.now in
    subst (λ (s : Step). IsDone p (events ++ outs (own.due_at m s)) c.settle.new.self) (sym c.in-Asking.is)
    (c.settle.ensures.done p (events ++ outs (due_of a)) (asking_more p events m is a c.in-Asking.is (outs (due_of a)) c.due.new.self (IsOfLink-outs (due_of a)) c.in_ok-due-in-Asking.ensures.asked))

pub returns-in_ok-due-in-Asking-clause-begun : goal.returns-in_ok-due-in-Asking-clause-begun
returns-in_ok-due-in-Asking-clause-begun g c =
    let (p, events, is) = c.requires.begun in
    (p, events ++ outs (own.due_of c.args.self.now), returns-in_ok-due-in-Asking-clause-done g c p events is)

pub returns-in_ok-due-in-Asking-clause-once : goal.returns-in_ok-due-in-Asking-clause-once
returns-in_ok-due-in-Asking-clause-once g c = λ due. sent_all c.due.new.self c.in_ok-due-in-Asking.ensures.once (c.settle.ensures.due due)

pub returns-in_ok-encode-in-Leaving-clause-done : goal.returns-in_ok-encode-in-Leaving-clause-done
returns-in_ok-encode-in-Leaving-clause-done g c p events is = rw c.go-in-Leaving.ensures (left_done p events c.args.self.now is c.in-Leaving.is)

pub returns-in_ok-encode-in-Leaving-clause-begun : goal.returns-in_ok-encode-in-Leaving-clause-begun
returns-in_ok-encode-in-Leaving-clause-begun g c =
    let (p, events, is) = c.requires.begun in
    (p, events ++ outs (own.due_of c.args.self.now), returns-in_ok-encode-in-Leaving-clause-done g c p events is)

pub returns-in_default : goal.returns-in_default
returns-in_default g c =
    let m = c.args.self.now in
    let none = due_none m m.step c.in_default.not-Opening c.in_default.not-Asking c.in_default.not-Leaving in
    let same : outs (own.due_of m) ≡ [] = ap outs none.0 in
    record {
      begun = c.requires.begun;
      talk = subst (GoesOn (g.L.Sink.talk c.args.out.now) (g.L.Sink.talk c.args.out.now)) (sym same) (GoesOn-refl (g.L.Sink.talk c.args.out.now));
      done = λ p events is. done_none p events (outs (own.due_of m)) m same is;
      once = none.1;
      same = tt;
      cause = search rules;
    }
