-- Bytes came of what the other end holds, or of a question.
use Rattle.std.proofs.Common.{◌≡◌, ◌++◌, [], false, true, refl, sym, ◌∙◌, take, arith}
use Rattle.sip_ports.specs.Ports.{ins}
use Rattle.sip_ports.proofs.DeskLemmas.{IsOfLink-ins}
use Rattle.sip_ask_steps.proofs.Going.{asking_begun, asking_more, done_none, end_none}
use Rattle.sip_ask_steps.proofs.machine.SketchAsking.feed.Goals as goal

pub feed-taken-requires : goal.feed-taken-requires
feed-taken-requires c = let (p, events, is) = c.requires.begun in record { begun = asking_begun p events c.args.self.now is c.in-Asking.asking c.in-Asking.is }

pub settle-requires : goal.settle-requires
settle-requires c =
    let (p, events, is) = c.requires.begun in
    let came = ins (take c.feed-taken.result c.args.bytes.now) in
    record { settles = (p, events ++ came, asking_more p events c.args.self.now is c.in-Asking.asking c.in-Asking.is came c.feed-taken.new.self (IsOfLink-ins (take c.feed-taken.result c.args.bytes.now)) c.feed-taken.ensures.asked) }

pub returns-in-Hearing-clause-begun : goal.returns-in-Hearing-clause-begun
returns-in-Hearing-clause-begun c =
    let (p, events, is) = c.requires.begun in
    (p, events ++ ins (take c.hear.result c.args.bytes.now), c.hear.ensures.done p events is)

pub returns-in-Asking-clause-done : goal.returns-in-Asking-clause-done
returns-in-Asking-clause-done c p events is =
    let came = ins (take c.feed-taken.result c.args.bytes.now) in
    c.settle.ensures.done p (events ++ came) (asking_more p events c.args.self.now is c.in-Asking.asking c.in-Asking.is came c.feed-taken.new.self (IsOfLink-ins (take c.feed-taken.result c.args.bytes.now)) c.feed-taken.ensures.asked)

pub returns-in-Asking-clause-begun : goal.returns-in-Asking-clause-begun
returns-in-Asking-clause-begun c =
    let (p, events, is) = c.requires.begun in
    (p, events ++ ins (take c.feed-taken.result c.args.bytes.now), returns-in-Asking-clause-done c p events is)

pub returns-in_default : goal.returns-in_default
returns-in_default c =
    let none = end_none c.args.self.now.step c.in_default.not-Hearing c.in_default.not-Asking in
    record {
      begun = c.requires.begun;
      most = omega arith;
      all = λ hears. absurd (let no : false ≡ true = sym none.1 ∙ hears in cc);
      none = λ silent. refl;
      done = λ p events is. done_none p events [] c.args.self.now refl is;
    }
