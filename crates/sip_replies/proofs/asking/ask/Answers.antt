use Rattle.std.proofs.Common.{◌≡◌, true, refl, sym, ap, subst, ◌∙◌, arith}
use Rattle.std.specs.Prelude.{None, IsTrue}
use Rattle.sip_ports.proofs.FaultLemmas.{Lasts-refl, Lasts-trans, Lasts-of_HasCause}
use Rattle.sip_wire.specs.declared.version.Version.{Version}
use Rattle.sip_wire.specs.Spelling.{fits}
use Rattle.sip_replies.specs.declared.turn.Turn.{Turn}
use Rattle.sip_replies.specs.Following.{Follows, IsAt, is_due, is_open, left, verdict_of}
use Rattle.sip_replies.proofs.Ending.{Answers-port}
use Rattle.sip_replies.proofs.Stepping.{Follows-sent, IsInterrupted-unsent, Answers-verdict, Answers-stop, IsAt-sent, left_sent, open_of, due_of}
use Rattle.sip_replies.proofs.asking.ask.Given as given
use Rattle.sip_replies.proofs.asking.ask.Goals as goal
use Rattle.sip_replies.proofs.asking.ask.Goals.{In_default, After-sent}

pub loop-verdict-init : goal.loop-verdict-init
loop-verdict-init g c = record {
  version = c.begin-turn.ensures.version;
  follows = λ asked same stands. c.begin-turn.ensures.follows asked (g.Q.Request.message c.args.request.now) (g.L.Sink.talk c.args.link.now) (g.K.Sink.talk c.args.keep.now) c.args.places.now same stands;
  stood = λ asked stands is_open. ((g.C.Check.protocol asked).rules.start, stands);
  silent = c.begin-turn.ensures.silent;
  at = λ is_open. c.begin-turn.ensures.at;
  block = λ is_open. refl;
  lent = refl;
  places = refl;
  link = Lasts-refl g.L.Sink.faults g.L.Sink.wants g.L.Sink.is_sure c.args.link.now;
  keep = Lasts-refl g.K.Sink.faults g.K.Sink.wants g.K.Sink.is_sure c.args.keep.now;
}

pub returns-in-Some-clause-answers : goal.returns-in-Some-clause-answers
returns-in-Some-clause-answers g c asked same stands =
    let turn = c.loop-verdict.turn in
    Answers-verdict (g.C.Check.protocol asked) (g.Q.Request.message c.args.request.now) (g.C.Check.phase c.args.check.now).block (λ s. g.C.Check.stands asked s c.loop-verdict.check c.loop-verdict.places)
    (g.L.Sink.talk c.args.link.now) (g.L.Sink.talk c.loop-verdict.link) (g.K.Sink.talk c.args.keep.now) (g.K.Sink.talk c.loop-verdict.keep) c.loop-verdict.places turn.round turn.stage c.in-Some.verdict (sym c.in-Some.ensures)
    (c.loop-verdict.invariant.follows asked same stands).at

-- there is no verdict yet
none : (g : given.Over) (c : In_default g) → verdict_of c.loop-verdict.turn.stage ≡ None
none g c = sym c.verdict.ensures ∙ c.in_default.is

is_open_now : (g : given.Over) (c : In_default g) → is_open c.loop-verdict.turn.stage ≡ true
is_open_now g c = open_of c.loop-verdict.turn.stage (none g c)

is_due_now : (g : given.Over) (c : In_default g) → is_due c.loop-verdict.turn.stage ≡ true
is_due_now g c = due_of c.loop-verdict.turn.stage (none g c) c.loop-verdict.invariant.silent

pub send-requires-clause-due : goal.send-requires-clause-due
send-requires-clause-due g c = is_due_now g (goal.at.send-requires-clause-due g c).In_default

pub send-requires-clause-below : goal.send-requires-clause-below
send-requires-clause-below g c = (c.loop-verdict.invariant.at (is_open_now g (goal.at.send-requires-clause-below g c).In_default)).below

pub send-requires-clause-fits : goal.send-requires-clause-fits
send-requires-clause-fits g c = subst (λ (v : Version). IsTrue (fits v (g.Q.Request.message c.args.request.now))) (sym c.loop-verdict.invariant.version) c.requires.fits

pub returns-in_err-send-clause-answers : goal.returns-in_err-send-clause-answers
returns-in_err-send-clause-answers g c asked same stands =
    let at = goal.at.returns-in_err-send-clause-answers g c in
    let P = g.C.Check.protocol asked in
    let request = g.Q.Request.message c.args.request.now in
    let block = (g.C.Check.phase c.args.check.now).block in
    let talk = c.in_err-send.ensures.talk in
    Answers-port P request block (g.L.Sink.talk c.args.link.now) (g.L.Sink.talk c.send.new.link) (g.K.Sink.talk c.args.keep.now) (g.K.Sink.talk c.loop-verdict.keep) c.loop-verdict.places c.from_residual.result c.in_err-send.field-0.0 c.from_residual.ensures.1
    (IsInterrupted-unsent P request block (λ s. g.C.Check.stands asked s c.loop-verdict.check c.loop-verdict.places) (g.L.Sink.talk c.args.link.now) (g.L.Sink.talk c.loop-verdict.link) (g.L.Sink.talk c.send.new.link) (g.K.Sink.talk c.args.keep.now) (g.K.Sink.talk c.loop-verdict.keep)
    c.loop-verdict.places c.loop-verdict.turn (c.loop-verdict.invariant.follows asked same stands) (is_due_now g at.In_default) talk.0 talk.2)

-- what was due was sent, and a reply is heard
sent_so : (g : given.Over) (c : After-sent g) (asked : g.C.Check.Asked) → (g.C.Check.protocol asked).rules.version ≡ c.args.version → g.C.Check.stands asked (g.C.Check.protocol asked).rules.start c.args.check.now c.args.places.now
    → Follows (g.C.Check.protocol asked) (g.Q.Request.message c.args.request.now) (g.C.Check.phase c.args.check.now).block (g.L.Sink.talk c.args.link.now) (g.L.Sink.talk c.send.new.link) (g.K.Sink.talk c.args.keep.now) (g.K.Sink.talk c.loop-verdict.keep)
    (λ s. g.C.Check.stands asked s c.loop-verdict.check c.loop-verdict.places) c.loop-verdict.places c.sent.new.self
sent_so g c asked same stands =
    let at = goal.at.After-sent g c in
    let P = g.C.Check.protocol asked in
    let request = g.Q.Request.message c.args.request.now in
    let block = (g.C.Check.phase c.args.check.now).block in
    let Stands = λ (s : g.C.Check.State). g.C.Check.stands asked s c.loop-verdict.check c.loop-verdict.places in
    subst (λ (t : Turn). Follows P request block (g.L.Sink.talk c.args.link.now) (g.L.Sink.talk c.send.new.link) (g.K.Sink.talk c.args.keep.now) (g.K.Sink.talk c.loop-verdict.keep) Stands c.loop-verdict.places t) (sym c.sent.ensures)
    (Follows-sent P request block Stands (g.L.Sink.talk c.args.link.now) (g.L.Sink.talk c.loop-verdict.link) (g.L.Sink.talk c.send.new.link) (g.K.Sink.talk c.args.keep.now) (g.K.Sink.talk c.loop-verdict.keep) c.loop-verdict.places c.loop-verdict.turn
    (c.loop-verdict.invariant.follows asked same stands) (is_due_now g at.In_default) c.in_ok-send.ensures.talk)

pub hear-requires-clause-hears : goal.hear-requires-clause-hears
hear-requires-clause-hears g c = ap (λ (t : Turn). t.stage) c.sent.ensures

pub hear-requires-clause-at : goal.hear-requires-clause-at
hear-requires-clause-at g c =
    let phase = g.C.Check.phase c.loop-verdict.check in
    subst (λ (t : Turn). IsAt t phase) (sym c.sent.ensures) (IsAt-sent c.loop-verdict.turn phase (c.loop-verdict.invariant.at (is_open_now g (goal.at.hear-requires-clause-at g c).In_default)))

pub hear-requires-clause-stood : goal.hear-requires-clause-stood
hear-requires-clause-stood g c =
    let stood = c.loop-verdict.invariant.stood c.requires.stood.0 c.requires.stood.1 (is_open_now g (goal.at.hear-requires-clause-stood g c).In_default) in
    (c.requires.stood.0, stood.0, stood.1)

pub returns-in_err-hear-clause-answers : goal.returns-in_err-hear-clause-answers
returns-in_err-hear-clause-answers g c asked same stands =
    let at = goal.at.returns-in_err-hear-clause-answers g c in
    let request = g.Q.Request.message c.args.request.now in
    let block = (g.C.Check.phase c.args.check.now).block in
    Answers-stop (g.C.Check.protocol asked) request block (g.L.Sink.talk c.args.link.now) (g.L.Sink.talk c.hear.new.link) (g.K.Sink.talk c.args.keep.now) (g.K.Sink.talk c.hear.new.keep) c.hear.new.places c.from_residual-in_err-hear.result c.in_err-hear.field-0.0
    c.from_residual-in_err-hear.ensures.1
    (c.in_err-hear.ensures.follows asked request block (g.L.Sink.talk c.args.link.now) (g.K.Sink.talk c.args.keep.now) (c.loop-verdict.invariant.block (is_open_now g at.In_default)) (sent_so g at.After-sent asked same stands))

pub loop-verdict-preserved : goal.loop-verdict-preserved
loop-verdict-preserved g c =
    let at = goal.at.loop-verdict-preserved g c in
    let open_before = is_open_now g at.In_default in
    let faults = g.L.Sink.faults in
    let wants = g.L.Sink.wants in
    let is_sure = g.L.Sink.is_sure in
    record {
      version = c.hear.ensures.version ∙ ap (λ (t : Turn). t.version) c.sent.ensures ∙ c.loop-verdict.invariant.version;
      follows = λ asked same stands. c.in_ok-hear.ensures.follows asked (g.Q.Request.message c.args.request.now) (g.C.Check.phase c.args.check.now).block (g.L.Sink.talk c.args.link.now) (g.K.Sink.talk c.args.keep.now)
          (c.loop-verdict.invariant.block open_before) (sent_so g at.After-sent asked same stands);
      stood = λ asked stands open_now. let stood = c.loop-verdict.invariant.stood asked stands open_before in c.in_ok-hear.ensures.stands asked stood.0 stood.1 open_now;
      silent = c.in_ok-hear.ensures.silent;
      at = c.in_ok-hear.ensures.at;
      block = λ open_now. c.in_ok-hear.ensures.block open_now ∙ c.loop-verdict.invariant.block open_before;
      lent = c.hear.ensures.lent ∙ c.loop-verdict.invariant.lent;
      places = c.hear.ensures.places ∙ c.loop-verdict.invariant.places;
      link = Lasts-trans faults wants is_sure c.args.link.now c.send.new.link c.hear.new.link
          (Lasts-trans faults wants is_sure c.args.link.now c.loop-verdict.link c.send.new.link c.loop-verdict.invariant.link (Lasts-of_HasCause faults wants is_sure c.loop-verdict.link c.send.new.link c.send.result c.send.ensures.cause)) c.hear.ensures.link;
      keep = Lasts-trans g.K.Sink.faults g.K.Sink.wants g.K.Sink.is_sure c.args.keep.now c.loop-verdict.keep c.hear.new.keep c.loop-verdict.invariant.keep c.hear.ensures.keep;
    }

pub loop-verdict-smaller : goal.loop-verdict-smaller
loop-verdict-smaller g c =
    let before = ap left c.sent.ensures ∙ left_sent c.loop-verdict.turn (is_due_now g (goal.at.loop-verdict-smaller g c).In_default) in
    let nearer = c.in_ok-hear.ensures.nearer in
    omega (arith, before, nearer)
