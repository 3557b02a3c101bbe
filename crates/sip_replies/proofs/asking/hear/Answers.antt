use Rattle.std.proofs.Common.{◌≡◌, ℕ, true, Result, Err, List, Option, sym, ap, subst, ◌∙◌}
use Rattle.sip_ports.specs.declared.port.TalkEvent.{TalkEvent}
use Rattle.sip_ports.proofs.FaultLemmas.{Lasts-trans}
use Rattle.sip_wire.specs.declared.message.Message.{Message}
use Rattle.sip_wire.specs.declared.version.Version.{Version}
use Rattle.sip_wire.specs.Frames.{frame_message}
use Rattle.sip_replies.specs.declared.asking.AskStop.{AskStop}
use Rattle.sip_replies.specs.declared.taking.ReplyStop.{ReplyStop}
use Rattle.sip_replies.specs.declared.turn.Stage.TheVariants as stages
use Rattle.sip_replies.specs.declared.turn.Turn.{Turn}
use Rattle.sip_replies.specs.Replies.{read_one}
use Rattle.sip_replies.specs.Asking.{stop_in_round, filled, Came, Shows, Takes, Answers}
use Rattle.sip_replies.specs.Following.{Follows, is_hearing}
use Rattle.sip_replies.proofs.Stepping.{at_stage, Answers-stopped, open_hearing, stops_so}
use Rattle.sip_replies.proofs.asking.hear.Given as given
use Rattle.sip_replies.proofs.asking.hear.Goals as goal
use Rattle.sip_replies.proofs.asking.hear.Goals.{In_ok-in_round, After-took}

pub returns-in_err-in_round-clause-follows : goal.returns-in_err-in_round-clause-follows
returns-in_err-in_round-clause-follows g c asked request block old before same follows =
    let P = g.C.Check.protocol asked in
    let turn = c.loop-turn.turn in
    let Stands = λ (s : g.C.Check.State). g.C.Check.stands asked s c.loop-turn.check c.loop-turn.places in
    let so_far = c.loop-turn.invariant.follows asked request block old before same follows in
    let hears = at_stage P request block Stands old (g.L.Sink.talk c.loop-turn.link) (g.L.Sink.talk c.receive.new.link) before (g.K.Sink.talk c.loop-turn.keep) c.loop-turn.places turn so_far stages.Hears
    (ap (λ (t : Turn). t.stage) c.loop-turn.invariant.turn ∙ c.requires.hears) in
    let s = hears.entered.state in
    let version = c.version.result in
    let place = c.place-place.result in
    let stop = c.in_err-in_round.ensures.same in
    let took = subst (λ (r : Result Unit ReplyStop). Takes version (read_one version place) (g.L.Sink.talk c.loop-turn.link) (g.L.Sink.talk c.receive.new.link) (g.K.Sink.talk c.loop-turn.keep) (g.K.Sink.talk c.receive.new.keep) (Shows version)
    (filled (frame_message c.receive.new.frame) r)) stop.1 c.receive.ensures.took in
    let answers = Answers-stopped P request block Stands turn.round old (g.L.Sink.talk c.loop-turn.link) (g.L.Sink.talk c.receive.new.link) before (g.K.Sink.talk c.loop-turn.keep) (g.K.Sink.talk c.receive.new.keep) hears version (so_far.version ∙ sym c.version.ensures)
    place (c.place-place.ensures asked s c.loop-turn.places hears.entered.stands) c.loop-turn.places stop.0 took in
    stops_so c.from_residual.result c.in_err-in_round.field-0.0 _ _ c.from_residual.ensures.1
    (subst (λ (e : AskStop). Answers P request block old (g.L.Sink.talk c.receive.new.link) before (g.K.Sink.talk c.receive.new.keep) c.loop-turn.places (Err e))
    (sym (stop.2 ∙ ap (λ (k : ℕ). stop_in_round k stop.0) c.round.ensures)) answers)

-- a frame came, with its message
came : (g : given.Over) (c : In_ok-in_round g) → (said : Message × List ℕ) × Came c.loop-turn.turn.version (read_one c.loop-turn.turn.version c.place-place.result) (g.L.Sink.talk c.loop-turn.link) (g.L.Sink.talk c.receive.new.link) (g.K.Sink.talk c.loop-turn.keep) (g.K.Sink.talk c.receive.new.keep) said
    × Shows c.loop-turn.turn.version (frame_message c.receive.new.frame) said
came g c =
    let m = frame_message c.receive.new.frame in
    let took = subst (λ (r : Result Unit ReplyStop). Takes c.version.result (read_one c.version.result c.place-place.result) (g.L.Sink.talk c.loop-turn.link) (g.L.Sink.talk c.receive.new.link) (g.K.Sink.talk c.loop-turn.keep) (g.K.Sink.talk c.receive.new.keep)
    (Shows c.version.result) (filled m r)) c.in_ok-in_round.ensures.same c.receive.ensures.took in
    subst (λ (v : Version). (said : Message × List ℕ) × Came v (read_one v c.place-place.result) (g.L.Sink.talk c.loop-turn.link) (g.L.Sink.talk c.receive.new.link) (g.K.Sink.talk c.loop-turn.keep) (g.K.Sink.talk c.receive.new.keep) said × Shows v m said) c.version.ensures took

-- and the turn took it
took_so : (g : given.Over) (c : After-took g) (asked : g.C.Check.Asked) (request : Message) (block : List ℕ) (old before : Option (List TalkEvent)) → (g.C.Check.phase c.args.check.now).block ≡ block
    → Follows (g.C.Check.protocol asked) request block old (g.L.Sink.talk c.args.link.now) before (g.K.Sink.talk c.args.keep.now) (λ s. g.C.Check.stands asked s c.args.check.now c.args.places.now) c.args.places.now c.args.turn.now
    → Follows (g.C.Check.protocol asked) request block old (g.L.Sink.talk c.receive.new.link) before (g.K.Sink.talk c.receive.new.keep) (λ s. g.C.Check.stands asked s c.took.new.check c.took.new.places) c.took.new.places c.took.new.self
took_so g c asked request block old before same follows =
    let at = goal.at.After-took g c in
    let came = came g at.In_ok-in_round in
    c.took.ensures.follows asked request block old (g.L.Sink.talk c.loop-turn.link) (g.L.Sink.talk c.receive.new.link) before (g.K.Sink.talk c.loop-turn.keep) (g.K.Sink.talk c.receive.new.keep) c.place-place.result came.0
    (λ s stands. c.place-place.ensures asked s c.loop-turn.places stands) (c.loop-turn.invariant.block ∙ same) (c.loop-turn.invariant.follows asked request block old before same follows) came.1
    (subst (λ (m : Message). Shows c.loop-turn.turn.version m came.0) (sym c.message.ensures) came.2)

pub returns-then-not-is_hearing-clause-follows : goal.returns-then-not-is_hearing-clause-follows
returns-then-not-is_hearing-clause-follows g c = took_so g (goal.at.returns-then-not-is_hearing-clause-follows g c).After-took

pub loop-turn-preserved : goal.loop-turn-preserved
loop-turn-preserved g c =
    let at = goal.at.loop-turn-preserved g c in
    let hearing : is_hearing c.took.new.self.stage ≡ true = sym c.is_hearing.ensures ∙ c.if-not-is_hearing.false in
    let is_open_now = open_hearing c.took.new.self.stage hearing in
    record {
      turn = c.took.ensures.same hearing ∙ c.loop-turn.invariant.turn;
      at = c.took.ensures.at is_open_now;
      block = c.took.ensures.block is_open_now ∙ c.loop-turn.invariant.block;
      stood = λ asked s stands. let before = c.loop-turn.invariant.stood asked s stands in c.took.ensures.stands asked before.0 before.1 is_open_now;
      follows = took_so g at.After-took;
      lent = c.took.ensures.lent ∙ c.loop-turn.invariant.lent;
      places = c.took.ensures.places ∙ c.loop-turn.invariant.places;
      link = Lasts-trans g.L.Sink.faults g.L.Sink.wants g.L.Sink.is_sure c.args.link.now c.loop-turn.link c.receive.new.link c.loop-turn.invariant.link c.receive.ensures.link;
      keep = Lasts-trans g.K.Sink.faults g.K.Sink.wants g.K.Sink.is_sure c.args.keep.now c.loop-turn.keep c.receive.new.keep c.loop-turn.invariant.keep c.receive.ensures.keep;
    }
