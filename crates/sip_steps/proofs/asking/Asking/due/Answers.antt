-- What is due goes out, and then bytes are to come.
use Rattle.std.proofs.Common.{◌≡◌, ◌++◌, true, List, ℕ, sym, subst, ◌∙◌, arith}
use Rattle.sip_ports.specs.Ports.{outs}
use Rattle.sip_wire.specs.Frames.{frame_bytes}
use Rattle.sip_replies.specs.declared.turn.Stage.TheVariants.{Hears}
use Rattle.sip_replies.specs.declared.turn.Turn.{Turn}
use Rattle.sip_wire.specs.Taking.{room_for}
use Rattle.sip_replies.specs.Feeding.{IsFed}
use Rattle.sip_replies.specs.Following.{is_due}
use Rattle.sip_replies.proofs.Stepping.{IsAt-sent}
use Rattle.sip_steps.specs.Asked.{due_bytes}
use Rattle.sip_steps.proofs.OneQuestion.{IsFed-sent, due_is, open_due}
use Rattle.sip_steps.proofs.asking.Asking.due.Goals as goal

pub returns-clause-asked : goal.returns-clause-asked
returns-clause-asked g c asked request block events is =
    let P = g.C.Check.protocol asked in
    let a = c.args.self.now in
    let turn = a.turn in
    let due : is_due turn.stage ≡ true = sym c.is_due.ensures ∙ c.if-not-is_due.false in
    let still_open = open_due turn.stage due in
    let Stands = λ (s : g.C.Check.State). g.C.Check.stands asked s a.check a.places.items in
    let fed = IsFed-sent P request block events Stands a.places.items turn (frame_bytes a.frame) is.fed due in
    rw c.sent.ensures (record {
      asks = is.asks;
      spelled = is.spelled;
      fed = subst (λ (l : List ℕ). IsFed P request block (events ++ outs l) Stands a.places.items (record turn { stage = Hears }) (frame_bytes a.frame)) (sym (due_is g.Q.Request.message request a is.asks due)) fed;
      at = λ _. IsAt-sent turn (g.C.Check.phase a.check) (is.at still_open);
      block_is = λ _. is.block_is still_open;
      lacks = λ hearing s stands.
          let room = subst (λ (t : Turn). c.room-self.result ≡ room_for t.version (P.rules.place s) (frame_bytes a.frame)) c.sent.ensures (c.room-self.ensures asked s stands) in
          omega (arith, room);
    })

pub returns-clause-begun : goal.returns-clause-begun
returns-clause-begun g c =
    let b = c.requires.begun in
    (b.0, b.1, b.2, b.3 ++ outs (due_bytes g.Q.Request.message c.args.self.now), returns-clause-asked g c b.0 b.1 b.2 b.3 b.4)
