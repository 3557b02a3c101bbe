-- The other end closed while bytes were to come.
use Rattle.std.proofs.Common.{◌≡◌, ◌++◌, true, List, sym, subst, ◌∙◌}
use Rattle.sip_ports.specs.declared.port.TalkEvent.{TalkEvent}
use Rattle.sip_wire.specs.Frames.{frame_bytes}
use Rattle.sip_wire.specs.declared.message.Reason.TheVariants.{Closed}
use Rattle.sip_replies.specs.declared.turn.Stage.TheVariants.{Rejected}
use Rattle.sip_replies.specs.Feeding.{IsFed}
use Rattle.sip_replies.specs.Following.{is_hearing}
use Rattle.sip_steps.specs.Asked.{end_heard}
use Rattle.sip_steps.proofs.OneQuestion.{IsFed-ended, end_is, no_verdict}
use Rattle.sip_steps.proofs.asking.Asking.close.Goals as goal

pub returns-then-is_waiting-clause-asked : goal.returns-then-is_waiting-clause-asked
returns-then-is_waiting-clause-asked g c asked request block events is =
    let P = g.C.Check.protocol asked in
    let a = c.args.self.now in
    let hears : is_hearing a.turn.stage ≡ true = sym c.is_waiting.ensures ∙ c.if-is_waiting.true in
    let Stands = λ (s : g.C.Check.State). g.C.Check.stands asked s a.check a.places.items in
    let fed = IsFed-ended P request block events Stands a.places.items a.turn (frame_bytes a.frame) is.fed hears (frame_bytes c.close.new.frame) (c.close.ensures.empty hears) in
    rw (c.close.ensures.closed hears) (record {
      asks = is.asks;
      spelled = is.spelled;
      fed = subst (λ (e : List TalkEvent). IsFed P request block (events ++ e) Stands a.places.items (record a.turn { stage = Rejected a.turn.round Closed }) (frame_bytes c.close.new.frame)) (sym (end_is a.turn.stage hears)) fed;
      at = λ still_open. absurd (no_verdict still_open);
      block_is = λ still_open. absurd (no_verdict still_open);
      lacks = λ hearing. absurd (no_verdict hearing);
    })

pub returns-then-is_waiting-clause-begun : goal.returns-then-is_waiting-clause-begun
returns-then-is_waiting-clause-begun g c =
    let b = c.requires.begun in
    (b.0, b.1, b.2, b.3 ++ end_heard c.args.self.now.turn.stage, returns-then-is_waiting-clause-asked g c b.0 b.1 b.2 b.3 b.4)
