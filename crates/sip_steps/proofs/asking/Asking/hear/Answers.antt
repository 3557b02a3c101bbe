-- Bytes came while they were to come, and what came of each frame was looked at.
use Rattle.std.proofs.Common.{◌++◌, List, length, sym, ap, subst, take, ◌∙◌, arith}
use Rattle.std.proofs.lemmas.List.{with_items_is}
use Rattle.std.specs.Prelude.{IsTrue}
use Rattle.sip_ports.specs.Ports.{ins}
use Rattle.sip_wire.specs.Frames.{frame_bytes}
use Rattle.sip_wire.specs.Spelling.{fits}
use Rattle.sip_wire.specs.declared.version.Version.{Version}
use Rattle.sip_vector.specs.declared.update.Entry.{Entry}
use Rattle.sip_replies.specs.Feeding.{IsFed}
use Rattle.sip_replies.proofs.Stepping.{open_hearing}
use Rattle.sip_steps.proofs.OneQuestion.{stood}
use Rattle.sip_steps.proofs.asking.Asking.hear.Goals as goal

pub feed-taken-requires-clause-at : goal.feed-taken-requires-clause-at
feed-taken-requires-clause-at g c hears = c.requires.begun.4.at (open_hearing c.args.self.now.turn.stage hears)

pub feed-taken-requires-clause-stood : goal.feed-taken-requires-clause-stood
feed-taken-requires-clause-stood g c hears =
    let b = c.requires.begun in
    let a = c.args.self.now in
    let so = stood (g.C.Check.protocol b.0) b.1 b.2 b.3 (λ (s : g.C.Check.State). g.C.Check.stands b.0 s a.check a.places.items) a.places.items a.turn (frame_bytes a.frame) b.4.fed (open_hearing a.turn.stage hears) in
    (b.0, so.0, subst (λ (l : List Entry). g.C.Check.stands b.0 so.0 a.check l) (sym c.deref_mut.ensures.value) so.1, so.2)

pub returns-clause-asked : goal.returns-clause-asked
returns-clause-asked g c asked request block events is =
    let a = c.args.self.now in
    let hears = c.requires.hears in
    let still_open = open_hearing a.turn.stage hears in
    let fed = c.feed-taken.ensures.fed asked request block events (is.block_is still_open)
    (subst (λ (l : List Entry). IsFed (g.C.Check.protocol asked) request block events (λ s. g.C.Check.stands asked s a.check l) l a.turn (frame_bytes a.frame)) (sym c.deref_mut.ensures.value) is.fed) in
    let same = with_items_is a.places c.feed-taken.new.places (c.feed-taken.ensures.places ∙ ap length c.deref_mut.ensures.value ∙ sym a.places.ok.0) in
    record {
      asks = is.asks;
      spelled = subst (λ (v : Version). IsTrue (fits v request)) (sym is.fed.follows.version ∙ fed.follows.version) is.spelled;
      fed = subst (λ (l : List Entry). IsFed (g.C.Check.protocol asked) request block (events ++ ins (take c.feed-taken.result c.args.bytes.now)) (λ s. g.C.Check.stands asked s c.feed-taken.new.check l) l c.feed-taken.new.self (frame_bytes c.feed-taken.new.frame)) (sym same) fed;
      at = λ open_then. c.feed-taken.ensures.at is.at open_then;
      block_is = λ open_then. c.feed-taken.ensures.block open_then ∙ is.block_is still_open;
      lacks = λ hearing s stands. omega (arith, c.room-self.ensures asked s stands);
    }
