use Rattle.std.proofs.Common.{◌≡◌, ℕ, List, Option, length}
use Rattle.sip_ports.specs.declared.port.TalkEvent.{TalkEvent}
use Rattle.sip_ports.specs.Ports.{Lasts}
use Rattle.sip_wire.specs.declared.message.Message.{Message}
use Rattle.sip_replies.specs.Following.{Follows, IsAt}
use Rattle.sip_replies.proofs.asking.hear.Given as goal

abbrev pub invariant-loop-turn : goal.invariant-loop-turn
invariant-loop-turn g l = record {
  turn : l.turn ≡ l.initial.turn;
  at : IsAt l.turn (g.C.Check.phase l.check);
  block : (g.C.Check.phase l.check).block ≡ (g.C.Check.phase l.initial.check).block;
  stood : (asked : g.C.Check.Asked) (s : g.C.Check.State) → g.C.Check.stands asked s l.initial.check l.initial.places → (t : g.C.Check.State) × g.C.Check.stands asked t l.check l.places;
  follows : (asked : g.C.Check.Asked) (request : Message) (block : List ℕ) (old before : Option (List TalkEvent)) → (g.C.Check.phase l.initial.check).block ≡ block
      → Follows (g.C.Check.protocol asked) request block old (g.L.Sink.talk l.initial.link) before (g.K.Sink.talk l.initial.keep) (λ s. g.C.Check.stands asked s l.initial.check l.initial.places) l.initial.places l.initial.turn
      → Follows (g.C.Check.protocol asked) request block old (g.L.Sink.talk l.link) before (g.K.Sink.talk l.keep) (λ s. g.C.Check.stands asked s l.check l.places) l.places l.turn;
  lent : g.C.Check.lent l.check ≡ g.C.Check.lent l.initial.check;
  places : length l.places ≡ length l.initial.places;
  link : Lasts g.L.Sink.faults g.L.Sink.wants g.L.Sink.is_sure l.initial.link l.link;
  keep : Lasts g.K.Sink.faults g.K.Sink.wants g.K.Sink.is_sure l.initial.keep l.keep;
}

abbrev pub decreases-loop-turn : goal.decreases-loop-turn
decreases-loop-turn g l = g.C.Check.room l.check
