use Rattle.std.proofs.Common.{◌≡◌, ℕ, ◌-◌, ◌<◌, ◌≤◌, ◌++◌, true, false, List, length, take}
use Rattle.sip_ports.specs.declared.port.TalkEvent.{TalkEvent}
use Rattle.sip_ports.specs.Ports.{ins}
use Rattle.sip_wire.specs.declared.message.Message.{Message}
use Rattle.sip_wire.specs.Frames.{frame_bytes}
use Rattle.sip_wire.specs.Spelling.{asked as asked_length}
use Rattle.sip_replies.specs.Feeding.{IsFed}
use Rattle.sip_replies.specs.Following.{IsAt, is_hearing, is_open}
use Rattle.sip_replies.proofs.turn.Turn.feed.Given as goal

abbrev pub invariant-loop-taken : goal.invariant-loop-taken
invariant-loop-taken g l = record {
  most : l.taken ≤ length l.bytes;
  none : is_hearing l.initial.self.stage ≡ false → (l.taken ≡ 0) × (is_hearing l.self.stage ≡ false);
  at : (is_open l.initial.self.stage ≡ true → IsAt l.initial.self (g.C.Check.phase l.initial.check)) → is_open l.self.stage ≡ true → IsAt l.self (g.C.Check.phase l.check);
  at_hears : is_hearing l.self.stage ≡ true → IsAt l.self (g.C.Check.phase l.check);
  block : is_open l.self.stage ≡ true → (g.C.Check.phase l.check).block ≡ (g.C.Check.phase l.initial.check).block;
  lent : g.C.Check.lent l.check ≡ g.C.Check.lent l.initial.check;
  places : length l.places ≡ length l.initial.places;
  stands : (asked : g.C.Check.Asked) (s : g.C.Check.State) → g.C.Check.stands asked s l.initial.check l.initial.places
      → length (frame_bytes l.initial.frame) < asked_length l.initial.self.version ((g.C.Check.protocol asked).rules.place s) (frame_bytes l.initial.frame) → is_open l.self.stage ≡ true
      → (t : g.C.Check.State) × g.C.Check.stands asked t l.check l.places × (length (frame_bytes l.frame) < asked_length l.self.version ((g.C.Check.protocol asked).rules.place t) (frame_bytes l.frame));
  fed : (asked : g.C.Check.Asked) (request : Message) (block : List ℕ) (events : List TalkEvent) → (g.C.Check.phase l.initial.check).block ≡ block
      → IsFed (g.C.Check.protocol asked) request block events (λ s. g.C.Check.stands asked s l.initial.check l.initial.places) l.initial.places l.initial.self (frame_bytes l.initial.frame)
      → IsFed (g.C.Check.protocol asked) request block (events ++ ins (take l.taken l.bytes)) (λ s. g.C.Check.stands asked s l.check l.places) l.places l.self (frame_bytes l.frame);
}

abbrev pub decreases-loop-taken : goal.decreases-loop-taken
decreases-loop-taken g l = length l.bytes - l.taken
