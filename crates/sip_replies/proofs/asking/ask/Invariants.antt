use Rattle.std.proofs.Common.{◌≡◌, true, false, length}
use Rattle.sip_ports.specs.Ports.{Lasts}
use Rattle.sip_replies.specs.Following.{Follows, IsAt, is_hearing, is_open, left}
use Rattle.sip_replies.proofs.asking.ask.Given as goal

abbrev pub invariant-loop-verdict : goal.invariant-loop-verdict
invariant-loop-verdict g l = record {
  version : l.turn.version ≡ l.fn.version;
  follows : (asked : g.C.Check.Asked) → (g.C.Check.protocol asked).rules.version ≡ l.fn.version → g.C.Check.stands asked (g.C.Check.protocol asked).rules.start l.fn.check l.fn.places
      → Follows (g.C.Check.protocol asked) (g.Q.Request.message l.fn.request) (g.C.Check.phase l.fn.check).block (g.L.Sink.talk l.fn.link) (g.L.Sink.talk l.link) (g.K.Sink.talk l.fn.keep) (g.K.Sink.talk l.keep) (λ s. g.C.Check.stands asked s l.check l.places) l.places l.turn;
  stood : (asked : g.C.Check.Asked) → g.C.Check.stands asked (g.C.Check.protocol asked).rules.start l.fn.check l.fn.places → is_open l.turn.stage ≡ true → (s : g.C.Check.State) × g.C.Check.stands asked s l.check l.places;
  silent : is_hearing l.turn.stage ≡ false;
  at : is_open l.turn.stage ≡ true → IsAt l.turn (g.C.Check.phase l.check);
  block : is_open l.turn.stage ≡ true → (g.C.Check.phase l.check).block ≡ (g.C.Check.phase l.fn.check).block;
  lent : g.C.Check.lent l.check ≡ g.C.Check.lent l.fn.check;
  places : length l.places ≡ length l.fn.places;
  link : Lasts g.L.Sink.faults g.L.Sink.wants g.L.Sink.is_sure l.fn.link l.link;
  keep : Lasts g.K.Sink.faults g.K.Sink.wants g.K.Sink.is_sure l.fn.keep l.keep;
}

abbrev pub decreases-loop-verdict : goal.decreases-loop-verdict
decreases-loop-verdict g l = left l.turn
