-- So many helpers were dropped and so many queries answered, and all before the next seat was passed over.
use Rattle.std.proofs.Common.{◌≡◌, ◌+◌, ◌-◌, ◌*◌, ◌<◌, ◌≤◌, ℕ, List, length, drop, map, All, None, false}
use Rattle.std.specs.Option.{option_and_then}
use Rattle.sip_ports.specs.Ports.{Lasts}
use Rattle.sip_vector.specs.declared.update.Update.{Update}
use Rattle.sip_verifier.specs.QuerySeats.{StandsFor}
use Rattle.sip_verifier.specs.Sittings.{asks_left}
use Rattle.sip_duel.specs.Story.{IsHonestTalk, Keeps}
use Rattle.sip_session.specs.Links.{EachLink}
use Rattle.sip_session.specs.inside.Trying.{TrailsTo, turn_at}
use Rattle.sip_session.proofs.panel_asking.ask_all.Given as goal

abbrev pub invariant-loop-at : goal.invariant-loop-at
invariant-loop-at g l = record {
  trail : (stream : List Update) → All (StandsFor l.fn.session.depth stream) l.fn.session.left
      → TrailsTo l.fn.session.version l.fn.session.depth stream (length l.fn.links) l.queries (asks_left l.fn.session.left) (map (λ x. x.kept.talk.items) l.fn.links) (map (λ x. x.kept.talk.items) l.links) (g.K.Sink.talk l.fn.report) (g.K.Sink.talk l.report)
      (turn_at l.at.gone l.at.asked);
  passed : (p : ℕ) × (p ≤ l.at.asked * length l.fn.links + l.at.gone) × (asks_left l.session.left ≡ drop p (asks_left l.fn.session.left));
  stands : (stream : List Update) → All (StandsFor l.fn.session.depth stream) l.fn.session.left → All (StandsFor l.session.depth stream) l.session.left;
  version : l.session.version ≡ l.fn.session.version;
  depth : l.session.depth ≡ l.fn.session.depth;
  live : l.session.spent ≡ false;
  gone : l.at.gone < length l.fn.links;
  asked : l.at.asked ≤ l.queries;
  count : length l.links ≡ length l.fn.links;
  honest : EachLink (λ _ x y. Keeps
      (option_and_then (λ b. (goal.Helper-dyn g (b.vtable, b.value)).honest_state b.value) x.helper)
      x.kept → IsHonestTalk y.kept.talk.items) l.fn.links l.links;
  sure : EachLink (λ place x y. l.at.gone ≤ place → Keeps
      (option_and_then (λ b. (goal.Helper-dyn g (b.vtable, b.value)).honest_state b.value) x.helper)
      x.kept → Keeps
      (option_and_then (λ b. (goal.Helper-dyn g (b.vtable, b.value)).honest_state b.value) y.helper)
      y.kept) l.fn.links l.links;
  dropped : EachLink (λ place x y. place < l.at.gone → y.helper ≡ None) l.fn.links l.links;
  report : Lasts g.K.Sink.faults g.K.Sink.wants g.K.Sink.is_sure l.fn.report l.report;
}

-- each attempt answers a query or drops a helper
abbrev pub decreases-loop-at : goal.decreases-loop-at
decreases-loop-at g l = (l.queries - l.at.asked) + (length l.fn.links - l.at.gone)
