-- The records so far were legal. All but those that wait are sent to each helper, and the seats
-- stand for these.
use Rattle.std.proofs.Common.{◌≡◌, ◌<◌, ◌^◌, ℕ, List, [], length, All, Some, false}
use Rattle.std.specs.Prelude.{IsSome}
use Rattle.std.specs.Option.{option_and_then}
use Rattle.sip_ports.specs.Ports.{Lasts}
use Rattle.sip_stream.specs.Reading.{room}
use Rattle.sip_vector.specs.declared.update.Update.{Update}
use Rattle.sip_wire.specs.Table.{most_rows}
use Rattle.sip_verifier.specs.Tasks.{version_of}
use Rattle.sip_verifier.specs.Seats.{AreSeats}
use Rattle.sip_verifier.proofs.Gathered.{IsFollowed, IsUnderway}
use Rattle.sip_session.specs.inside.Hearing.{Each}
use Rattle.sip_duel.specs.Story.{Keeps}
use Rattle.sip_session.specs.Links.{EachLink, talks_of}
use Rattle.sip_session.proofs.hearing.follow_all.Given as goal

abbrev pub invariant-loop-update : goal.invariant-loop-update
invariant-loop-update g l = record {
  underway : (bytes : List ℕ) (at_blocks : List (List ℕ)) → g.A.Source.left l.fn.first ≡ Some bytes
      → AreSeats l.fn.task.depth l.fn.task.queries.items at_blocks [] l.fn.seats
      → Each (λ _ o n. IsUnderway l.fn.task bytes at_blocks (g.A.Source.left l.first) (Some o)
      (Some n) l.reader l.seats l.feed.waiting) (talks_of l.fn.links)
      (talks_of l.links);
  count : length l.links ≡ length l.fn.links;
  sure : EachLink (λ _ a b. Keeps (option_and_then
      (λ x. (goal.Helper-dyn g (x.vtable, x.value)).honest_state x.value) a.helper) a.kept
      → Keeps (option_and_then
      (λ x. (goal.Helper-dyn g (x.vtable, x.value)).honest_state x.value) b.helper) b.kept)
      l.fn.links l.links;
  version : l.feed.version ≡ version_of l.fn.task;
  few : length l.feed.waiting < most_rows;
  items : All (λ (u : Update). u.item < 2 ^ l.fn.task.depth) l.feed.waiting;
  seats : IsFollowed l.fn.task l.reader l.seats l.feed.waiting;
  levels : l.seats.depth ≡ l.fn.task.depth;
  depth : l.reader.depth ≡ l.fn.task.depth;
  form : l.reader.form ≡ l.fn.task.form;
  ready : l.reader.is_spent ≡ false;
  told : IsSome (g.A.Source.left l.fn.first) → IsSome (g.A.Source.left l.first);
  first : Lasts g.A.Source.faults g.A.Source.wants g.A.Source.is_sure l.fn.first l.first;
}

-- each legal record adds to the weights, which stay below their limits
abbrev pub decreases-loop-update : goal.decreases-loop-update
decreases-loop-update g l = room l.reader
