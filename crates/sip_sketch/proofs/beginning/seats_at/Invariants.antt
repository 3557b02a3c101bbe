-- The seats so far, and room for the others.
use Rattle.std.proofs.Common.{◌≤◌, length, vec_capacity}
use Rattle.sip_sketch.proofs.Begun.{AreSoFar}
use Rattle.sip_sketch.proofs.beginning.seats_at.Given as goal

abbrev pub invariant-loop-kind : goal.invariant-loop-kind
invariant-loop-kind g l = record {
  so_far : AreSoFar l.levels l.kinds (g.R.Rng.stream l.initial.rng) (g.R.Rng.stream l.rng) l.kind-index l.seats.items;
  room : length l.kinds ≤ vec_capacity l.seats;
}
