-- The updates to come are within and light, and give with the vector so far what all of them give.
use Rattle.std.proofs.Common.{◌≡◌, ◌+◌, ◌≤◌, drop, fold, nat_abs}
use Rattle.std.specs.Prelude.{sum_by}
use Rattle.sip_vector.specs.Streams.{most_weight}
use Rattle.sip_vector.specs.Vectors.{contents}
use Rattle.sip_helper.specs.inside.Adding.{with_own}
use Rattle.sip_helper.proofs.vectors.add_all.Given as goal

abbrev pub invariant-loop-update : goal.invariant-loop-update
invariant-loop-update l = record {
  depth : l.vector.depth ≡ l.fn.vector.depth;
  light : l.vector.weight + sum_by (λ u. nat_abs u.delta) (drop l.update-index l.updates) ≤ most_weight;
  rest : fold with_own (contents l.vector) (drop l.update-index l.updates) ≡ fold with_own (contents l.fn.vector) l.updates;
}
