use Rattle.std.proofs.Common.{◌≡◌, ◌+◌, ◌-◌, ◌≤◌, fold, Option, Some}
use Rattle.sip_vector.specs.declared.update.Entry.{Entry}
use Rattle.sip_vector.specs.Vectors.{last_of, nonzero_within}
use Rattle.sip_vector.proofs.vector.Vector.last_by_walk.Given as goal

-- the last of those that are left, or the one before them, is the last of all
abbrev pub invariant-loop-entry : goal.invariant-loop-entry
invariant-loop-entry l = record {
  all : fold (λ (before : Option Entry) (e : Entry). Some e) l.last (nonzero_within l.at l.to l.self.numbers) ≡ last_of (nonzero_within l.lo l.to l.self.numbers);
  within : l.at ≤ l.to;
}

abbrev pub decreases-loop-entry : goal.decreases-loop-entry
decreases-loop-entry l = l.to + 1 - l.at
