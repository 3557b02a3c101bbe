use Rattle.std.proofs.Common.{◌≡◌, ◌++◌, drop}
use Rattle.sip_heavy.specs.Spots.{are_covered, marked_entries}
use Rattle.sip_heavy.proofs.spots.marked.Given as goal

-- the marks so far, and those of the weights that are left
abbrev pub invariant-loop-weight : goal.invariant-loop-weight
invariant-loop-weight g l = record {
  marks : l.spots.items ++ marked_entries g.F.Field.MODULUS l.rest (drop l.weight-index l.weights) ≡ marked_entries g.F.Field.MODULUS l.values l.weights;
  covered : are_covered l.rest (drop l.weight-index l.weights) ≡ are_covered l.values l.weights;
}
