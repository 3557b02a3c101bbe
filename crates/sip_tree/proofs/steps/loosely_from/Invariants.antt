use Rattle.std.proofs.Common.{◌≡◌, ℕ, List, ◌+◌, ◌*◌, ◌%◌, ◌^◌, ◌<◌, ◌≤◌, length, drop}
use Rattle.sip_vector.specs.Weights.{hash_weight_from}
use Rattle.sip_tree.specs.Steps.{AreStepTables}
use Rattle.sip_tree.proofs.steps.loosely_from.Given as goal

-- how far the weight has grown, what it is so far, and the levels that are left
abbrev pub invariant-loop-group : goal.invariant-loop-group
invariant-loop-group g l =
    let p = g.F.Field.MODULUS in
    record {
      some : 1 ≤ l.group;
      early : l.group ≤ 4 → l.weight + 2 ^ 61 < l.group * 2 ^ 62;
      late : 4 < l.group → l.weight + 7 * 2 ^ 61 < l.group * 2 ^ 62;
      is : (challenges : List ℕ) → AreStepTables p challenges l.tables → l.fn.path < 2 ^ length (drop 8 challenges) →
          (l.rest < 2 ^ length (drop (8 * l.group) challenges))
          × (hash_weight_from p (l.weight % p) l.rest (drop (8 * l.group) challenges) ≡ hash_weight_from p l.fn.hash l.fn.path (drop 8 challenges));
    }
