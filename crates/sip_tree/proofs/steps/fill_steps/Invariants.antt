use Rattle.std.proofs.Common.{◌≡◌, ℕ, ◌*◌, ◌<◌, ◌≤◌, [], length, take, drop, get_or}
use Rattle.std.specs.Prelude.{All}
use Rattle.sip_tree.specs.Steps.{HasSteps, IsBelow, start_of}
use Rattle.sip_tree.proofs.steps.fill_steps.Given as goal

-- the first tables are those of the seat
abbrev pub invariant-loop-group : goal.invariant-loop-group
invariant-loop-group g l =
    let p = g.F.Field.MODULUS in
    record {
      some : 1 ≤ l.group;
      long : length l.tables ≡ length l.fn.tables;
      below : All (All (IsBelow p)) l.tables;
      steps : (k : ℕ) → k < l.group → HasSteps p (start_of k) (take 8 (drop (8 * k) l.fn.seat)) (get_or l.tables k []);
    }
