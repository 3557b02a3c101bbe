use Rattle.std.proofs.Common.{◌≡◌, ◌^◌, length, drop, take}
use Rattle.std.specs.Prelude.{All}
use Rattle.sip_field.proofs.Doubling.{Filled, Between}
use Rattle.sip_tree.specs.Steps.{no_step, IsStep, IsBelow}
use Rattle.sip_tree.proofs.steps.level_steps.Given as goal

-- the first entries are the steps of the levels that were taken
abbrev pub invariant-loop-level : goal.invariant-loop-level
invariant-loop-level g l =
    let p = g.F.Field.MODULUS in
    record {
      count : l.filled ≡ 2 ^ l.level;
      long : length l.table ≡ 256;
      below : All (IsBelow p) l.table;
      steps : Filled no_step (λ level e s. IsStep p l.fn.start (take level (drop l.fn.from l.fn.seat)) e s) l.level l.filled l.table;
    }

-- the first of them are split, into themselves and those behind
abbrev pub invariant-loop-entry : goal.invariant-loop-entry
invariant-loop-entry g l =
    let p = g.F.Field.MODULUS in
    record {
      long : length l.table ≡ 256;
      below : All (IsBelow p) l.table;
      between : Between no_step (λ level e s. IsStep p l.fn.start (take level (drop l.fn.from l.fn.seat)) e s) l.level l.filled l.entry l.table;
    }
