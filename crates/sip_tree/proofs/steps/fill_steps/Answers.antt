use Rattle.std.proofs.Common.{◌≡◌, ℕ, List, [], ◌+◌, ◌-◌, ◌*◌, ◌/◌, ◌<◌, ◌≤◌, length, take, drop, sym, ◌∙◌, subst, arith}
use Rattle.std.specs.Prelude.{All}
use Rattle.std.proofs.lemmas.List.{length-set, length-take-le, get_or-take}
use Rattle.std.proofs.lemmas.List.Elements.{All-set, All-take}
use Rattle.sip_tree.specs.Steps.{HasSteps, IsBelow, start_of}
use Rattle.sip_tree.specs.declared.steps.Step.{Step}
use Rattle.sip_field.proofs.Doubling.{each_set}
use Rattle.sip_tree.proofs.StepTables.{later_start}
use Rattle.sip_tree.proofs.steps.fill_steps.Goals as goal

-- so many tables are enough
few_tables : (depth left n : ℕ) → 1 ≤ n → depth ≤ 8 * n → left ≡ depth - 1 → 1 + left / 8 ≤ n
few_tables depth left n some few is = omega (arith, some, few, is)

pub loop-group-init : goal.loop-group-init
loop-group-init g c =
    let p : ℕ = g.F.Field.MODULUS in
    let tables : List (List Step) = c.args.tables.now in
    let table : List Step = c.level_steps.new.table in
    record {
      some = omega arith;
      long = length-set tables 0 table;
      below = All-set (All (IsBelow p)) tables 0 table c.level_steps.ensures.below c.requires.residues;
      steps = each_set [] (λ j t. HasSteps p (start_of j) (take 8 (drop (8 * j) c.args.seat.now)) t) tables 0 table c.requires.some
          c.level_steps.ensures.steps (λ k none. absurd (let no : ⊥ = omega (arith, none) in no));
    }

pub loop-group-preserved : goal.loop-group-preserved
loop-group-preserved g c =
    let p : ℕ = g.F.Field.MODULUS in
    let tables : List (List Step) = c.loop-group.tables in
    let table : List Step = c.level_steps-in-loop-group.new.table in
    let k : ℕ = c.loop-group.group in
    let within : k < length tables =
    omega (arith, c.loop-group.invariant.long, c.loop-group-test.true, few_tables _ _ _ c.requires.some (omega (arith, c.depth.ensures.exact, c.requires.room)) c.saturating_sub.ensures) in
    record {
      some = omega arith;
      long = length-set tables k table ∙ c.loop-group.invariant.long;
      below = All-set (All (IsBelow p)) tables k table c.level_steps-in-loop-group.ensures.below c.loop-group.invariant.below;
      steps = each_set [] (λ j t. HasSteps p (start_of j) (take 8 (drop (8 * j) c.args.seat.now)) t) tables k table within
          (subst (λ s. HasSteps p s (take 8 (drop (8 * k) c.args.seat.now)) table) (sym (later_start k c.loop-group.invariant.some)) c.level_steps-in-loop-group.ensures.steps)
          c.loop-group.invariant.steps;
    }

pub returns-clause-below : goal.returns-clause-below
returns-clause-below g c = All-take (All (IsBelow g.F.Field.MODULUS)) (1 + c.saturating_sub.result / 8) c.loop-group.tables c.loop-group.invariant.below

pub returns-clause-tables : goal.returns-clause-tables
returns-clause-tables g c k low =
    let p : ℕ = g.F.Field.MODULUS in
    let n : ℕ = 1 + c.saturating_sub.result / 8 in
    let tables : List (List Step) = c.loop-group.tables in
    let long : length (take n tables) ≡ n =
    length-take-le n tables (omega (arith, c.loop-group.invariant.long, few_tables _ _ _ c.requires.some (omega (arith, c.depth.ensures.exact, c.requires.room)) c.saturating_sub.ensures)) in
    subst (HasSteps p (start_of k) (take 8 (drop (8 * k) c.args.seat.now)))
    (sym (get_or-take n tables k [] (omega (arith, long, low))))
    (c.loop-group.invariant.steps k (omega (arith, long, low, c.loop-group-test.false)))
