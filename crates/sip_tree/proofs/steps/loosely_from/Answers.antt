use Rattle.std.proofs.Common.{◌≡◌, ℕ, List, [], ◌+◌, ◌*◌, ◌/◌, ◌%◌, ◌^◌, ◌<◌, ◌≤◌, length, drop, get_or, inl, inr, sym, ◌∙◌, ap, subst, arith}
use Rattle.std.proofs.Math.Nat.{mod-lt, mod-mod, mod-add-mod, mod-eq_of_lt}
use Rattle.std.proofs.lemmas.Bool.{cases_lt}
use Rattle.std.proofs.lemmas.List.{drop_all}
use Rattle.std.proofs.lemmas.Nat.{mul-mod_first}
use Rattle.sip_field.proofs.BitProducts.{high_part, eight_more}
use Rattle.sip_vector.specs.Weights.{hash_weight_from}
use Rattle.sip_tree.specs.Steps.{no_step, IsBelow}
use Rattle.sip_tree.specs.declared.steps.Step.{Step}
use Rattle.sip_tree.proofs.StepTables.{one_step_table, below_step}
use Rattle.sip_tree.proofs.steps.loosely_from.Goals as goal
use Rattle.sip_tree.proofs.steps.loosely_from.Goals.{then-group-eq4, else-group-eq4}

pub loop-group-init : goal.loop-group-init
loop-group-init g c =
    let p : ℕ = g.F.Field.MODULUS in
    let most : p < 2 ^ 61 = omega (arith, g.met.F.Field.at_most) in record {
      some = omega arith;
      early = λ _. omega (arith, c.requires.hash, most);
      late = λ no. absurd (let none : ⊥ = omega (arith, no) in none);
      is = λ challenges are within. (within, ap (λ v. hash_weight_from p v c.args.path (drop 8 challenges)) (mod-eq_of_lt c.requires.hash));
    }

pub loop-group-preserved : goal.loop-group-preserved
loop-group-preserved g c =
    let p : ℕ = g.F.Field.MODULUS in
    let some : 0 < p = omega (arith, g.met.F.Field.at_least) in
    let most : p < 2 ^ 61 = omega (arith, g.met.F.Field.at_most) in
    let tables : List (List Step) = c.args.tables.now in
    let k : ℕ = c.loop-group.group in
    let path : ℕ = c.loop-group.rest in
    let s : Step = get_or (get_or tables k []) (path % 256) no_step in
    let u : ℕ = c.loop-group.weight % p in
    let start : ℕ = c.if-group-eq4.weight in
    let here : k < length tables = c.loop-group-test.true in
    let low : path % 256 < 256 = mod-lt path (omega arith) in
    let below : IsBelow p s = below_step p tables k (path % 256) here (omega (arith, low, c.told-tables k here)) c.requires.below in
    let begun : (start % p ≡ u) × (k < 4 → start + 2 ^ 61 < k * 2 ^ 62) × (4 ≤ k → start + 7 * 2 ^ 61 < k * 2 ^ 62) =
    elim c.if-group-eq4.branch [
      | then-group-eq4 w ↦
          let is : start ≡ u = w.weight-is ∙ w.number-weight.ensures ∙ w.of.ensures in
          let low : u < p = mod-lt c.loop-group.weight some in (
            ap (λ x. x % p) is ∙ mod-mod c.loop-group.weight p,
            λ no. absurd (let none : ⊥ = omega (arith, no, w.if-group-eq4.true) in none),
            λ _. omega (arith, is, low, most, w.if-group-eq4.true),
          )
      | else-group-eq4 w ↦ (
        ap (λ x. x % p) w.weight-is,
        λ less. omega (arith, w.weight-is, c.loop-group.invariant.early (omega (arith, less))),
        λ more. omega (arith, w.weight-is, c.loop-group.invariant.late (omega (arith, more, w.if-group-eq4.false))),
      )
    ] in
    let made : ℕ = c.loose_times.result in
    let grown : made < start + 2 ^ 61 = c.loose_times.ensures.most in
    let value : (made + s.shift) % p ≡ (u * s.scale + s.shift) % p =
    sym (mod-add-mod made p s.shift) ∙ ap (λ x. (x + s.shift) % p) (c.loose_times.ensures.residue ∙ sym (mul-mod_first start s.scale p) ∙ ap (λ x. (x * s.scale) % p) begun.0)
    ∙ mod-add-mod (u * s.scale) p s.shift in
    record {
      some = omega arith;
      early = λ less. omega (arith, grown, below.1, most, begun.1 (omega (arith, less)));
      late = λ more. omega (arith, grown, below.1, most, begun.2 (omega (arith, more)));
      is = λ challenges are within.
          let before = c.loop-group.invariant.is challenges are within in (
            subst (λ rs. path / 256 < 2 ^ length rs) (sym (eight_more k challenges)) (high_part 8 path (drop (8 * k) challenges) before.0),
            one_step_table p _ challenges tables k path u _ are c.loop-group.invariant.some here (mod-lt c.loop-group.weight some) before.0 value before.1,
          );
    }

pub returns-clause-most : goal.returns-clause-most
returns-clause-most g c =
    let last : c.loop-group.group ≤ 6 = omega (arith, c.loop-group.auto.group-end c.requires.some, c.requires.few) in
    elim (cases_lt c.loop-group.group 5) [
      | inl less ↦ omega (arith, less, c.loop-group.invariant.early (omega (arith, less)))
      | inr more ↦ omega (arith, last, c.loop-group.invariant.late (omega (arith, more)))
    ]

pub returns-clause-hash : goal.returns-clause-hash
returns-clause-hash g c challenges are long within =
    let p : ℕ = g.F.Field.MODULUS in
    let k : ℕ = c.loop-group.group in
    sym (ap (hash_weight_from p (c.loop-group.weight % p) c.loop-group.rest) (drop_all (8 * k) challenges (omega (arith, long, c.loop-group-test.false))))
    ∙ (c.loop-group.invariant.is challenges are within).1
