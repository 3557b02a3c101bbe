use Rattle.std.proofs.Common.{◌≡◌, ℕ, [], ◌/◌, ◌%◌, ◌<◌, drop, get_or, refl, sym, ◌∙◌, ap, subst, arith}
use Rattle.std.proofs.Math.Nat.{mod-lt, mod-eq_of_lt}
use Rattle.std.proofs.lemmas.Int.{ints}
use Rattle.sip_field.specs.Residue.{residue}
use Rattle.sip_field.proofs.BitProducts.{high_part}
use Rattle.sip_vector.specs.Weights.{hash_weight_from}
use Rattle.sip_tree.specs.Steps.{no_step, sign, IsBelow}
use Rattle.sip_tree.proofs.Splitting.{sign_below, sign_above}
use Rattle.sip_tree.proofs.StepTables.{first_step_table, first_negative_table, below_step}
use Rattle.sip_tree.proofs.steps.loosely_by_signed_steps.Goals as goal
use Rattle.sip_tree.proofs.steps.loosely_by_signed_steps.Goals.{then-delta-lt0, else-delta-lt0}

pub loosely_from-requires-clause-hash : goal.loosely_from-requires-clause-hash
loosely_from-requires-clause-hash g c =
    let p : ℕ = g.F.Field.MODULUS in
    let low : c.args.index % 256 < 256 = mod-lt c.args.index (omega arith) in
    let below : IsBelow p (get_or (get_or c.args.tables.now 0 []) (c.args.index % 256) no_step) =
    below_step p c.args.tables.now 0 _ c.requires.some (omega (arith, low, c.told-tables 0 c.requires.some)) c.requires.below in
    elim c.if-delta-lt0.branch [
      | then-delta-lt0 w ↦ subst (λ x. x < p) (sym (w.hash-is ∙ w.number-hash.ensures)) (g.met.F.Field.below w.minus-then-delta-lt0.result)
      | else-delta-lt0 w ↦ subst (λ x. x < p) (sym w.hash-is) below.1
    ]

pub returns-clause-weight : goal.returns-clause-weight
returns-clause-weight g c challenges are long within =
    let p : ℕ = g.F.Field.MODULUS in
    let above : 1 < p = omega (arith, g.met.F.Field.at_least) in
    let index : ℕ = c.args.index in
    let low : index % 256 < 256 = mod-lt index (omega arith) in
    let below : IsBelow p (get_or (get_or c.args.tables.now 0 []) (index % 256) no_step) =
    below_step p c.args.tables.now 0 _ c.requires.some (omega (arith, low, c.told-tables 0 c.requires.some)) c.requires.below in
    let first : hash_weight_from p c.if-delta-lt0.hash (index / 256) (drop 8 challenges) ≡ hash_weight_from p (residue p (sign c.args.delta)) index challenges =
    elim c.if-delta-lt0.branch [
      | then-delta-lt0 w ↦
          first_negative_table p index challenges c.args.tables.now c.if-delta-lt0.hash above are c.requires.some below.0 within
          (w.hash-is ∙ w.number-hash.ensures ∙ rw (w.minus-then-delta-lt0.ensures, w.minus.ensures, w.of_number.ensures, w.of_number-scale.ensures) refl)
          ∙ ap (λ s. hash_weight_from p (residue p s) index challenges) (sym (sign_below c.args.delta (omega (arith, ints, w.if-delta-lt0.true))))
      | else-delta-lt0 w ↦
          ap (λ v. hash_weight_from p v (index / 256) (drop 8 challenges)) w.hash-is
          ∙ first_step_table p index challenges c.args.tables.now above are c.requires.some below.1 within
          ∙ ap (λ x. hash_weight_from p x index challenges) (sym (ap (residue p) (sign_above c.args.delta (λ low. (let no : ⊥ = omega (arith, ints, low, w.if-delta-lt0.false) in no))) ∙ mod-eq_of_lt above))
    ] in
    c.loosely_from.ensures.hash challenges are long (high_part 8 index challenges within) ∙ first
