use Rattle.std.proofs.Common.{rules, ◌≡◌, ℕ, FitsSigned, w64, to_z, of_z, ◌*◌, ◌%◌, ◌<◌, ◌^◌, get_or, sym, ◌∙◌, ap, arith}
use Rattle.std.proofs.lemmas.Int.{to_z-of_z}
use Rattle.std.proofs.lemmas.Nat.{mul-lt, mul-mod_first, mul-mod_second}
use Rattle.sip_field.specs.Residue.{residue}
use Rattle.sip_vector.specs.Weights.{hash_weight}
use Rattle.sip_vector.specs.declared.update.Update.{Update}
use Rattle.sip_tree.proofs.Blocks.{hash_term}
use Rattle.sip_tree.proofs.TableSums.{halves_next, no_update}
use Rattle.sip_tree.proofs.hashing.hashed.Goals as goal

pub loop-update-preserved : goal.loop-update-preserved
loop-update-preserved g c =
    let p : ℕ = g.F.Field.MODULUS in
    let u : Update = get_or c.args.updates.now c.loop-update.update-index no_update in
    let w : ℕ = c.from.result in
    let d : ℕ = c.from-in-loop-update.result in
    let fits : FitsSigned w64 u.delta = search rules in
    let kept : to_z w64 (of_z w64 u.delta) ≡ u.delta = to_z-of_z w64 u.delta fits in
    let delta : d % p ≡ residue p u.delta = ap (λ y. y % p) c.from-in-loop-update.ensures ∙ c.loose_signed.ensures.residue ∙ ap (residue p) kept in
    let short : w * d < 2 ^ 64 * 2 ^ 64 = mul-lt w d (2 ^ 64) (2 ^ 64) (omega (arith, c.from.ensures, c.loosely_by_steps-weight.type_inv)) (omega (arith, c.from-in-loop-update.ensures, c.loose_signed.type_inv)) in
    halves_next p _ _ (hash_term p) (g.F.Field.number c.args.hash) c.args.updates.now c.loop-update.update-index _ _ (w * d) c.loop-update-test.true short
    (λ challenges are long within.
    let weight : ℕ = hash_weight p u.item challenges in
    let weighed : w % p ≡ weight = ap (λ y. y % p) c.from.ensures ∙ c.loosely_by_steps-weight.ensures.weight challenges are long within in
    sym (mul-mod_first w d p) ∙ sym (mul-mod_second (w % p) d p) ∙ ap (λ y. (y * (d % p)) % p) weighed ∙ ap (λ y. (weight * y) % p) delta
    ∙ ap (λ y. y % p) (let same : weight * residue p u.delta ≡ residue p u.delta * weight = omega arith in same))
    c.loop-update.invariant
