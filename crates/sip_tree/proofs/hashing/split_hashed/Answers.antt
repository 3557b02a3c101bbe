use Rattle.std.proofs.Common.{rules, ◌≡◌, ℕ, nat_abs, FitsSigned, w64, to_z, of_z, ◌*◌, ◌%◌, ◌<◌, ◌^◌, get_or, sym, ◌∙◌, ap, arith}
use Rattle.std.proofs.lemmas.Int.{to_z-of_z}
use Rattle.std.proofs.lemmas.Nat.{mul-lt, mul-mod_first}
use Rattle.sip_field.specs.Residue.{residue}
use Rattle.sip_vector.specs.Weights.{hash_weight_from}
use Rattle.sip_vector.specs.declared.update.Update.{Update}
use Rattle.sip_tree.specs.Steps.{sign}
use Rattle.sip_tree.proofs.Splitting.{signed_term, term_is}
use Rattle.sip_tree.proofs.TableSums.{halves_next, no_update}
use Rattle.sip_tree.proofs.hashing.split_hashed.Goals as goal

pub loop-update-preserved : goal.loop-update-preserved
loop-update-preserved g c =
    let p : ℕ = g.F.Field.MODULUS in
    let some : 0 < p = omega (arith, g.met.F.Field.at_least) in
    let u : Update = get_or c.args.updates.now c.loop-update.update-index no_update in
    let w : ℕ = c.from.result in
    let size : ℕ = c.from-in-loop-update.result in
    let n : ℕ = nat_abs u.delta in
    let sized : size ≡ n = search rules in
    let fits : FitsSigned w64 u.delta = search rules in
    let kept : to_z w64 (of_z w64 u.delta) ≡ u.delta = to_z-of_z w64 u.delta fits in
    let short : w * size < 2 ^ 64 * 2 ^ 64 = mul-lt w size (2 ^ 64) (2 ^ 64) (omega (arith, c.from.ensures, c.loosely_by_signed_steps-weight.type_inv)) (omega (arith, c.from-in-loop-update.ensures, c.unsigned_abs.type_inv)) in
    halves_next p _ _ (signed_term p) (g.F.Field.number c.args.hash) c.args.updates.now c.loop-update.update-index _ _ (w * size) c.loop-update-test.true short
    (λ challenges are long within.
    let h : ℕ = hash_weight_from p (residue p (sign u.delta)) u.item challenges in
    let weighed : w % p ≡ h = ap (λ y. y % p) c.from.ensures ∙ c.loosely_by_signed_steps-weight.ensures.weight challenges are long within
    ∙ ap (λ z. hash_weight_from p (residue p (sign z)) u.item challenges) kept in
    let term : (w * size) % p ≡ (n * h) % p =
    sym (mul-mod_first w size p) ∙ ap (λ y. (y * size) % p) weighed ∙ ap (λ y. (h * y) % p) sized
    ∙ ap (λ y. y % p) (let same : h * n ≡ n * h = omega arith in same) in
    term_is p u.item challenges u.delta (w * size) some term)
    c.loop-update.invariant
