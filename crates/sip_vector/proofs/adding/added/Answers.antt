use Rattle.std.proofs.Common.{rules, ◌≡◌, ℕ, List, pos, FitsSigned, w64, to_z, of_z, ◌*◌, ◌%◌, ◌^◌, ◌<◌, length, get_or, sym, ◌∙◌, ap, arith}
use Rattle.std.proofs.lemmas.Int.{to_z-of_z}
use Rattle.std.proofs.lemmas.List.{take_all}
use Rattle.std.proofs.lemmas.List.Elements.{All-get_or}
use Rattle.std.proofs.lemmas.Nat.{mul-mod_first}
use Rattle.sip_field.specs.Products.{bits_product}
use Rattle.sip_field.specs.Residue.{residue}
use Rattle.sip_vector.specs.declared.update.Side.TheVariants.{First}
use Rattle.sip_vector.specs.declared.update.Update.{Update}
use Rattle.sip_vector.specs.Running.{number_after}
use Rattle.sip_vector.proofs.RunningSums.{product_term, sum_begins, sum_grows, sum_more}
use Rattle.sip_vector.proofs.adding.added.Goals as goal

-- one past the end of a slice
abbrev none : Update
none = record { side = First; item = 0; delta = pos 0 }

pub loop-update-init : goal.loop-update-init
loop-update-init g c =
    let begins = sum_begins g.F.Field.MODULUS _ _ (c.from-sum.ensures ∙ c.number.ensures) (g.met.F.Field.below c.args.value) g.met.F.Field.at_most in
    record { most = begins.0; is = λ zero challenges are long within. begins.1 }

pub overflow_add-sum : goal.overflow_add-sum
overflow_add-sum g c =
    let short : length c.args.updates.now < 2 ^ 64 = search rules in
    let more : c.from-sum-in-loop-update.result < 2 ^ 64 = omega (arith, c.from-sum-in-loop-update.ensures, c.loosely_by_tables.type_inv) in
    omega (arith, (sum_grows _ _ _ _ c.loop-update-test.true short c.loop-update.invariant.most more).0)

pub loop-update-preserved : goal.loop-update-preserved
loop-update-preserved g c =
    let p : ℕ = g.F.Field.MODULUS in
    let updates : List Update = c.args.updates.now in
    let k : ℕ = c.loop-update.update-index in
    let u : Update = get_or updates k none in
    let v : ℕ = c.loop-update.sum in
    let x : ℕ = c.from-sum-in-loop-update.result in
    let d : ℕ = c.loose_signed-delta.result in
    let more : x < 2 ^ 64 = omega (arith, c.from-sum-in-loop-update.ensures, c.loosely_by_tables.type_inv) in
    let here : k < length updates = c.loop-update-test.true in
    let fits : FitsSigned w64 u.delta = search rules in
    let kept : to_z w64 (of_z w64 u.delta) ≡ u.delta = to_z-of_z w64 u.delta fits in
    record {
      most = omega (arith, more, c.loop-update.invariant.most);
      is = λ zero challenges are long within.
          let within_here : u.item < 2 ^ length challenges = All-get_or (λ u. u.item < 2 ^ length challenges) updates k none here within in
          let b : ℕ = bits_product p zero u.item challenges in
          let weighed : x % p ≡ (residue p u.delta * b) % p =
          ap (λ y. y % p) c.from-sum-in-loop-update.ensures
          ∙ c.loosely_by_tables.ensures zero challenges are long within_here
          ∙ sym (mul-mod_first d b p)
          ∙ ap (λ y. (y * b) % p) (c.loose_signed-delta.ensures.residue ∙ ap (residue p) kept) in
          sum_more p (product_term p zero challenges) (g.F.Field.number c.args.value) updates k none v x here (c.loop-update.invariant.is zero challenges are long within) weighed;
    }

pub returns : goal.returns
returns g c zero challenges are long within =
    c.of_wide.ensures ∙ c.loop-update.invariant.is zero challenges are long within
    ∙ ap (number_after g.F.Field.MODULUS zero challenges (g.F.Field.number c.args.value)) (take_all c.loop-update.update-index c.args.updates.now c.loop-update-test.false)
