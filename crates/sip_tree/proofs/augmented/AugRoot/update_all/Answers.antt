-- The new total by the clauses of the calls, and from it and the hash what the root stands for.
use Rattle.std.proofs.Common.{rules, ◌≡◌, ℕ, ℤ, List, pos, ◌+ℤ◌, nat_abs, FitsSigned, w64, to_z, of_z, ◌+◌, ◌-◌, ◌/◌, ◌<◌, ◌≤◌, take, length, get_or, sym, ◌∙◌, ap, subst, arith}
use Rattle.std.proofs.lemmas.Int.{to_z-of_z, fits_signed_from_abs}
use Rattle.std.proofs.lemmas.List.{take_all}
use Rattle.sip_vector.specs.Streams.{most_weight}
use Rattle.sip_vector.specs.declared.update.Side.TheVariants.{First}
use Rattle.sip_vector.specs.declared.update.Update.{Update}
use Rattle.sip_tree.specs.Blocks.{hash_after, total_after}
use Rattle.sip_tree.specs.Steps.{AreStepTables}
use Rattle.sip_tree.proofs.Blocks.{one_total, augroot_stands_after}
use Rattle.sip_tree.proofs.augmented.AugRoot.update_all.Goals as goal
use Rattle.sip_tree.proofs.augmented.AugRoot.update_all.Goals.{in-Some, in-None}

-- one past the end of a slice
abbrev none : Update
none = record { side = First; item = 0; delta = pos 0 }

-- the sum after one update more is light
small : (total t : ℤ) (updates : List Update) (k : ℕ) → k < length updates → t ≡ total_after total (take k updates) →
    ((k : ℕ) → k ≤ length updates → nat_abs (total_after total (take k updates)) ≤ most_weight) →
    nat_abs (t +ℤ (get_or updates k none).delta) ≤ most_weight
small total t updates k within is light =
    subst (λ z. nat_abs z ≤ most_weight) (sym (one_total total updates k none t within is)) (light (k + 1) (omega (arith, within)))

pub overflow_add-total : goal.overflow_add-total
overflow_add-total g c =
    let updates : List Update = c.args.updates.now in
    let k : ℕ = c.loop-update.update-index in
    let u : Update = get_or updates k none in
    let t : ℤ = to_z w64 c.loop-update.total-bits in
    let fits : FitsSigned w64 u.delta = search rules in
    let kept : to_z w64 (of_z w64 u.delta) ≡ u.delta = to_z-of_z w64 u.delta fits in
    let light = small c.args.self.now.total t updates k c.loop-update-test.true c.loop-update.invariant c.requires.weight in
    subst (λ z. FitsSigned w64 (t +ℤ z)) (sym kept) (fits_signed_from_abs w64 (t +ℤ u.delta) (omega (arith, light)))

pub loop-update-preserved : goal.loop-update-preserved
loop-update-preserved g c =
    let updates : List Update = c.args.updates.now in
    let k : ℕ = c.loop-update.update-index in
    let u : Update = get_or updates k none in
    let t : ℤ = to_z w64 c.loop-update.total-bits in
    let here : k < length updates = c.loop-update-test.true in
    let fits : FitsSigned w64 u.delta = search rules in
    let kept : to_z w64 (of_z w64 u.delta) ≡ u.delta = to_z-of_z w64 u.delta fits in
    let light = small c.args.self.now.total t updates k here c.loop-update.invariant c.requires.weight in
    let room : FitsSigned w64 (t +ℤ to_z w64 (of_z w64 u.delta)) =
    subst (λ z. FitsSigned w64 (t +ℤ z)) (sym kept) (fits_signed_from_abs w64 (t +ℤ u.delta) (omega (arith, light))) in
    to_z-of_z w64 (t +ℤ to_z w64 (of_z w64 u.delta)) room ∙ ap (λ z. t +ℤ z) kept
    ∙ one_total c.args.self.now.total updates k none t here c.loop-update.invariant

pub invariant_of-self-clause-within : goal.invariant_of-self-clause-within
invariant_of-self-clause-within g c =
    subst (λ t. nat_abs t ≤ most_weight) (sym c.loop-update.invariant)
    (c.requires.weight c.loop-update.update-index (omega (arith, c.loop-update.auto.update-index-end)))

pub returns-clause-hash : goal.returns-clause-hash
returns-clause-hash g c =
    let p : ℕ = g.F.Field.MODULUS in
    let seat : List ℕ = c.args.self.now.seat in
    let updates : List Update = c.args.updates.now in
    c.number-self.ensures ∙ elim c.match-self.branch [
      | in-Some w ↦
          let same : w.deref.result.now ≡ w.in-Some.tables.items = w.deref.ensures.value in
          let made : AreStepTables p seat w.in-Some.tables.items = c.args.self.now.made w.in-Some.tables w.in-Some.is in
          let enough : length w.in-Some.tables.items ≡ 1 + (length seat - 1) / 8 = c.args.self.now.enough w.in-Some.tables w.in-Some.is in
          ap g.F.Field.number w.hash-is
          ∙ w.hashed-hash.ensures seat (subst (AreStepTables p seat) (sym same) made) (omega (arith, enough, ap length same)) c.requires.items
          ∙ ap (λ h. hash_after p seat h updates) w.of_number.ensures
      | in-None w ↦ ap g.F.Field.number w.hash-is ∙ w.hash_anew-hash.ensures
    ]

pub returns-clause-stands : goal.returns-clause-stands
returns-clause-stands g c numbers stands =
    let some : 0 < g.F.Field.MODULUS = omega (arith, g.met.F.Field.at_least) in
    let total : to_z w64 c.loop-update.total-bits ≡ total_after c.args.self.now.total c.args.updates.now =
    c.loop-update.invariant ∙ ap (total_after c.args.self.now.total) (take_all c.loop-update.update-index c.args.updates.now c.loop-update-test.false) in
    augroot_stands_after g.F.Field.MODULUS c.args.self.now.seat some c.args.updates.now c.args.self.now.hash c.number-self.result c.args.self.now.total
    (to_z w64 c.loop-update.total-bits) numbers c.requires.items (returns-clause-hash g c) total stands
