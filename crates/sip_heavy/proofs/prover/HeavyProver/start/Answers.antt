use Rattle.std.proofs.Common.{◌≡◌, ◌^◌, ◌<◌, ℕ, length, map, true, sym, ap, subst, ◌∙◌, arith}
use Rattle.sip_vector.specs.Vectors.{nonzero}
use Rattle.sip_heavy.specs.declared.form.LeafForm.TheVariants as forms
use Rattle.sip_heavy.specs.Spots.{whole_level, leaf_of_entry, IsKept}
use Rattle.sip_heavy.proofs.Kept.{whole_long}
use Rattle.sip_heavy.proofs.Leaves.{leaves_rise, leaves_hashed, leaves_light, leaves_stand}
use Rattle.sip_heavy.proofs.prover.HeavyProver.start.Goals as goal

pub invariant_of-result : goal.invariant_of-result
invariant_of-result g c =
    let p : ℕ = g.F.Field.MODULUS in
    let some : 0 < p = omega (arith, g.met.F.Field.at_least) in
    let numbers = c.args.vector.now.numbers in
    let left : ℕ = c.get.result in
    let size : length numbers ≡ 2 ^ left = c.depth.ensures.numbers ∙ ap (λ d. 2 ^ d) (sym c.get.ensures.same) in
    subst (λ xs. IsKept p c.args.at_least left xs) (sym c.in_ok-spots.ensures) (record {
      some = c.requires.some;
      levels = c.get.ensures.most;
      rises = leaves_rise p some 0 0 (2 ^ left) numbers (omega arith) (omega (arith, size));
      light = omega (arith, leaves_light p 0 numbers, c.weight.ensures.light, c.weight.ensures.most);
      hashes = leaves_hashed p some (nonzero numbers);
    })

pub returns-clause-begun : goal.returns-clause-begun
returns-clause-begun g c =
    let p : ℕ = g.F.Field.MODULUS in
    let some : 0 < p = omega (arith, g.met.F.Field.at_least) in
    let numbers = c.args.vector.now.numbers in
    let left : ℕ = c.get.result in
    let size : length numbers ≡ 2 ^ left = c.depth.ensures.numbers ∙ ap (λ d. 2 ^ d) (sym c.get.ensures.same) in
    ap (λ l. record { form = forms.Count; at_least = c.args.at_least; is_leaf = true; level = l })
    (ap (λ xs. whole_level (2 ^ left) 0 xs) c.in_ok-spots.ensures ∙ ap (λ n. whole_level n 0 (map (leaf_of_entry p) (nonzero numbers))) (sym size) ∙ leaves_stand p some 0 numbers c.requires.strict)

pub returns-clause-length : goal.returns-clause-length
returns-clause-length g c = whole_long (2 ^ c.get.result) 0 c.in_ok-spots.spots.items ∙ ap (λ d. 2 ^ d) (c.get.ensures.same ∙ c.depth.ensures.same)
