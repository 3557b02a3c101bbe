use Rattle.std.proofs.Common.{◌≡◌, ◌^◌, ◌<◌, ℕ, length, true, false, sym, ap, subst, refl, ◌∙◌, arith}
use Rattle.sip_vector.specs.Vectors.{nonzero}
use Rattle.sip_heavy.specs.declared.form.LeafForm.TheVariants as forms
use Rattle.sip_heavy.specs.Spots.{marked_entries, whole_level, IsKept}
use Rattle.sip_heavy.proofs.Kept.{whole_long}
use Rattle.sip_heavy.proofs.Marked.{covered, marks_hashed, marks_light, marks_rise, marks_stand_for}
use Rattle.sip_heavy.proofs.prover.HeavyProver.start_above.Goals as goal

pub invariant_of-result : goal.invariant_of-result
invariant_of-result g c =
    let p : ℕ = g.F.Field.MODULUS in
    let some : 0 < p = omega (arith, g.met.F.Field.at_least) in
    let values = c.args.values.now.numbers in
    let weights = c.args.weights.now.numbers in
    let left : ℕ = c.get-levels_left.result in
    let size : length weights ≡ 2 ^ left = c.depth-2.ensures.numbers ∙ ap (λ d. 2 ^ d) (sym c.get-levels_left.ensures.same) in
    let marks : c.in-Some.spots.items ≡ marked_entries p (nonzero values) (nonzero weights) = rw c.in-Some.is at c.in_ok-spots.ensures.marks in
    subst (λ xs. IsKept p c.args.at_least left xs) (sym marks) (record {
      some = c.requires.some;
      levels = c.get-levels_left.ensures.most;
      rises = marks_rise p some 0 0 (2 ^ left) (nonzero values) weights (omega arith) (omega (arith, size));
      light = omega (arith, marks_light p 0 (nonzero values) weights, c.weight.ensures.light, c.weight.ensures.most);
      hashes = marks_hashed p some (nonzero values) (nonzero weights);
    })

pub returns-in_default-clause-weighed : goal.returns-in_default-clause-weighed
returns-in_default-clause-weighed g c =
    let values = c.args.values.now.numbers in
    let weights = c.args.weights.now.numbers in
    let long : length values ≡ length weights = c.depth.ensures.numbers ∙ ap (λ d. 2 ^ d) (c.depth.ensures.same ∙ c.requires.depth ∙ sym c.depth-2.ensures.same) ∙ sym c.depth-2.ensures.numbers in
    let test = rw c.in_default.is at c.in_ok-spots.ensures.covered in
    (λ e. absurd (let no : false ≡ true = e in cc), λ all. test.1 ((covered values weights long).1 all))

pub returns-clause-weighed : goal.returns-clause-weighed
returns-clause-weighed g c =
    let values = c.args.values.now.numbers in
    let weights = c.args.weights.now.numbers in
    let long : length values ≡ length weights = c.depth.ensures.numbers ∙ ap (λ d. 2 ^ d) (c.depth.ensures.same ∙ c.requires.depth ∙ sym c.depth-2.ensures.same) ∙ sym c.depth-2.ensures.numbers in
    let test = rw c.in-Some.is at c.in_ok-spots.ensures.covered in
    (λ _. (covered values weights long).0 (test.0 refl), λ _. refl)

pub returns-clause-begun : goal.returns-clause-begun
returns-clause-begun g c =
    let p : ℕ = g.F.Field.MODULUS in
    let some : 0 < p = omega (arith, g.met.F.Field.at_least) in
    let values = c.args.values.now.numbers in
    let weights = c.args.weights.now.numbers in
    let left : ℕ = c.get-levels_left.result in
    let size : length weights ≡ 2 ^ left = c.depth-2.ensures.numbers ∙ ap (λ d. 2 ^ d) (sym c.get-levels_left.ensures.same) in
    let long : length values ≡ length weights = c.depth.ensures.numbers ∙ ap (λ d. 2 ^ d) (c.depth.ensures.same ∙ c.requires.depth ∙ sym c.depth-2.ensures.same) ∙ sym c.depth-2.ensures.numbers in
    let marks : c.in-Some.spots.items ≡ marked_entries p (nonzero values) (nonzero weights) = rw c.in-Some.is at c.in_ok-spots.ensures.marks in
    let test = rw c.in-Some.is at c.in_ok-spots.ensures.covered in
    ap (λ l. record { form = forms.Mark; at_least = c.args.at_least; is_leaf = true; level = l })
    (ap (λ xs. whole_level (2 ^ left) 0 xs) marks ∙ ap (λ n. whole_level n 0 (marked_entries p (nonzero values) (nonzero weights))) (sym size) ∙ marks_stand_for p some values weights long ((covered values weights long).0 (test.0 refl)))

pub returns-clause-length : goal.returns-clause-length
returns-clause-length g c = whole_long (2 ^ c.get-levels_left.result) 0 c.in-Some.spots.items ∙ ap (λ d. 2 ^ d) (c.get-levels_left.ensures.same ∙ c.depth-2.ensures.same ∙ sym c.requires.depth)
