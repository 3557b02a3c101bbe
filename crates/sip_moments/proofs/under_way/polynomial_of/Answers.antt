-- One coefficient more, and that all of them have a spelling.
use Rattle.std.proofs.Common.{◌≡◌, ℕ, ◌+◌, ◌≤◌, List, [], ◌∷◌, ◌++◌, length, map, sym, ap, subst, ◌∙◌, arith}
use Rattle.std.specs.Prelude.{IsTrue}
use Rattle.std.specs.List.{range_with_len}
use Rattle.std.proofs.lemmas.List.FromFn.{length-map-range_with_len, map-range_with_len_more}
use Rattle.sip_field.specs.Moduli.{m61_modulus}
use Rattle.sip_wire.specs.Spelling.{fits}
use Rattle.sip_wire.specs.Table.{most_degree}
use Rattle.sip_moments.specs.Honest.{its_coefficient}
use Rattle.sip_moments.specs.Stating.{power_message}
use Rattle.sip_moments.proofs.MomentReplies.{polynomial_fits}
use Rattle.sip_moments.proofs.under_way.polynomial_of.Goals as goal

pub push-requires : goal.push-requires
push-requires c =
    let f : ℕ → ℕ = its_coefficient m61_modulus c.args.prover.now in
    let count = ap length c.loop-place.invariant in
    let all = length-map-range_with_len f 0 c.loop-place.place in
    omega (arith, count, all, c.degree-place-end.ensures.fits.most)

pub loop-place-preserved : goal.loop-place-preserved
loop-place-preserved c =
    let f : ℕ → ℕ = its_coefficient m61_modulus c.args.prover.now in
    let n : ℕ = c.loop-place.place in
    c.push.ensures.items
    ∙ ap (λ (l : List ℕ). l ++ c.number.result ∷ []) c.loop-place.invariant
    ∙ ap (λ (x : ℕ). map f (range_with_len 0 n) ++ x ∷ [])
    (c.number.ensures ∙ c.coefficient.ensures)
    ∙ sym (map-range_with_len_more f 0 n n (omega arith))

pub returns-clause-fits : goal.returns-clause-fits
returns-clause-fits c = λ version.
    let prover = c.args.prover.now in
    let f : ℕ → ℕ = its_coefficient m61_modulus prover in
    let all : c.loop-place.place ≡ prover.degree + 1 = omega arith in
    let same : c.loop-place.coefficients.items ≡ map f (range_with_len 0 (prover.degree + 1)) =
    c.loop-place.invariant ∙ ap (λ (n : ℕ). map f (range_with_len 0 n)) all in
    let low : prover.degree ≤ most_degree = omega arith in
    subst (λ (l : List ℕ). IsTrue (fits version (power_message l))) (sym same)
    (polynomial_fits version prover low)
