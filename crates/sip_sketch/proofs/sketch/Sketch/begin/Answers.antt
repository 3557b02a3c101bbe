-- The challenges are those of the seed, or it gives none.
use Rattle.std.proofs.Common.{◌≡◌, ◌*◌, ◌^◌, ◌<◌, ◌≤◌, ◌∙◌, Err, length, sym, ap, subst, arith, rules}
use Rattle.std.proofs.lemmas.Result.{err_from_is_err_and}
use Rattle.rand_chacha.specs.ChaCha.{next_word}
use Rattle.rand_core.specs.Steps.{steps_u32, stream_of}
use Rattle.sip_field.specs.Draw.{draw_list}
use Rattle.sip_vector.specs.declared.tally.Tally.{Tally}
use Rattle.sip_sketch.specs.declared.beginning.BeginFault.TheVariants.{SeedSpent}
use Rattle.sip_sketch.specs.Sketches.{IsSketch}
use Rattle.sip_sketch.specs.Standing.{IsBegun}
use Rattle.sip_sketch.specs.inside.Beginning.{AreBegun}
use Rattle.sip_sketch.proofs.Begun.{begun_sketch, begun_whole, seed_draws}
use Rattle.sip_sketch.proofs.sketch.Sketch.begin.Goals as goal

pub returns-in_err-seats-clause-spent : goal.returns-in_err-seats-clause-spent
returns-in_err-seats-clause-spent c =
    let p = err_from_is_err_and c.from_residual.result c.from_residual.ensures.1 in
    let size : length c.args.seed.now ≡ 32 = search rules in
    let words = stream_of (steps_u32 (next_word 10)) c.from_seed.result in
    let draws = seed_draws c.args.seed.now c.args.depth c.get-levels.result (length c.args.kinds.now) words size c.get-levels.ensures.same
    (ap (stream_of (steps_u32 (next_word 10))) c.from_seed.ensures) in
    let spent = c.in_err-seats.ensures.spent in
    rw (p.1, p.2, draws) (
      λ e. spent.0 (let same : c.in_err-seats.field-0.0 ≡ SeedSpent = cc in ap Err same),
      λ none. (let e = spent.1 none in let same : c.in_err-seats.field-0.0 ≡ SeedSpent = cc in ap Err same),
    )

pub returns-clause-spent : goal.returns-clause-spent
returns-clause-spent c =
    let size : length c.args.seed.now ≡ 32 = search rules in
    let words = stream_of (steps_u32 (next_word 10)) c.from_seed.result in
    let draws = seed_draws c.args.seed.now c.args.depth c.get-levels.result (length c.args.kinds.now) words size c.get-levels.ensures.same
    (ap (stream_of (steps_u32 (next_word 10))) c.from_seed.ensures) in
    (λ e. absurd cc, λ none. (let clash = sym none ∙ draws ∙ c.in_ok-seats.ensures.begun.drawn in absurd cc))

pub returns-clause-begun : goal.returns-clause-begun
returns-clause-begun c =
    let size : length c.args.seed.now ≡ 32 = search rules in
    let asked = c.args.kinds.now in
    let d = c.args.depth in
    let levels : c.get-levels.result ≡ d = c.get-levels.ensures.same in
    let some : 1 ≤ d = omega (arith, levels, c.get-levels.ensures.some) in
    let words = stream_of (steps_u32 (next_word 10)) c.from_seed.result in
    let draws = seed_draws c.args.seed.now d c.get-levels.result (length asked) words size levels
    (ap (stream_of (steps_u32 (next_word 10))) c.from_seed.ensures) in
    let begun = subst (λ n. AreBegun n asked words c.in_ok-seats.seats.items) levels c.in_ok-seats.ensures.begun in
    subst (λ (t : Tally). IsBegun c.args.seed.now d (record { count = c.args.parts; first = c.args.part; last = c.args.part }) asked
    (record { depth = d; parts = record { count = c.args.parts; first = c.args.part; last = c.args.part }; tally = t; seats = c.in_ok-seats.seats.items })) (sym c.nothing_told.ensures)
    (begun_whole c.args.seed.now d c.args.part c.args.parts asked words c.in_ok-seats.seats.items some
    (draws ∙ ap (λ n. draw_list (n * length asked) words) levels) begun)

pub invariant_of-result : goal.invariant_of-result
invariant_of-result c =
    let asked = c.args.kinds.now in
    let d = c.args.depth in
    let levels : c.get-levels.result ≡ d = c.get-levels.ensures.same in
    let some : 1 ≤ d = omega (arith, levels, c.get-levels.ensures.some) in
    let deep : d ≤ 48 = omega (arith, levels, c.get-levels.ensures.most) in
    let few : c.args.parts < 2 ^ 32 = search rules in
    let words = stream_of (steps_u32 (next_word 10)) c.from_seed.result in
    let begun = subst (λ n. AreBegun n asked words c.in_ok-seats.seats.items) levels c.in_ok-seats.ensures.begun in
    subst (λ (t : Tally). IsSketch (record { depth = d; parts = record { count = c.args.parts; first = c.args.part; last = c.args.part }; tally = t; seats = c.in_ok-seats.seats.items })) (sym c.nothing_told.ensures)
    (begun_sketch d c.args.part c.args.parts asked words c.in_ok-seats.seats.items some deep c.requires.first_part c.requires.last_part few c.requires.some c.requires.most begun)
