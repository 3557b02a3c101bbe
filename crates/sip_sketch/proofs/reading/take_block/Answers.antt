use Rattle.std.proofs.Common.{◌≡◌, suc, ◌+◌, ◌-◌, [], ◌∷◌, ◌++◌, map, length, sym, ap, subst, ◌∙◌, arith}
use Rattle.std.proofs.lemmas.Result.{err_from_is_err_and}
use Rattle.std.proofs.lemmas.List.{length-append, map-append}
use Rattle.sip_field.specs.Elements.{m61_number}
use Rattle.sip_sketch.specs.Reading.{Passes}
use Rattle.sip_sketch.specs.Sketches.{element, elements}
use Rattle.sip_sketch.proofs.Steps.{passes_next, fault_next, elements_at}
use Rattle.sip_sketch.proofs.reading.take_block.Goals as goal

pub returns-in_err-challenge-clause-takes : goal.returns-in_err-challenge-clause-takes
returns-in_err-challenge-clause-takes c =
    let p = err_from_is_err_and c.from_residual.result c.from_residual.ensures.1 in
    let d = c.args.depth in
    let i = c.loop.counter in
    let more : d - i ≡ suc (d - (i + 1)) = omega (arith, c.loop-test.true, c.loop.invariant.0) in
    rw (p.1, p.2) (λ behind.
    fault_next element (elements (d - (i + 1)) behind) (elements_at (d - i) (d - (i + 1)) behind more)
    (c.loop.invariant.3 behind) c.in_err-challenge.ensures.takes)

pub loop-preserved : goal.loop-preserved
loop-preserved c =
    let d = c.args.depth in
    let i = c.loop.counter in
    let x = c.in_ok-challenge.challenge in
    let xs = c.loop.challenges.items in
    let more : d - i ≡ suc (d - (i + 1)) = omega (arith, c.loop-test.true, c.loop.invariant.0) in
    let items = c.push.ensures.items in
    let numbers : map m61_number xs ++ x ∷ [] ≡ map m61_number c.push.new.self.items =
    sym (ap (map m61_number) items ∙ map-append m61_number xs (c.of_number.result ∷ []) ∙ ap (λ k. map m61_number xs ++ k ∷ []) c.of_number.ensures) in
    let long : length c.push.new.self.items ≡ i + 1 =
    omega (arith, ap length items, length-append xs (c.of_number.result ∷ []), c.loop.invariant.2) in (
      c.loop.invariant.0,
      omega (arith, c.loop-test.true),
      long,
      λ behind.
          subst (λ t. Passes c.args.cursor.now c.number.new.self (elements d behind) (elements (d - (i + 1)) behind) t) numbers
          (passes_next element (elements (d - (i + 1)) behind) x (elements_at (d - i) (d - (i + 1)) behind more)
          (c.loop.invariant.3 behind) c.in_ok-challenge.ensures.takes),
    )
