use Rattle.std.proofs.Common.{◌≡◌, ◌+◌, [], ◌∷◌, refl, subst, take, drop, arith}
use Rattle.std.proofs.lemmas.Result.{err_from_is_err_and}
use Rattle.sip_sketch.specs.Fields.{one}
use Rattle.sip_sketch.specs.Reading.{Passes}
use Rattle.sip_sketch.specs.Sketches.{byte, fixed, magic}
use Rattle.sip_sketch.proofs.Steps.{passes_next, fault_next, fixed_at, take_next}
use Rattle.sip_sketch.proofs.reading.take_magic.Goals as goal

pub returns-in_err-number : goal.returns-in_err-number
returns-in_err-number c =
    let p = err_from_is_err_and c.from_residual.result c.from_residual.ensures.1 in
    let i = c.loop-byte.byte-index in
    let x = c.from-byte.result in
    rw (p.1, p.2) (λ behind.
    fault_next (byte x x) (fixed (drop (i + 1) magic) behind)
    (fixed_at magic i x behind c.loop-byte-test.true c.from-byte.ensures)
    (c.loop-byte.invariant.1 behind) c.in_err-number.ensures.takes)

pub loop-byte-preserved : goal.loop-byte-preserved
loop-byte-preserved c =
    let i = c.loop-byte.byte-index in
    let x = c.from-byte.result in
    let same : c.in_ok-number.field-0 ≡ x = omega (arith, c.in_ok-number.ensures.least, c.in_ok-number.ensures.most) in (
      refl,
      λ behind.
          subst (λ t. Passes c.args.cursor.now c.number.new.self (fixed magic behind) (fixed (drop (i + 1) magic) behind) t)
          (take_next magic i x c.loop-byte-test.true c.from-byte.ensures)
          (passes_next (byte x x) (fixed (drop (i + 1) magic) behind) x
          (fixed_at magic i x behind c.loop-byte-test.true c.from-byte.ensures)
          (c.loop-byte.invariant.1 behind)
          (λ k. subst (λ z. Passes c.loop-byte.cursor c.number.new.self (one (byte x x) k) (k z) (z ∷ [])) same (c.in_ok-number.ensures.takes k))),
    )

pub returns : goal.returns
returns c =
    let five : c.loop-byte.byte-index ≡ 5 = omega (arith, c.loop-byte-test.false, c.loop-byte.auto.byte-index-end) in
    λ behind. subst (λ i. Passes c.args.cursor.now c.loop-byte.cursor (fixed magic behind) (fixed (drop i magic) behind) (take i magic))
    five (c.loop-byte.invariant.1 behind)
