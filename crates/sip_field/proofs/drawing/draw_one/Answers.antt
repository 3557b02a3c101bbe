-- Each answer is one step of the draw after what the loop kept.
use Rattle.std.proofs.lemmas.Bool.{false≢true}
use Rattle.std.proofs.Common.{ap, refl, ◌+◌, ◌-◌, ◌/◌, ◌<◌, ◌∙◌, sym, arith}
use Rattle.std.proofs.Math.Nat.{mod-eq_of_lt}
use Rattle.sip_field.specs.Moduli.{m61_modulus}
use Rattle.sip_field.proofs.OneDraw.{no_challenge, none_missed, missed_none, draw_hit, draw_miss, draw_spent}
use Rattle.sip_field.proofs.drawing.draw_one.Goals as goal

pub returns-then-challenge-ne-MODULUS-clause-exact : goal.returns-then-challenge-ne-MODULUS-clause-exact
returns-then-challenge-ne-MODULUS-clause-exact g c =
    let small : c.next_u64-challenge.result / 8 < m61_modulus = omega arith in
    let is = c.of.ensures ∙ mod-eq_of_lt small in
    rw is (sym (c.loop.invariant
    ∙ draw_hit _ (7 - c.loop.counter) _ _ _ (omega arith) c.next_u64-challenge.ensures c.if-challenge-ne-MODULUS.true))

pub loop-preserved : goal.loop-preserved
loop-preserved g c =
    c.loop.invariant
    ∙ draw_miss _ (8 - (c.loop.counter + 1)) _ _ _ (omega arith) c.next_u64-challenge.ensures c.if-challenge-ne-MODULUS.false

pub returns-clause-exact : goal.returns-clause-exact
returns-clause-exact g c = sym (c.loop.invariant ∙ draw_spent _ _ (omega arith))

pub returns-then-challenge-ne-MODULUS-clause-spent : goal.returns-then-challenge-ne-MODULUS-clause-spent
returns-then-challenge-ne-MODULUS-clause-spent g c = (
  λ err. absurd (false≢true err),
  λ missed. absurd (no_challenge _ (sym (ap (λ r. r.0) (c.loop.invariant
      ∙ draw_hit _ (7 - c.loop.counter) _ _ _ (omega arith) c.next_u64-challenge.ensures c.if-challenge-ne-MODULUS.true))
      ∙ missed_none 8 _ missed)),
)

pub returns-clause-spent : goal.returns-clause-spent
returns-clause-spent g c = (λ err. none_missed 8 _ (ap (λ r. r.0) (c.loop.invariant ∙ draw_spent _ _ (omega arith))), λ missed. refl)
