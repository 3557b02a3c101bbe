-- The last of the lower coefficients becomes the first of the upper ones, by one step of Horner's
-- rule.
use Rattle.std.proofs.Common.{◌∷◌, [], sym, ◌∙◌, append_assoc}
use Rattle.sip_field.proofs.PolynomialLemmas.{drop_shorter, horner_step}
use Rattle.sip_field.proofs.polynomial.horner.Goals as goal

pub loop-coefficient-preserved : goal.loop-coefficient-preserved
loop-coefficient-preserved g c =
    let all = rw c.in-Some.ensures.steps at c.loop-coefficient.invariant.all in
    let value = rw c.in-Some.ensures.steps at c.loop-coefficient.invariant.value in
    let upper = drop_shorter _ _ _ all in
    record {
      all = rw upper (sym (append_assoc _ (_ ∷ []) _) ∙ all);
      value = rw (upper, c.plus-value.ensures, c.times.ensures) (horner_step _ _ _ _ _ value);
    }
