use Rattle.std.proofs.Common.{sym, ◌∙◌, ap, arith}
use Rattle.std.proofs.lemmas.List.{drop_all}
use Rattle.sip_vector.specs.Weights.{hash_weight_from}
use Rattle.sip_tree.proofs.WeightSteps.{hash_right, hash_left}
use Rattle.sip_tree.proofs.weight.hash_weighted.Goals as goal
use Rattle.sip_tree.proofs.weight.hash_weighted.Goals.{then-path-eq1, else-path-eq1}

pub loop-below-preserved : goal.loop-below-preserved
loop-below-preserved g c = elim c.if-path-eq1.branch [
  | then-path-eq1 w ↦
      rw (w.weight-is, w.times-weight.ensures, w.times.ensures, c.plus-sum.ensures, c.at-r.ensures)
      (hash_right _ c.args.seat.now c.loop-below.below c.loop-below.path (omega arith) _ w.if-path-eq1.true ∙ c.loop-below.invariant)
  | else-path-eq1 w ↦
      rw (w.weight-is, c.plus-sum.ensures, c.at-r.ensures)
      (hash_left _ c.args.seat.now c.loop-below.below c.loop-below.path (omega arith) _ w.if-path-eq1.false ∙ c.loop-below.invariant)
]

pub returns : goal.returns
returns g c =
    sym (ap (hash_weight_from g.F.Field.MODULUS _ c.loop-below.path) (drop_all _ c.args.seat.now (omega arith))) ∙ c.loop-below.invariant
