use Rattle.sip_sketch.proofs.Shapes.{shape_of_first, shape_of_sketch}
use Rattle.sip_sketch.proofs.laws.a_sum_has_one_shape.Goals as goal

pub returns-clause-sketch : goal.returns-clause-sketch
returns-clause-sketch c = shape_of_sketch

pub returns-clause-first : goal.returns-clause-first
returns-clause-first c = shape_of_first
