use Rattle.sip_wire.proofs.Lengths.{length_of_mark, has_length_of_mark}
use Rattle.sip_wire.proofs.laws.lengths_are_those_of_marks.Goals as goal

pub returns : goal.returns
returns c = λ version kind n. (length_of_mark version kind n, has_length_of_mark version kind n)
