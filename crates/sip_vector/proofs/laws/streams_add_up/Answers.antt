use Rattle.std.proofs.lemmas.List.{length-append}
use Rattle.sip_vector.proofs.Lines.{vector_joined}
use Rattle.sip_vector.proofs.Sides.{weight-append, total-append}
use Rattle.sip_vector.proofs.Splits.{weights_joined}
use Rattle.sip_vector.proofs.laws.streams_add_up.Goals as goal

pub returns : goal.returns
returns c = record {
  records = length-append;
  weight = weight-append;
  total = total-append;
  vector = vector_joined;
  weights = weights_joined;
}
