use Rattle.std.proofs.lemmas.Option.{IfSome_then}
use Rattle.sip_vector.specs.Vectors.{contents}
use Rattle.sip_vector.proofs.Gathers.{nonzero-list}
use Rattle.sip_vector.proofs.vector.Vector.entries.Goals as goal

pub returns : goal.returns
returns c = record {
  exact = IfSome_then c.settled_list.result c.settled_list.ensures.list (λ list is. nonzero-list (contents c.args.self.now) list.now is);
  settled = c.settled_list.ensures.settled;
}
