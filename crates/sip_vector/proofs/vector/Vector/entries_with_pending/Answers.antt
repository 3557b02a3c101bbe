use Rattle.std.proofs.lemmas.Result.{IfOk-weaker}
use Rattle.sip_vector.specs.Vectors.{contents}
use Rattle.sip_vector.proofs.Gathers.{nonzero-list}
use Rattle.sip_vector.proofs.vector.Vector.entries_with_pending.Goals as goal

pub returns : goal.returns
returns c = IfOk-weaker c.merged_list.result _ _ (λ list is. nonzero-list (contents c.args.self.now) list.items is) c.merged_list.ensures
