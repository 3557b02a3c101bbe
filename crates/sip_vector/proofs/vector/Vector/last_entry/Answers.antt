use Rattle.std.proofs.Common.{◌^◌, sym, ap, ◌∙◌}
use Rattle.sip_vector.specs.Vectors.{contents, last_of}
use Rattle.sip_vector.proofs.Gathers.{nonzero_within-list}
use Rattle.sip_vector.proofs.vector.Vector.last_entry.Goals as goal

pub returns-in-Some : goal.returns-in-Some
returns-in-Some c =
    c.last_between.ensures (2 ^ c.args.self.now.depth) c.in-Some.ensures.list.sparse
    ∙ sym (ap last_of (nonzero_within-list (contents c.args.self.now) c.in-Some.list.now c.args.lo c.args.to c.in-Some.ensures.list))
