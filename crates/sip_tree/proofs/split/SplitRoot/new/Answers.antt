-- The split root of zeros is 0 and 0, and there are as many as said.
use Rattle.std.proofs.Common.{sym, ◌^◌, length, pos}
use Rattle.std.proofs.lemmas.List.{length-replicate}
use Rattle.sip_vector.proofs.SplitTree.{splittop_of_zeros}
use Rattle.sip_tree.proofs.split.SplitRoot.new.Goals as goal

pub returns-clause-stands : goal.returns-clause-stands
returns-clause-stands g c = record {
  whole = length-replicate (2 ^ length c.args.seat) (pos 0);
  weighed = length-replicate (2 ^ length c.args.seat) (pos 0);
  same = sym (splittop_of_zeros g.F.Field.MODULUS (2 ^ length c.args.seat) c.args.seat);
}
