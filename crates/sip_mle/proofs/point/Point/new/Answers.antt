-- The extension of zeros is 0, and there are as many as said.
use Rattle.std.proofs.Common.{sym, ◌^◌, length, pos}
use Rattle.std.proofs.lemmas.List.{length-replicate}
use Rattle.sip_mle.proofs.Weighing.{ext_of_zeros}
use Rattle.sip_mle.proofs.point.Point.new.Goals as goal

pub returns-clause-stands : goal.returns-clause-stands
returns-clause-stands g c = record {
  whole = length-replicate (2 ^ length c.args.seat) (pos 0);
  same = sym (ext_of_zeros g.F.Field.MODULUS (2 ^ length c.args.seat) c.args.seat);
}
