use Rattle.std.proofs.Common.{arith}
use Rattle.sip_sums.proofs.LegalTotals.{legal_small}
use Rattle.sip_sums.proofs.completeness.legal_streams_can_be_summed.Goals as goal

pub returns : goal.returns
returns c = λ depth stream q l legal levels is.
    let small = legal_small depth stream q l legal is in
    record {
      some = omega arith;
      elements = omega arith;
      levels = levels;
      size = small.first;
      same = small.second;
      small = small.fits;
    }
