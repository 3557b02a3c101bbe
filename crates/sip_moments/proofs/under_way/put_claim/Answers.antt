-- A claim that fits a frame has a spelling.
use Rattle.std.proofs.Common.{FitsSigned, rules, w64}
use Rattle.sip_helper.proofs.SumReplies.{claim_has_room}
use Rattle.sip_moments.proofs.under_way.put_claim.Goals as goal

pub encode-requires : goal.encode-requires
encode-requires g c =
    let range : FitsSigned w64 c.claim.result = search rules in
    claim_has_room c.args.version c.claim.result range c.claim.ensures.fits
