-- The update that is slipped in fits a frame.
use Rattle.std.proofs.Common.{◌≡◌, rules}
use Rattle.sip_duel.proofs.SkewLemmas.{one_update_fits}
use Rattle.sip_duel.proofs.skewed.SkewedHelper.hear.Goals as goal

pub slip_in-requires : goal.slip_in-requires
slip_in-requires c =
    let lent : c.deref.result.now ≡ c.args.self.now.one_more.value = search rules in
    rw (lent, c.args.self.now.counts) one_update_fits
