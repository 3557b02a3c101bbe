use Rattle.std.proofs.Common.{arith}
use Rattle.sip_duel.proofs.CauseLemmas.{caused}
use Rattle.sip_duel.proofs.link.HelperLinkSink.write.Goals as goal

pub returns-clause-cause : goal.returns-clause-cause
returns-clause-cause g c =
    let why = caused c.transmit.result c.args.self.now.wants.count _ c.args.self.now.wants.fits c.transmit.ensures.wants in
    record { later = omega arith; wants_later = why.later; failed = why.failed; wanted = why.wanted; sure = c.transmit.ensures.keeps }
