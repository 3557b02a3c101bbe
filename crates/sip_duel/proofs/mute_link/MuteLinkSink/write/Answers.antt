use Rattle.std.proofs.Common.{ap, ◌∙◌, arith}
use Rattle.sip_ports.specs.Memory.{sink_bytes}
use Rattle.sip_duel.proofs.CauseLemmas.{caused}
use Rattle.sip_duel.proofs.mute_link.MuteLinkSink.write.Goals as goal

pub returns-clause-cause : goal.returns-clause-cause
returns-clause-cause g c =
    let why = caused c.transmit.result c.args.self.now.link.wants.count _ c.args.self.now.link.wants.fits c.transmit.ensures.wants in
    record {
      later = omega arith;
      wants_later = why.later;
      failed = why.failed;
      wanted = why.wanted;
      sure = λ silent. (c.transmit.ensures.mute silent.0, ap sink_bytes c.transmit.ensures.given.0 ∙ silent.1);
    }
