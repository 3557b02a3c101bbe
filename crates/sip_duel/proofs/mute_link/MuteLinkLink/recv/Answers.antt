use Rattle.std.proofs.Common.{◌∙◌, arith}
use Rattle.sip_duel.proofs.CauseLemmas.{caused}
use Rattle.sip_duel.proofs.mute_link.MuteLinkLink.recv.Goals as goal

pub returns-clause-cause : goal.returns-clause-cause
returns-clause-cause g c =
    let why = caused c.receive.result c.args.self.now.link.wants.count _ c.args.self.now.link.wants.fits c.receive.ensures.wants in
    record {
      later = omega arith;
      wants_later = why.later;
      failed = why.failed;
      wanted = why.wanted;
      sure = λ silent. let still = c.receive.ensures.mute silent.0 in (still.0, still.1 ∙ silent.1);
    }
