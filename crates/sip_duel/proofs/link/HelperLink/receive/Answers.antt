use Rattle.sip_duel.proofs.KeepsLemmas.{keeps_same}
use Rattle.sip_duel.proofs.link.HelperLink.receive.Goals as goal

pub returns-else-is_err-clause-keeps : goal.returns-else-is_err-clause-keeps
returns-else-is_err-clause-keeps g c = λ p. c.recv_open.ensures.keeps (keeps_same _ c.args.self.now.kept c.reserve.new.self c.reserve.ensures.talk c.reserve.ensures.part c.reserve.ensures.version c.reserve.ensures.out c.reserve.ensures.at c.reserve.ensures.mood p)
