use Rattle.sip_duel.proofs.KeepsLemmas.{keeps_ended, keeps_same}
use Rattle.sip_duel.proofs.link.HelperLink.recv_over.Goals as goal

pub returns-in-Ok-clause-keeps : goal.returns-in-Ok-clause-keeps
returns-in-Ok-clause-keeps g c = keeps_ended _ c.args.self.now.kept c.end_again.new.self c.requires.over c.end_again.ensures.out c.end_again.ensures.at c.end_again.ensures.mood c.in-Ok.ensures.ok

pub returns-in-Err-clause-keeps : goal.returns-in-Err-clause-keeps
returns-in-Err-clause-keeps g c = keeps_same _ c.args.self.now.kept c.end_again.new.self c.in-Err.ensures.err c.end_again.ensures.part c.end_again.ensures.version c.end_again.ensures.out c.end_again.ensures.at c.end_again.ensures.mood
