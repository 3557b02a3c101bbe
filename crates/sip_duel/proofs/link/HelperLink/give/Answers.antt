use Rattle.sip_duel.proofs.KeepsLemmas.{gave}
use Rattle.sip_duel.proofs.link.HelperLink.give.Goals as goal

pub returns-in-Ok-clause-keeps : goal.returns-in-Ok-clause-keeps
returns-in-Ok-clause-keeps g c = gave _ c.args.self.now.kept c.give.new.self c.give.new.buf c.give.result c.requires.well c.give.ensures.mood c.give.ensures.part c.give.ensures.version c.give.ensures.out c.give.ensures.bound c.give.ensures.talk c.give.ensures.left
