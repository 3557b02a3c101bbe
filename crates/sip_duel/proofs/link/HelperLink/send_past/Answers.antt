use Rattle.std.proofs.Common.{sym, append-nil, ◌∙◌, []}
use Rattle.sip_duel.proofs.KeepsLemmas.{keeps_past}
use Rattle.sip_duel.proofs.link.HelperLink.send_past.Goals as goal

pub returns-in-Ok-clause-keeps : goal.returns-in-Ok-clause-keeps
returns-in-Ok-clause-keeps g c = keeps_past _ c.args.self.now.kept c.put_past.new.self c.args.buf.now c.requires.shut c.in-Ok.ensures.talk c.put_past.ensures.out c.put_past.ensures.at c.put_past.ensures.mood

pub returns-in-Err-clause-keeps : goal.returns-in-Err-clause-keeps
returns-in-Err-clause-keeps g c = keeps_past _ c.args.self.now.kept c.put_past.new.self [] c.requires.shut (c.in-Err.ensures.talk ∙ sym (append-nil c.args.self.now.kept.talk.items)) c.put_past.ensures.out c.put_past.ensures.at c.put_past.ensures.mood
