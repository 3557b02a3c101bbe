use Rattle.std.proofs.Common.{take}
use Rattle.sip_wire.specs.Frames.{frame_message}
use Rattle.sip_duel.specs.Story.{sent_part}
use Rattle.sip_duel.proofs.KeepsLemmas.{keeps_part, keeps_stopped, keeps_whole, taken_fits}
use Rattle.sip_duel.proofs.link.HelperLink.send.Goals as goal

pub hear-requires : goal.hear-requires
hear-requires g c = taken_fits c.args.self.now.kept.version c.put.new.self.version (sent_part c.args.self.now.kept) (take c.min-count.result c.args.buf.now) (sent_part c.put.new.self) c.in-Ok-Whole.field-0 (frame_message c.put.new.self.frame) c.in-Ok-Whole.field-0-is c.in-Ok-Whole.ensures.ok

pub returns-in-Ok-Part-clause-keeps : goal.returns-in-Ok-Part-clause-keeps
returns-in-Ok-Part-clause-keeps g c = keeps_part _ c.args.self.now.kept c.put.new.self _ c.in-Ok-Part.field-0 _ c.in-Ok-Part.field-0-is c.in-Ok-Part.ensures.talk c.in-Ok-Part.ensures.ok c.put.ensures.out c.put.ensures.at c.put.ensures.mood

pub returns-in-Ok-Whole-clause-keeps : goal.returns-in-Ok-Whole-clause-keeps
returns-in-Ok-Whole-clause-keeps g c = keeps_whole _ _ c.args.self.now.kept c.put.new.self c.hear.new.self.kept _ c.in-Ok-Whole.field-0 (frame_message c.put.new.self.frame) c.in-Ok-Whole.field-0-is c.requires.opened c.hear.ensures.hears c.in-Ok-Whole.ensures.talk c.in-Ok-Whole.ensures.ok c.put.ensures.out c.put.ensures.at c.put.ensures.mood c.hear.ensures.kept

pub returns-in-Ok-NoFrame-clause-keeps : goal.returns-in-Ok-NoFrame-clause-keeps
returns-in-Ok-NoFrame-clause-keeps g c = keeps_stopped _ _ c.args.self.now.kept _ _ _ _ c.in-Ok-NoFrame.field-0 _ _ c.in-Ok-NoFrame.field-0-is c.requires.opened c.in-Ok-NoFrame.ensures.talk c.in-Ok-NoFrame.ensures.ok
