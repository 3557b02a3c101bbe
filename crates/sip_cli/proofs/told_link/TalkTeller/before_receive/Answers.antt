use Rattle.std.proofs.Common.{sym, ◌∙◌}
use Rattle.sip_cli.specs.ToldTalk.{hears_on, line_before}
use Rattle.sip_cli.proofs.Telling.{none_due, says_nothing}
use Rattle.sip_cli.proofs.told_link.TalkTeller.before_receive.Goals as goal

pub returns-else-hears_on-clause-said : goal.returns-else-hears_on-clause-said
returns-else-hears_on-clause-said g c =
    let old = c.args.self.now in
    says_nothing g.W.Sink.talk g.W.Sink.faults g.W.Sink.wants g.W.Sink.is_sure old.lines.sink (line_before c.args.now old.turn) (none_due old.turn.is_due (hears_on c.args.now old.turn) _ _ c.if-self.false (sym c.hears_on.ensures ∙ c.if-hears_on.false))
