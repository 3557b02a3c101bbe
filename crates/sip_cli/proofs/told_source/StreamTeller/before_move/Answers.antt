use Rattle.std.proofs.Common.{sym, ◌∙◌, refl}
use Rattle.sip_cli.specs.ToldStream.{line_before}
use Rattle.sip_cli.proofs.Telling.{says_nothing}
use Rattle.sip_cli.proofs.told_source.StreamTeller.before_move.Goals as goal

pub returns-else-is_due-clause-said : goal.returns-else-is_due-clause-said
returns-else-is_due-clause-said g c =
    let old = c.args.self.now in
    says_nothing g.W.Sink.talk g.W.Sink.faults g.W.Sink.wants g.W.Sink.is_sure old.lines.sink (line_before c.args.now old.reading) (rw (sym c.is_due.ensures ∙ c.if-is_due.false) refl)
