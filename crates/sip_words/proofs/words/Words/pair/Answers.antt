use Rattle.std.proofs.Common.{sym, ◌∙◌}
use Rattle.sip_words.proofs.Alone.{paired}
use Rattle.sip_words.proofs.words.Words.pair.Goals as goal

pub returns : goal.returns
returns c = paired c.args.self.now c.in_ok-get.field-0.now c.in_ok-get-2.field-0.now c.get.result c.in_ok-get.ensures c.in_ok-get-2.ensures c.get.ensures (sym c.is_some.ensures ∙ c.if-is_some.false)
