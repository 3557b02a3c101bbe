use Rattle.std.proofs.Common.{sym, ◌∙◌}
use Rattle.sip_words.proofs.Alone.{alone}
use Rattle.sip_words.proofs.words.Words.only.Goals as goal

pub returns : goal.returns
returns c = alone c.args.self.now c.get-2.result c.get.result c.get-2.ensures c.get.ensures (sym c.is_some.ensures ∙ c.if-is_some.false)
