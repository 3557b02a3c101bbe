use Rattle.std.proofs.Common.{sym, ◌∙◌}
use Rattle.sip_keeping.proofs.Refused.{got}
use Rattle.sip_keeping.proofs.ask_words.asks_sketch.Goals as goal

pub returns-in-Some : goal.returns-in-Some
returns-in-Some c =
    let first = got c.args.words.now 0 c.in-Some.first c.in-Some.ensures in
    (λ holds. (first.0, first.1 ∙ c.is_ask.ensures.0 holds), λ both. c.is_ask.ensures.1 (sym first.1 ∙ both.1))
