-- Words that are two have one first.
use Rattle.std.proofs.Common.{◌≡◌, ◌∙◌, sym, ap, subst}
use Rattle.sip_words.specs.Words.{word}
use Rattle.sip_advice.specs.Pages.{IsPart}
use Rattle.sip_advice.proofs.page.part_asked.Goals as goal

pub returns-then-asks_help-clause-part : goal.returns-then-asks_help-clause-part
returns-then-asks_help-clause-part c = λ text (first, second, helps, is, part).
    let same : first ≡ c.in_ok-first.first.now = ap (λ ws. word ws 0) (sym is ∙ c.in_ok-first.ensures) in
    c.part_about.ensures.part text (subst (λ w. IsPart w text) same part)
