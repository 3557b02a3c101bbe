use Rattle.std.proofs.Common.{sym, subst}
use Rattle.std.specs.Str.{IsCharBoundary}
use Rattle.std.proofs.lemmas.Str.{IsCharBoundary-start}
use Rattle.sip_words.proofs.NamedPorts.{cut_behind_mark, some_not_none}
use Rattle.sip_words.proofs.plan.without.Goals as goal

pub returns-in_err-split_at_checked-clause-whole : goal.returns-in_err-split_at_checked-clause-whole
returns-in_err-split_at_checked-clause-whole c = λ none.
    let cut = subst (IsCharBoundary c.args.text.now) (sym none) (IsCharBoundary-start c.args.text.now c.utf8.text) in
    absurd (some_not_none c.split_at_checked.result c.in_err-split_at_checked.was (c.split_at_checked.ensures.variant.1 cut))

pub returns-in_err-split_at_checked-clause-marked : goal.returns-in_err-split_at_checked-clause-marked
returns-in_err-split_at_checked-clause-marked c = λ five marked.
    let cut = subst (IsCharBoundary c.args.text.now) (sym five) (cut_behind_mark c.args.text.now c.utf8.text marked) in
    absurd (some_not_none c.split_at_checked.result c.in_err-split_at_checked.was (c.split_at_checked.ensures.variant.1 cut))
