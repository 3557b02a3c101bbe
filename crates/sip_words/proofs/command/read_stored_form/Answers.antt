use Rattle.std.proofs.Common.{arith, subst}
use Rattle.sip_words.specs.Shapes.{IsOf}
use Rattle.sip_words.specs.Words.{word}
use Rattle.sip_words.proofs.Stopping.{refused_more, whole_end, no_word}
use Rattle.sip_words.proofs.command.read_stored_form.Goals as goal

pub returns-in_default-clause-refused : goal.returns-in_default-clause-refused
returns-in_default-clause-refused c = λ verb takes fitted.
    let some = takes.some in
    let more = fitted.1.0 in
    let stored = subst (λ s. IsOf s (word c.args.words.now 1)) takes.stored (fitted.1.1 0 (omega arith)) in
    absurd (c.in_default.ensures (omega arith) stored.0 stored.1)

pub returns-then-has_word-clause-refused : goal.returns-then-has_word-clause-refused
returns-then-has_word-clause-refused c = λ verb takes fitted.
    let ends = takes.ends_is in
    refused_more verb c.args.words.now c.args.ends fitted takes.most (omega arith)
    (c.has_word.ensures.0 c.if-has_word.true)

pub returns-clause-read : goal.returns-clause-read
returns-clause-read c = λ verb takes fitted.
    let ends = takes.ends_is in
    let none = no_word _ c.args.ends _ c.has_word.ensures c.if-has_word.false in
    (whole_end verb c.args.words.now fitted takes.least (omega arith), c.in-Some.ensures.1)
