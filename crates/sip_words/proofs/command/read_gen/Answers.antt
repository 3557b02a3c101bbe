use Rattle.std.proofs.Common.{refl, arith}
use Rattle.sip_words.specs.declared.verb.Verb.TheVariants.{Gen}
use Rattle.sip_words.proofs.Stopping.{refused_more, whole_end, no_word}
use Rattle.sip_words.proofs.command.read_gen.Goals as goal

pub returns-in_default-clause-refused : goal.returns-in_default-clause-refused
returns-in_default-clause-refused c = λ fitted.
    let deep = fitted.1.1 2 (omega arith) in
    absurd (c.in_default.ensures fitted.1.0 deep.0 deep.1)

pub returns-then-has_word-clause-refused : goal.returns-then-has_word-clause-refused
returns-then-has_word-clause-refused c = λ fitted. refused_more Gen c.args.words.now 4 fitted refl refl (c.has_word.ensures.0 c.if-has_word.true)

pub returns-clause-command : goal.returns-clause-command
returns-clause-command c = λ fitted. (whole_end Gen c.args.words.now fitted refl (no_word _ 4 _ c.has_word.ensures c.if-has_word.false), c.in-Some.ensures.1)
