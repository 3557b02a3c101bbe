use Rattle.std.proofs.Common.{ap, length, arith}
use Rattle.sip_words.proofs.Stopping.{refused_more, whole_end, no_word}
use Rattle.sip_words.proofs.command.read_link.Goals as goal

pub returns-then-has_word-clause-refused : goal.returns-then-has_word-clause-refused
returns-then-has_word-clause-refused c = λ verb takes fitted.
    let two = ap length takes.shaped in
    refused_more verb c.args.words.now 3 fitted takes.most (omega arith) (c.has_word.ensures.0 c.if-has_word.true)

pub returns-clause-read : goal.returns-clause-read
returns-clause-read c = λ verb takes fitted.
    let two = ap length takes.shaped in
    let few = no_word _ 3 _ c.has_word.ensures c.if-has_word.false in
    whole_end verb c.args.words.now fitted takes.least (omega arith)
