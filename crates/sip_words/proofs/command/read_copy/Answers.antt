use Rattle.std.proofs.Common.{ap, length, arith}
use Rattle.sip_words.proofs.Stopping.{refused_more, stream_and_depth, whole_end, no_word}
use Rattle.sip_words.proofs.command.read_copy.Goals as goal

pub returns-in_default-clause-refused : goal.returns-in_default-clause-refused
returns-in_default-clause-refused c = λ verb takes fitted.
    let behind = stream_and_depth verb _ takes fitted in
    absurd (c.in_default.ensures behind.0 behind.2.0 behind.2.1)

pub returns-in_default-form_of-clause-refused : goal.returns-in_default-form_of-clause-refused
returns-in_default-form_of-clause-refused c = λ verb takes fitted.
    let behind = stream_and_depth verb _ takes fitted in
    let more = behind.0 in
    absurd (c.in_default-form_of.ensures (omega arith) behind.1.0 behind.1.1)

pub returns-then-has_word-clause-refused : goal.returns-then-has_word-clause-refused
returns-then-has_word-clause-refused c = λ verb takes fitted.
    let two = ap length takes.shaped in
    refused_more verb c.args.words.now 3 fitted takes.most (omega arith) (c.has_word.ensures.0 c.if-has_word.true)

pub returns-clause-read : goal.returns-clause-read
returns-clause-read c = λ verb takes fitted.
    let two = ap length takes.shaped in
    let few = no_word _ 3 _ c.has_word.ensures c.if-has_word.false in
    (whole_end verb c.args.words.now fitted takes.least (omega arith), c.in-Some-form_of.ensures, c.in-Some.ensures.1)
