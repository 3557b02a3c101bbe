use Rattle.sip_keeping.proofs.AskRead.{all_asked, mapped_err, mapped_ok, refused_first, refused_name, refused_question}
use Rattle.sip_keeping.proofs.Refused.{no_such}
use Rattle.sip_keeping.proofs.ask_words.read_ask_words.Goals as goal

pub returns-then-not-asks_sketch-clause-refused : goal.returns-then-not-asks_sketch-clause-refused
returns-then-not-asks_sketch-clause-refused c =
    refused_first c.args.words.now (λ some first. no_such _ c.asks_sketch.ensures c.if-not-asks_sketch.true (some, first))

pub returns-in-Some-clause-refused : goal.returns-in-Some-clause-refused
returns-in-Some-clause-refused c =
    let first = c.asks_sketch.ensures.0 c.if-not-asks_sketch.false in
    let stops = c.in-Some.ensures in
    refused_name c.args.words.now c.in-Some.word first.1 stops.0 stops.1 stops.2 stops.3

pub returns-clause-asked : goal.returns-clause-asked
returns-clause-asked c =
    let first = c.asks_sketch.ensures.0 c.if-not-asks_sketch.false in
    mapped_ok c.read_questions.result _ _ c.read_questions.ensures.questions (λ asked is. all_asked c.args.words.now asked.items first.1 c.in_default.ensures is.0 is.1 is.2)

pub returns-clause-refused : goal.returns-clause-refused
returns-clause-refused c =
    let first = c.asks_sketch.ensures.0 c.if-not-asks_sketch.false in
    mapped_err c.read_questions.result _ _ c.read_questions.ensures.refused (λ usage stops. refused_question c.args.words.now usage.word first.1 c.in_default.ensures stops)
