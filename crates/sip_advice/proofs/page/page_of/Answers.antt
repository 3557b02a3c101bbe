use Rattle.sip_advice.proofs.PageWords.{refused_text, part_is_text}
use Rattle.sip_advice.proofs.page.page_of.Goals as goal

pub returns-in-Some-clause-alone : goal.returns-in-Some-clause-alone
returns-in-Some-clause-alone c = λ w some is. refused_text c.args.words.now c.in-Some.word.now c.in-Some.ensures (c.text_alone.ensures.only some)

pub returns-in-Some-clause-refused : goal.returns-in-Some-clause-refused
returns-in-Some-clause-refused c = λ some. (0, refused_text c.args.words.now c.in-Some.word.now c.in-Some.ensures (c.text_alone.ensures.only some))

pub returns-in-None-clause-only : goal.returns-in-None-clause-only
returns-in-None-clause-only c = λ some. part_is_text c.args.words.now c.part_alone.result c.part_alone.ensures.only some
