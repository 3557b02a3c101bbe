use Rattle.sip_keeping.specs.inside.AskSoFar.{AreQuestionsTo}
use Rattle.sip_keeping.proofs.ask_words.read_questions.Given as goal

-- the words so far ask these
abbrev pub invariant-loop-number : goal.invariant-loop-number
invariant-loop-number l = AreQuestionsTo l.words l.first l.number l.asked.items
