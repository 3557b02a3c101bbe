use Rattle.sip_words.specs.inside.Progress.{AreAsked}
use Rattle.sip_words.proofs.asked.read_asked.Given as goal

abbrev pub invariant-loop-number : goal.invariant-loop-number
invariant-loop-number g l = AreAsked g.Q.AskedWord.is_word l.words l.depth l.first l.asked.items l.number
