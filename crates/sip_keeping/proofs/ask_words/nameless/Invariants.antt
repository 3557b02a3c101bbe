use Rattle.sip_keeping.specs.inside.SoFar.{AreNamesTo}
use Rattle.sip_keeping.proofs.ask_words.nameless.Given as goal

-- the words so far are names
abbrev pub invariant-loop-number : goal.invariant-loop-number
invariant-loop-number l = AreNamesTo l.words 1 l.number
