-- What the source has, and which loan it is.
use Rattle.sip_transcript_tests.proofs.replaying_tests.answers.Given as goal

abbrev pub ghosts-answers_over : goal.ghosts-answers_over
ghosts-answers_over g a = record { first = g.S.Source.left a.source.now; lent = a.source.ghost_name }
