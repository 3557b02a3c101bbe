-- What the source has, and which loan it is.
use Rattle.sip_transcript_tests.proofs.replaying_tests.receive.Given as goal

abbrev pub ghosts-receive_over : goal.ghosts-receive_over
ghosts-receive_over g a = record { first = g.S.Source.left a.source.now; lent = a.source.ghost_name }
