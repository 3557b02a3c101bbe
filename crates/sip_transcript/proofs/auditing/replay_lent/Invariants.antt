-- What the source has, and which loan it is.
use Rattle.sip_transcript.proofs.auditing.replay_lent.Given as goal

abbrev pub ghosts-replay : goal.ghosts-replay
ghosts-replay g a = record { first = g.B.Source.left a.source.now; lent = a.source.ghost_name }
