use Rattle.sip_vector.proofs.Joined.{tally-append, legal_sound}
use Rattle.sip_vector.proofs.laws.tallies_add_up.Goals as goal

pub returns-clause-both : goal.returns-clause-both
returns-clause-both c = tally-append

pub returns-clause-sound : goal.returns-clause-sound
returns-clause-sound c = legal_sound
