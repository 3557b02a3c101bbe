use Rattle.sip_session.proofs.hearing.open_all.Goals as goal

pub returns-clause-talks : goal.returns-clause-talks
returns-clause-talks g c = rw c.number.ensures at c.say_all.ensures.talks
