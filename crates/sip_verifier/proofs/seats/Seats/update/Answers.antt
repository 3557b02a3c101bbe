use Rattle.sip_verifier.proofs.seats.Seats.update.Goals as goal

pub returns-clause-stands : goal.returns-clause-stands
returns-clause-stands c = λ depth queries blocks stream are. c.raise.ensures.stands depth queries blocks stream are
