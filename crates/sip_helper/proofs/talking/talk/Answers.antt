-- Where there is no memory for a frame, nothing is received.
use Rattle.sip_helper.proofs.Talks.{serves_nothing}
use Rattle.sip_helper.proofs.talking.talk.Goals as goal

pub returns-in_default-clause-serves : goal.returns-in_default-clause-serves
returns-in_default-clause-serves g c = serves_nothing g.H.Helps.rules g.H.Helps.turns_left c.args.helper 0 (g.L.Sink.talk c.args.link.now) c.requires.going
