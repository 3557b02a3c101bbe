use Rattle.sip_wire.specs.Spelling.{spelling}
use Rattle.sip_session.proofs.Places.{on_all}
use Rattle.sip_session.proofs.hearing.say_all.Goals as goal

pub returns-clause-talks : goal.returns-clause-talks
returns-clause-talks g c =
    on_all _ _ (spelling c.args.version c.args.message.now) c.say_behind.result
    c.say_behind.ensures.talks
