-- The words spell the command.
use Rattle.sip.proofs.obey_over.Goals as goal

pub obey_keeping-requires : goal.obey_keeping-requires
obey_keeping-requires g c = (c.args.words.now, c.requires)

pub obey_keeping-requires-in-Nothing : goal.obey_keeping-requires-in-Nothing
obey_keeping-requires-in-Nothing g c = (c.args.words.now, c.requires)
