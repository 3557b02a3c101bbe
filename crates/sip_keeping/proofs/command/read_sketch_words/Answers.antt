use Rattle.sip_keeping.proofs.Verbs.{refused_verb}
use Rattle.sip_keeping.proofs.command.read_sketch_words.Goals as goal

pub returns-in_default-clause-refused : goal.returns-in_default-clause-refused
returns-in_default-clause-refused c = refused_verb c.args.words.now c.in_default.ensures
