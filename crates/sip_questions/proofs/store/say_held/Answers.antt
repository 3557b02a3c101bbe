-- What is held has a spelling.
use Rattle.std.proofs.Common.{rules}
use Rattle.sip_questions.proofs.StoreTalks.{held_fits}
use Rattle.sip_questions.proofs.store.say_held.Goals as goal

pub encode-requires : goal.encode-requires
encode-requires g c = held_fits c.args.version c.held-said.result (search rules) (search rules) (search rules) (search rules)
