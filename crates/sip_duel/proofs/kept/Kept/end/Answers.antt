use Rattle.sip_duel.proofs.GivingLemmas.{ended_or_not}
use Rattle.sip_duel.proofs.kept.Kept.end.Goals as goal

pub invariant_of-self-clause-given : goal.invariant_of-self-clause-given
invariant_of-self-clause-given c = ended_or_not _ c.args.self.now.talk.items c.push.new.self.items _ c.push.ensures.items c.args.self.now.given
