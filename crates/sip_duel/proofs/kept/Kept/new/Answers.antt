use Rattle.sip_duel.proofs.GivingLemmas.{none_is_short}
use Rattle.sip_duel.proofs.kept.Kept.new.Goals as goal

pub invariant_of-result-clause-short : goal.invariant_of-result-clause-short
invariant_of-result-clause-short c = none_is_short _ _ _ c.in_ok-frame.ensures
