use Rattle.sip_heavy.proofs.ShareThresholds.{shares_heavy}
use Rattle.sip_heavy.proofs.shares.shares_are_thresholds.Goals as goal

pub returns : goal.returns
returns c = shares_heavy
