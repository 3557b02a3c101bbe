use Rattle.sip_counts.proofs.Talks.{replies-more}
use Rattle.sip_counts.proofs.strategies.replies_one_by_one.Goals as goal

pub returns-clause-more : goal.returns-clause-more
returns-clause-more c = replies-more
