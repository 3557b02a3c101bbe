use Rattle.sip_sums.proofs.AcceptedReplies.{are_stated}
use Rattle.sip_sums.proofs.StatedReplies.{are_judged, sums_are_same}
use Rattle.sip_sums.proofs.laws.replies_are_checked_over_whole_lists.Goals as goal

pub returns : goal.returns
returns c = record { accepted = are_stated; judged = are_judged; sums = sums_are_same }
