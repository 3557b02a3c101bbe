-- Any count of records has a spelling.
use Rattle.std.proofs.Common.{rules}
use Rattle.sip_ask.proofs.HeldHeard.{recall_fits}
use Rattle.sip_ask.proofs.opening.send_count.Goals as goal

pub encode-requires : goal.encode-requires
encode-requires g c = recall_fits c.args.version c.args.count (search rules)
