use Rattle.sip_counts.proofs.Talks.{map_of_bytes}
use Rattle.sip_counts.proofs.strategies.finite_maps_are_strategies.Goals as goal

pub returns-clause-bytes : goal.returns-clause-bytes
returns-clause-bytes c = map_of_bytes
