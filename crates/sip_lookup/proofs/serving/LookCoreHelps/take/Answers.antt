-- A message of the stream, or of a query, leaves the helper of queries fewer turns.
use Rattle.std.proofs.Common.{◌-◌}
use Rattle.sip_helper.specs.inside.Measures.{turns_left}
use Rattle.sip_wire.specs.Table.{most_queries}
use Rattle.sip_lookup.proofs.FewerTurns.{still_fewer}
use Rattle.sip_lookup.proofs.serving.LookCoreHelps.take.Goals as goal

pub returns-in_default-clause-fewer : goal.returns-in_default-clause-fewer
returns-in_default-clause-fewer c = rw (← c.self.view_is) (still_fewer _ c.hear_on.result (turns_left c.self.inside.core) (turns_left c.hear_on.new.self) (most_queries - c.self.inside.asked) c.hear_on.ensures.fewer)
