-- What is asked for large entries.
use Rattle.std.specs.Prelude.{ℕ, ◌*◌, ◌/◌}
use Rattle.sip_vector.specs.declared.query.Query.{Query}
use Rattle.sip_vector.specs.declared.query.Query.TheVariants as queries
use Rattle.sip_vector.specs.Answers.{Fits}
use Rattle.sip_wire.specs.declared.message.Message.{Message}
use Rattle.sip_wire.specs.declared.message.Message.TheVariants as messages
use Rattle.sip_wire.specs.declared.version.Version.{Version}
use Rattle.sip_wire.specs.Versions.{Speaks}
use Rattle.sip_above.specs.declared.large.Large.{Large}

-- the query that asks for them
abbrev pub query_of : Large → Query
query_of l = queries.Above l.side l.at_least

-- its message
abbrev pub ask_of : Large → Message
ask_of l = messages.Query (query_of l)

-- they can be asked for at this depth in this version
abbrev pub CanAskLarge : Version → ℕ → Large → Type 0
CanAskLarge version depth l = Fits depth (query_of l) × Speaks version depth (query_of l)

-- how many nodes a level of the replies may have, and entries the answer, for a side of this weight
abbrev pub most_nodes_of : Large → ℕ → ℕ
most_nodes_of l weight = 2 * (weight / l.at_least)
