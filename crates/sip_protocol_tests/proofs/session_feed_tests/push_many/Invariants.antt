use Rattle.std.proofs.Common.{◌≡◌, ◌<◌, false, length}
use Rattle.sip_wire.specs.Table.{most_rows}
use Rattle.sip_wire.specs.declared.version.Version.TheVariants.{One}
use Rattle.sip_protocol_tests.proofs.session_feed_tests.push_many.Given as goal

abbrev pub invariant-loop : goal.invariant-loop
invariant-loop l = (l.feed.is_spent ≡ false) × (l.feed.version ≡ One) × (length l.feed.waiting < most_rows)
