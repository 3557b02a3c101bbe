use Rattle.std.proofs.Common.{◌≡◌, length}
use Rattle.sip_wire.proofs.rows.make_rows.Given as goal

abbrev pub invariant-loop : goal.invariant-loop
invariant-loop g l = record { made : length l.rows.items ≡ l.counter }
