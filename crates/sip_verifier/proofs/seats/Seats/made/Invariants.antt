use Rattle.std.proofs.Common.{map}
use Rattle.sip_field.specs.Elements.{m61_number}
use Rattle.sip_verifier.proofs.SeatsGiven.{AreGiven}
use Rattle.sip_verifier.proofs.seats.Seats.made.Given as goal

abbrev pub invariant-loop-index : goal.invariant-loop-index
invariant-loop-index l = AreGiven l.depth l.levels l.index l.queries (map m61_number l.challenges) l.seats.items
