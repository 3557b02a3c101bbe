-- The seats of the questions so far.
use Rattle.std.proofs.Common.{map}
use Rattle.sip_field.specs.Elements.{m61_number}
use Rattle.sip_runs.proofs.Begun.{AreBegun}
use Rattle.sip_runs.proofs.seats.begin_seats.Given as goal

abbrev pub invariant-loop-index : goal.invariant-loop-index
invariant-loop-index l = AreBegun l.fn.depth l.levels l.index l.questions (map m61_number l.challenges) l.seats.items
