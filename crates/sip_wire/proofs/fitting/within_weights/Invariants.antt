use Rattle.std.proofs.Common.{◌≡◌, drop}
use Rattle.std.specs.List.{flat_map}
use Rattle.sip_wire.specs.Spelling.{mark_numbers}
use Rattle.sip_wire.specs.Table.{within_weights}
use Rattle.sip_wire.proofs.fitting.within_weights.Given as goal

abbrev pub invariant-loop-mark : goal.invariant-loop-mark
invariant-loop-mark l = within_weights (flat_map mark_numbers (drop l.mark-index l.marks)) ≡ within_weights (flat_map mark_numbers l.marks)
