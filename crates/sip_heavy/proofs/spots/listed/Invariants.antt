use Rattle.std.proofs.Common.{◌≡◌, map, take}
use Rattle.sip_heavy.specs.Spots.{leaf_of_entry}
use Rattle.sip_heavy.proofs.spots.listed.Given as goal

-- the leaves of the entries so far
abbrev pub invariant-loop-entry : goal.invariant-loop-entry
invariant-loop-entry g l = l.spots.items ≡ map (leaf_of_entry g.F.Field.MODULUS) (take l.entry-index l.entries)
