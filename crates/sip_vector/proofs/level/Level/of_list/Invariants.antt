use Rattle.std.proofs.Common.{◌≡◌, ◌++◌, map, drop}
use Rattle.sip_vector.specs.inside.Gathered.{as_pair}
use Rattle.sip_vector.specs.Levels.{index_and_residue, residues_of}
use Rattle.sip_vector.proofs.level.Level.of_list.Given as goal

-- the spots so far and those of the entries that are left are the spots of all entries
abbrev pub invariant-loop-entry : goal.invariant-loop-entry
invariant-loop-entry g l =
    map (index_and_residue g.F.Field.number) l.spots.items ++ residues_of g.F.Field.MODULUS (map as_pair (drop l.entry-index l.list))
    ≡ residues_of g.F.Field.MODULUS (map as_pair l.list)
