use Rattle.std.proofs.Common.{◌≡◌, ◌-◌, ◌≤◌, ◌++◌, map, take, drop, vec_len}
use Rattle.sip_vector.specs.Levels.{index_and_residue, residue_above, folded}
use Rattle.sip_vector.proofs.level.fold_spots.Given as goal

-- the spots written and those above the spots that are left are the spots above all
abbrev pub invariant-loop-read : goal.invariant-loop-read
invariant-loop-read g l =
    let join = residue_above g.F.Field.MODULUS l.rule (g.F.Field.number l.r) in
    let entries = map (index_and_residue g.F.Field.number) l.spots.items in
    record {
      before : l.written ≤ l.read;
      within : l.read ≤ vec_len l.spots;
      above : take l.written entries ++ folded join (drop l.read entries) ≡ folded join (map (index_and_residue g.F.Field.number) l.initial.spots.items);
    }

abbrev pub decreases-loop-read : goal.decreases-loop-read
decreases-loop-read g l = vec_len l.spots - l.read
