use Rattle.std.proofs.Common.{◌≡◌, ◌-◌, ◌≤◌, Bool, length, drop}
use Rattle.sip_heavy.specs.Spots.{shown_spots}
use Rattle.sip_heavy.proofs.spots.pass_light.Given as goal

-- what was passed shows nothing
abbrev pub invariant-loop-place : goal.invariant-loop-place
invariant-loop-place l = record {
  order : l.from ≤ l.place;
  within : l.place ≤ length l.spots;
  shown : (is_leaf : Bool) → shown_spots l.at_least is_leaf (drop l.from l.spots) ≡ shown_spots l.at_least is_leaf (drop l.place l.spots);
}

abbrev pub decreases-loop-place : goal.decreases-loop-place
decreases-loop-place l = length l.spots - l.place
