-- How updates of one side are added to its vector.
use Rattle.std.specs.Prelude.{ℕ}
use Rattle.sip_vector.specs.declared.update.Update.{Update}
use Rattle.sip_vector.specs.Vectors.{SideVector, with_added}

-- the most updates that are split by side at once
abbrev pub most_in_piece : ℕ
most_in_piece = 128

-- the vector of a side once an update of that side is added
abbrev pub with_own : SideVector → Update → SideVector
with_own v u = with_added v u.item u.delta
