use Rattle.std.proofs.Common.{◌≡◌, ◌+◌, ◌<◌, take}
use Rattle.sip_vector.specs.Streams.{weight}
use Rattle.sip_vector.specs.declared.update.Side.TheVariants.{First, Second}
use Rattle.sip_c.specs.Weighing.{CanCome, updates_of}
use Rattle.sip_c.proofs.testing.first_bad.Given as goal

-- those so far may come
abbrev pub invariant-loop-place : goal.invariant-loop-place
invariant-loop-place g l = record {
  left : l.left ≡ l.fn.first + weight (updates_of (take l.place (g.C.Codes.codes l.fn.codes))) First;
  right : l.right ≡ l.fn.second + weight (updates_of (take l.place (g.C.Codes.codes l.fn.codes))) Second;
  come : 0 < l.place → CanCome (record { depth = l.fn.depth; first = l.fn.first; second = l.fn.second }) (take l.place (g.C.Codes.codes l.fn.codes));
}
