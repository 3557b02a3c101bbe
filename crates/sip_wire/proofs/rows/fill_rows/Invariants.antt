use Rattle.std.proofs.Common.{◌≡◌, All, length, take}
use Rattle.sip_wire.proofs.Repeated.{SoFar}
use Rattle.sip_wire.proofs.rows.fill_rows.Given as goal

abbrev pub invariant-loop-index : goal.invariant-loop-index
invariant-loop-index g l = record {
  so_far : SoFar g.T.Row.said (g.T.Row.layout l.version) l.count l.bytes l.index (take l.index l.rows.items) l.rest;
  in_range : All g.T.Row.in_range (take l.index l.rows.items);
  len : length l.rows.items ≡ l.count;
}
