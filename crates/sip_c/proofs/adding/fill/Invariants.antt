use Rattle.std.proofs.Common.{◌≡◌, length, take, drop}
use Rattle.sip_c.specs.Weighing.{updates_of}
use Rattle.sip_c.proofs.adding.fill.Given as goal

-- those so far were written
abbrev pub invariant-loop-place : goal.invariant-loop-place
invariant-loop-place g l = record {
  long : length l.block ≡ length l.fn.block;
  filled : take l.place l.block ≡ take l.place (drop l.fn.from (updates_of (g.C.Codes.codes l.fn.codes)));
}
