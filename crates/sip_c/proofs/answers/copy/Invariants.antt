use Rattle.std.proofs.Common.{◌≡◌, length, take, drop}
use Rattle.sip_c.specs.Asking.{codes_of}
use Rattle.sip_c.proofs.answers.copy.Given as goal

-- those so far were copied, and the others are as they were
abbrev pub invariant-loop-place : goal.invariant-loop-place
invariant-loop-place l = record {
  long : length l.to ≡ length l.fn.to;
  copied : take l.place l.to ≡ codes_of (take l.place (drop l.fn.from l.fn.entries));
  rest : drop l.place l.to ≡ drop l.place l.fn.to;
}
