use Rattle.std.proofs.Common.{◌≡◌, All, map, take}
use Rattle.arrayvec.specs.ArrayVec.{array_vec_len}
use Rattle.sip_sketch.specs.Sketches.{code_of}
use Rattle.sip_c.specs.Beginning.{IsKind}
use Rattle.sip_c.proofs.beginning.kinds_of.Given as goal

-- those so far are codes of these kinds
abbrev pub invariant-loop-code : goal.invariant-loop-code
invariant-loop-code l = record {
  many : array_vec_len l.kinds ≡ l.code-index;
  kinds : map code_of l.kinds.items ≡ take l.code-index l.fn.codes;
  codes : All IsKind (take l.code-index l.fn.codes);
}
