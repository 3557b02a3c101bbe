use Rattle.std.proofs.Common.{◌-◌, length, subst, arith, rules}
use Rattle.std.specs.Io.KnownBytes.{Consumes}
use Rattle.std.proofs.KnownBytes.{Consumes-trans}
use Rattle.sip_ports.proofs.Steps.{filled_more}
use Rattle.sip_ports.proofs.whole.read_exact_into.Goals as goal

pub loop-filled-preserved : goal.loop-filled-preserved
loop-filled-preserved g c =
    let at = c.loop-filled.filled in
    let kept = c.loop-filled.invariant in
    let joined = filled_more at (length c.loop-filled.buf - at) c.in_ok-came.came c.loop-filled.buf c.read.new.buf kept.within c.in_ok-came.ensures.bound.0 in
    record {
      within = search rules;
      came = subst (Consumes _ _) joined (Consumes-trans _ _ _ _ _ kept.came c.in_ok-came.ensures.bytes.0);
      later = omega (arith, c.read.ensures.cause.later);
      wants_later = omega (arith, c.read.ensures.cause.wants_later);
      sure = λ sure. c.read.ensures.cause.sure (kept.sure sure);
    }
