use Rattle.std.proofs.Common.{◌≡◌, ◌%◌, ◌<◌, length, ap, rules, arith}
use Rattle.std.specs.Prelude.{is_some}
use Rattle.sip_subvec.specs.Checking.{Kept}
use Rattle.sip_subvec.proofs.TakingSteps.{even_below}
use Rattle.sip_subvec.proofs.check.SubCheck.right_term.Goals as goal

pub weight_above-requires : goal.weight_above-requires
weight_above-requires g c =
    let s = c.self.inside in
    let level = ap (λ (k : Kept). k.level) c.self.view_is in
    let size = ap (λ (k : Kept). length k.challenges) c.self.view_is in
    let end = ap (λ (k : Kept). k.hi) c.self.view_is in
    let asked = c.requires.asked (ap is_some c.in-Some.is) in
    let left : s.level < length s.root.seat = omega (arith, c.requires.left, level, size) in
    let even : s.hi % 2 ≡ 0 = omega (arith, asked, end) in
    (search rules, (c.self.invariant.0, even_below s.hi (length s.root.seat) s.level left even c.self.invariant.2))
