-- As many are left as were not asked.
use Rattle.std.proofs.Common.{◌≡◌, ◌-◌, ℕ, length, subst, arith}
use Rattle.sip_moments.specs.Sittings.{Sitting, remaining_of}
use Rattle.sip_moments.proofs.MomentSittings.{left_is}
use Rattle.sip_moments.proofs.asker.QuestionsAsker.left.Goals as goal

pub returns : goal.returns
returns c =
    let asked : ℕ = c.self.inside.asked in
    let left = left_is asked c.self.inside.moments.items c.self.inside.seats c.self.inside.same in
    subst (λ (s : Sitting). c.len.result - asked ≡ length (remaining_of s).left) c.self.view_is
    (omega (arith, left, c.len.ensures.value))
