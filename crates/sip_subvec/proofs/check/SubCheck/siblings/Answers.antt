use Rattle.std.proofs.Common.{◌≡◌, ◌+◌, ◌%◌, ◌<◌, length, sym, subst, ap, ◌∙◌, arith}
use Rattle.std.specs.Option.{option_map}
use Rattle.std.proofs.Math.Nat.{add-mod-mod}
use Rattle.sip_subvec.specs.AcceptsSub.{Siblings}
use Rattle.sip_subvec.specs.Replies.{are_asked}
use Rattle.sip_subvec.specs.Checking.{Kept, HasTaken, level_sum}
use Rattle.sip_subvec.proofs.TakingSteps.{siblings_taken, half_below}
use Rattle.sip_subvec.proofs.check.SubCheck.siblings.Goals as goal

pub invariant_of-self-2 : goal.invariant_of-self-2
invariant_of-self-2 g c =
    let s = c.self.inside in
    let level = ap (λ (k : Kept). k.level) c.self.view_is in
    let size = ap (λ (k : Kept). length k.challenges) c.self.view_is in
    let left : s.level < length s.root.seat = omega (arith, c.requires.left, level, size) in
    (omega arith, omega (arith, c.self.invariant.1), half_below s.hi (length s.root.seat) s.level left c.self.invariant.2)

pub returns-clause-answers : goal.returns-clause-answers
returns-clause-answers g c root lo hi challenges s taken =
    let p = g.F.Field.MODULUS in
    let number = g.F.Field.number in
    let x : Siblings = record { left = option_map number c.args.left; right = option_map number c.args.right } in
    let term : number c.level_term-term.result ≡ level_sum p c.self.inside.root.seat c.self.inside.level c.self.inside.lo c.self.inside.hi x % p =
    c.level_term-term.ensures ∙ ap (λ (k : Kept). level_sum p k.challenges k.level k.lo k.hi x % p) (sym c.self.view_is) in
    let sum : number c.plus-self-inside.result ≡ (number c.self.inside.sum + level_sum p c.self.inside.root.seat c.self.inside.level c.self.inside.lo c.self.inside.hi x) % p =
    c.plus-self-inside.ensures ∙ ap (λ k. (number c.self.inside.sum + k) % p) term ∙ add-mod-mod (number c.self.inside.sum) (level_sum p c.self.inside.root.seat c.self.inside.level c.self.inside.lo c.self.inside.hi x) p in
    siblings_taken p root lo hi challenges s _ (subst (HasTaken p root lo hi challenges s) (sym c.self.view_is) taken) x c.args.self.now.level (number c.plus-self-inside.result)
    (sym (ap (λ (k : Kept). k.level) c.self.view_is)) (ap (λ (k : Kept). are_asked k.lo k.hi x) c.self.view_is ∙ sym c.if-not-are_asked.ensures) sum
