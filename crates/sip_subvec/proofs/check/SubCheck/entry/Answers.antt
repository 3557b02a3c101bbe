use Rattle.std.proofs.Common.{◌≡◌, ℕ, ◌+◌, ◌-◌, ◌*◌, ◌%◌, ◌^◌, ◌<◌, ◌≤◌, length, w64, to_z, of_z, refl, sym, subst, ap, ◌∙◌, rules, arith}
use Rattle.std.proofs.Math.Nat.{add-mod-mod}
use Rattle.std.proofs.lemmas.Int.{to_z-of_z}
use Rattle.sip_field.specs.Residue.{residue}
use Rattle.sip_vector.specs.Weights.{weight_above}
use Rattle.sip_subvec.specs.Replies.{most_entries}
use Rattle.sip_subvec.specs.Checking.{Kept, HasTaken, entry_test}
use Rattle.sip_subvec.proofs.TakingSteps.{entry_refused, entry_taken, entry_passes}
use Rattle.sip_subvec.proofs.check.SubCheck.entry.Goals as goal

pub returns-in-Err-clause-answers : goal.returns-in-Err-clause-answers
returns-in-Err-clause-answers g c root lo hi challenges s taken =
    entry_refused g.F.Field.MODULUS root lo hi challenges s c.args.self.now taken c.requires.first (record { index = c.args.index; value = c.args.value }) _ _ c.in-Err.reason (sym c.in-Err.ensures) refl

pub weight_above-weight-requires : goal.weight_above-weight-requires
weight_above-weight-requires g c =
    let s = c.self.inside in
    let passes = entry_passes c.args.self.now c.args.index _ (sym c.in_default.ensures) in
    let end = ap (λ (k : Kept). k.hi) c.self.view_is in
    let level : s.level ≡ 0 = ap (λ (k : Kept). k.level) c.self.view_is ∙ c.requires.first in
    let below : s.hi < 2 ^ (length s.root.seat - 0) = subst (λ (k : ℕ). s.hi < 2 ^ (length s.root.seat - k)) level c.self.invariant.2 in
    (search rules, (omega arith, omega (arith, passes.0, end, below)))

pub overflow_add-self : goal.overflow_add-self
overflow_add-self g c =
    let passes = entry_passes c.args.self.now c.args.index _ (sym c.in_default.ensures) in
    let count = ap (λ (k : Kept). k.count) c.self.view_is in
    let few : c.self.inside.count + 1 ≤ most_entries = omega (arith, passes.1, count) in
    omega (arith, few)

pub returns-clause-answers : goal.returns-clause-answers
returns-clause-answers g c root lo hi challenges s taken =
    let p = g.F.Field.MODULUS in
    let kept : to_z w64 (of_z w64 c.args.value) ≡ c.args.value = to_z-of_z w64 c.args.value c.ranges.value in
    let sum : g.F.Field.number c.plus-self-inside.result ≡ (g.F.Field.number c.self.inside.sum + residue p c.args.value * weight_above p c.self.inside.root.seat 0 c.args.index) % p =
    rw (c.plus-self-inside.ensures, c.times.ensures, c.of_signed.ensures, c.weight_above-weight.ensures, kept) (simp add-mod-mod) in
    entry_taken p root lo hi challenges s _ (subst (HasTaken p root lo hi challenges s) (sym c.self.view_is) taken) (ap (λ (k : Kept). k.level) c.self.view_is ∙ c.requires.first)
    (record { index = c.args.index; value = c.args.value }) (g.F.Field.number c.plus-self-inside.result) (ap (λ (k : Kept). entry_test k c.args.index) c.self.view_is ∙ sym c.in_default.ensures) sum
