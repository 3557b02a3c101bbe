-- One challenge more is kept, and the level is the one above.
use Rattle.std.proofs.Common.{◌≡◌, ℕ, ◌-◌, ◌/◌, ◌^◌, ◌++◌, [], ◌∷◌, if◌then◌else◌, length, sym, ap, ◌∙◌, arith, length-append}
use Rattle.std.specs.Result.{is_ok}
use Rattle.sip_tree.proofs.Heights.{has_level}
use Rattle.sip_subvec.specs.Honest.{Proving, learnt}
use Rattle.sip_subvec.proofs.Provers.{level_size, is_learnt, level_learnt, half_of}
use Rattle.sip_subvec.proofs.prover.SubProver.learn.Goals as goal

pub unwrap-requires : goal.unwrap-requires
unwrap-requires g c =
    let size : length c.args.self.now.level ≡ 2 ^ c.self.inside.levels_left =
    ap (λ (s : Proving). length s.level) (sym c.self.view_is) ∙ level_size g.F.Field.MODULUS g.F.Field.number c.self.inside.entries.value.items c.self.inside.challenges.items c.self.inside.levels_left in
    let some = has_level c.self.inside.levels_left (length c.args.self.now.level) size c.requires in
    c.push.ensures.succeeds (omega (arith, some, c.self.invariant.room, c.self.inside.challenges.ok.0))

pub overflow_sub-self : goal.overflow_sub-self
overflow_sub-self g c =
    let size : length c.args.self.now.level ≡ 2 ^ c.self.inside.levels_left =
    ap (λ (s : Proving). length s.level) (sym c.self.view_is) ∙ level_size g.F.Field.MODULUS g.F.Field.number c.self.inside.entries.value.items c.self.inside.challenges.items c.self.inside.levels_left in
    has_level c.self.inside.levels_left (length c.args.self.now.level) size c.requires

pub invariant_of-self : goal.invariant_of-self
invariant_of-self g c =
    let items = c.self.inside.challenges.items in
    let pushed : c.push.new.self.items ≡ items ++ c.args.r ∷ [] = c.push.ensures.items ∙ ap (λ x. if is_ok x then items ++ c.args.r ∷ [] else items) c.unwrap.ensures in
    let size : length c.args.self.now.level ≡ 2 ^ c.self.inside.levels_left =
    ap (λ (s : Proving). length s.level) (sym c.self.view_is) ∙ level_size g.F.Field.MODULUS g.F.Field.number c.self.inside.entries.value.items items c.self.inside.levels_left in
    let some = has_level c.self.inside.levels_left (length c.args.self.now.level) size c.requires in
    is_learnt c.self.inside.entries.value.items (length items) _ c.self.inside.levels_left c.self.inside.lo c.self.inside.hi (length c.push.new.self.items) _ c.self.invariant some
    (ap length pushed ∙ length-append items (c.args.r ∷ [])) c.push.ensures.capacity

pub returns-clause-learnt : goal.returns-clause-learnt
returns-clause-learnt g c =
    let p : ℕ = g.F.Field.MODULUS in
    let items = c.self.inside.challenges.items in
    let pushed : c.push.new.self.items ≡ items ++ c.args.r ∷ [] = c.push.ensures.items ∙ ap (λ x. if is_ok x then items ++ c.args.r ∷ [] else items) c.unwrap.ensures in
    let size : length c.args.self.now.level ≡ 2 ^ c.self.inside.levels_left =
    ap (λ (s : Proving). length s.level) (sym c.self.view_is) ∙ level_size p g.F.Field.number c.self.inside.entries.value.items items c.self.inside.levels_left in
    let some = has_level c.self.inside.levels_left (length c.args.self.now.level) size c.requires in
    let above = level_learnt p g.F.Field.number c.self.inside.entries.value.items items c.self.inside.levels_left c.args.r c.push.new.self.items some pushed in
    ap (λ level. record { level = level; lo = c.self.inside.lo / 2; hi = c.self.inside.hi / 2 }) above
    ∙ ap (λ (s : Proving). learnt p s (g.F.Field.number c.args.r)) c.self.view_is

pub returns-clause-half : goal.returns-clause-half
returns-clause-half g c =
    let p : ℕ = g.F.Field.MODULUS in
    let items = c.self.inside.challenges.items in
    let size : length c.args.self.now.level ≡ 2 ^ c.self.inside.levels_left =
    ap (λ (s : Proving). length s.level) (sym c.self.view_is) ∙ level_size p g.F.Field.number c.self.inside.entries.value.items items c.self.inside.levels_left in
    let some = has_level c.self.inside.levels_left (length c.args.self.now.level) size c.requires in
    let above = level_size p g.F.Field.number c.self.inside.entries.value.items c.push.new.self.items (c.self.inside.levels_left - 1) in
    half_of c.self.inside.levels_left _ _ some above size
