use Rattle.std.proofs.Common.{ℕ, ◌/◌, Option, ◌∷◌, [], ◌++◌, subst}
use Rattle.std.specs.Prelude.{◌^◌}
use Rattle.std.specs.Option.{option_map}
use Rattle.sip_field.specs.Elements.{m61_number}
use Rattle.sip_field.specs.Moduli.{m61_modulus}
use Rattle.sip_subvec.specs.AcceptsSub.{Siblings}
use Rattle.sip_subvec.specs.Checking.{HasTaken, AnswersAs}
use Rattle.sip_subvec.specs.Replies.{asked_siblings}
use Rattle.sip_subvec.proofs.sub_asking.give_siblings.Goals as goal

pub returns-clause-answers : goal.returns-clause-answers
returns-clause-answers c root lo hi challenges s taken =
    let level = c.args.check.now.level in
    let IsAnswer : Siblings → Type 0 = λ given. AnswersAs (asked_siblings (lo / 2 ^ level) (hi / 2 ^ level) given) (λ x. HasTaken m61_modulus root lo hi challenges (record s { siblings = s.siblings ++ x ∷ [] }) c.siblings.new.self) c.siblings.new.self c.siblings.result in
    subst (λ (l : Option ℕ). IsAnswer (record { left = l; right = c.args.right })) c.element.ensures
    (subst (λ (r : Option ℕ). IsAnswer (record { left = option_map m61_number c.element.result; right = r })) c.element-2.ensures
    (c.siblings.ensures.answers root lo hi challenges s taken))
