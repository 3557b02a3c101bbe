use Rattle.std.proofs.Common.{◌∙◌, rules}
use Rattle.std.specs.Option.{option_map}
use Rattle.sip_subvec.proofs.TakingSteps.{left_asked, right_asked, some_number}
use Rattle.sip_subvec.proofs.check.SubCheck.level_term.Goals as goal

pub left_term-before-requires : goal.left_term-before-requires
left_term-before-requires g c =
    let number = g.F.Field.number in
    (search rules, λ here. left_asked c.args.self.now.lo c.args.self.now.hi (record { left = option_map number c.args.left; right = option_map number c.args.right }) c.requires.asked (some_number number c.args.left ∙ here))

pub right_term-behind-requires : goal.right_term-behind-requires
right_term-behind-requires g c =
    let number = g.F.Field.number in
    (search rules, (λ here. right_asked c.args.self.now.lo c.args.self.now.hi (record { left = option_map number c.args.left; right = option_map number c.args.right }) c.requires.asked (some_number number c.args.right ∙ here), c.requires.left))
