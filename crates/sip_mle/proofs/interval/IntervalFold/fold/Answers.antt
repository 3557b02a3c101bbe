-- The ends become what their pairs become, and what is between and outside stays.
use Rattle.std.proofs.Common.{◌≡◌, ◌-◌, ◌*◌, ◌/◌, ◌^◌, ◌<◌, length, sym, ◌∙◌, ap, arith}
use Rattle.sip_mle.proofs.IntervalLemmas.{length-interval, levels_left, half, pair_within, fold_of_interval}
use Rattle.sip_mle.proofs.interval.IntervalFold.fold.Goals as goal

pub folded_pair-left-requires : goal.folded_pair-left-requires
folded_pair-left-requires g c =
    let s = c.self.inside in
    let list = c.args.self.now in
    let long : length list ≡ 2 ^ s.levels = sym (ap length c.self.view_is) ∙ length-interval s.levels s.lo s.hi (g.F.Field.number s.left) (g.F.Field.number s.right) in
    let within : s.lo < length list = omega (arith, long, c.self.invariant.0, c.self.invariant.1) in
    pair_within s.levels s.lo (length list) long c.requires within

pub folded_pair-right-requires : goal.folded_pair-right-requires
folded_pair-right-requires g c =
    let s = c.self.inside in
    let list = c.args.self.now in
    let long : length list ≡ 2 ^ s.levels = sym (ap length c.self.view_is) ∙ length-interval s.levels s.lo s.hi (g.F.Field.number s.left) (g.F.Field.number s.right) in
    let within : s.hi < length list = omega (arith, long, c.self.invariant.1) in
    pair_within s.levels s.hi (length list) long c.requires within

pub invariant_of-self : goal.invariant_of-self
invariant_of-self g c =
    let s = c.self.inside in
    let list = c.args.self.now in
    let long : length list ≡ 2 ^ s.levels = sym (ap length c.self.view_is) ∙ length-interval s.levels s.lo s.hi (g.F.Field.number s.left) (g.F.Field.number s.right) in
    let some : 0 < s.levels = levels_left s.levels (length list) long c.requires in
    (omega (arith, c.self.invariant.0), omega (arith, c.self.invariant.1, half s.levels some))

pub returns-clause-list : goal.returns-clause-list
returns-clause-list g c =
    let s = c.self.inside in
    let number = g.F.Field.number in
    let list = c.args.self.now in
    let long : length list ≡ 2 ^ s.levels = sym (ap length c.self.view_is) ∙ length-interval s.levels s.lo s.hi (g.F.Field.number s.left) (g.F.Field.number s.right) in
    let some : 0 < s.levels = levels_left s.levels (length list) long c.requires in
    let above : 1 < g.F.Field.MODULUS = omega (arith, g.met.F.Field.at_least) in
    fold_of_interval g.F.Field.MODULUS (number c.args.r) s.levels s.lo s.hi (number s.left) (number s.right) above some c.self.invariant.0 c.self.invariant.1
    list (number c.folded_pair-left.result) (number c.folded_pair-right.result) c.self.view_is c.folded_pair-left.ensures c.folded_pair-right.ensures

pub returns-clause-length : goal.returns-clause-length
returns-clause-length g c =
    let s = c.self.inside in
    let list = c.args.self.now in
    let long : length list ≡ 2 ^ s.levels = sym (ap length c.self.view_is) ∙ length-interval s.levels s.lo s.hi (g.F.Field.number s.left) (g.F.Field.number s.right) in
    let some : 0 < s.levels = levels_left s.levels (length list) long c.requires in
    ap (λ n. 2 * n) (length-interval (s.levels - 1) (s.lo / 2) (s.hi / 2) (g.F.Field.number c.folded_pair-left.result) (g.F.Field.number c.folded_pair-right.result))
    ∙ sym (half s.levels some) ∙ sym long
