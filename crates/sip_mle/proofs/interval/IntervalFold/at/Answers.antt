-- Each entry by where its index is.
use Rattle.std.proofs.Common.{◌≡◌, ◌%◌, ◌<◌, cond, sym, ◌∙◌, ap, arith, rules, tests}
use Rattle.sip_vector.specs.Answers.{is_within}
use Rattle.sip_mle.proofs.IntervalLemmas.{entry_left, entry_right, entry_else, entry_read, as_number}
use Rattle.sip_mle.proofs.interval.IntervalFold.at.Goals as goal

pub returns-then-index-self : goal.returns-then-index-self
returns-then-index-self g c =
    let s = c.self.inside in
    let left = g.F.Field.number s.left in
    let right = g.F.Field.number s.right in
    sym (entry_read s.levels s.lo s.hi left right c.args.index c.args.self.now c.self.view_is c.requires
    ∙ entry_left s.lo s.hi left right c.args.index c.if-index-self.true)

pub returns-then-index-self-2 : goal.returns-then-index-self-2
returns-then-index-self-2 g c =
    let s = c.self.inside in
    let left = g.F.Field.number s.left in
    let right = g.F.Field.number s.right in
    sym (entry_read s.levels s.lo s.hi left right c.args.index c.args.self.now c.self.view_is c.requires
    ∙ entry_right s.lo s.hi left right c.args.index c.if-index-self.false c.if-index-self-2.true)

pub returns-else-index-self-2 : goal.returns-else-index-self-2
returns-else-index-self-2 g c =
    let s = c.self.inside in
    let p = g.F.Field.MODULUS in
    let left = g.F.Field.number s.left in
    let right = g.F.Field.number s.right in
    let above : 1 < p = omega (arith, g.met.F.Field.at_least) in
    let same : c.contains.result ≡ is_within s.lo s.hi c.args.index = search (rules, tests) in
    c.of.ensures ∙ ap (λ n. n % p) c.from.ensures ∙ as_number p c.contains.result above ∙ ap (λ b. cond b 1 0) same
    ∙ sym (entry_read s.levels s.lo s.hi left right c.args.index c.args.self.now c.self.view_is c.requires
    ∙ entry_else s.lo s.hi left right c.args.index c.if-index-self.false c.if-index-self-2.false)
