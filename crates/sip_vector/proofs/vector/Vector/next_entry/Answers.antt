use Rattle.std.proofs.Common.{◌^◌, ◌<◌, sym, subst}
use Rattle.sip_vector.specs.Vectors.{contents}
use Rattle.sip_vector.proofs.Walks.{next-is}
use Rattle.sip_vector.proofs.vector.Vector.next_entry.Goals as goal

pub returns : goal.returns
returns c =
    let len = c.depth.ensures.numbers in
    let same = c.depth.ensures.same in
    next-is c.args.self.now.numbers c.args.from c.args.hi c.first_nonzero.result (subst (λ n. c.args.hi < n) (sym len) (subst (λ d. c.args.hi < 2 ^ d) (sym same) c.requires)) c.first_nonzero.ensures

pub returns-in-Some : goal.returns-in-Some
returns-in-Some c =
    let len = c.depth.ensures.numbers in
    let same = c.depth.ensures.same in
    next-is c.args.self.now.numbers c.args.from c.args.hi c.first_within.result (subst (λ n. c.args.hi < n) (sym len) (subst (λ d. c.args.hi < 2 ^ d) (sym same) c.requires)) (c.first_within.ensures (contents c.args.self.now) c.in-Some.ensures.list c.requires)
