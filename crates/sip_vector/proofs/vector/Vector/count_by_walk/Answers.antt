use Rattle.std.proofs.Common.{◌+◌, ◌<◌, ◌≤◌, length, ◌^◌, sym, ap, subst, ◌∙◌, arith}
use Rattle.std.proofs.Math.Nat.{pow-le-pow_right}
use Rattle.sip_vector.proofs.Filters.{nonzero_within-none}
use Rattle.sip_vector.proofs.Walks.{nonzero_within-next, nonzero_within-last, nonzero_within-found}
use Rattle.sip_vector.proofs.vector.Vector.count_by_walk.Goals as goal

pub loop-entry-init : goal.loop-entry-init
loop-entry-init c = record { all = omega arith; few = omega arith; within = c.requires.order }

pub overflow_add-count : goal.overflow_add-count
overflow_add-count c =
    let found = nonzero_within-found c.loop-entry.at c.args.hi c.args.self.now.numbers c.in-Some.entry (sym c.in-Some.ensures) in
    let depth : c.args.self.now.depth ≤ 48 = subst (λ d. d ≤ 48) (c.get.ensures.same ∙ c.depth.ensures.same) c.get.ensures.most in
    let most : 2 ^ c.args.self.now.depth ≤ 2 ^ 48 = (let two : 0 < 2 = omega arith in pow-le-pow_right two depth) in
    omega (arith, c.loop-entry.invariant.few, c.loop-entry.invariant.within, found, c.requires.within, most)

pub returns-then-entry-hi : goal.returns-then-entry-hi
returns-then-entry-hi c =
    let numbers = c.args.self.now.numbers in
    let e = c.in-Some.entry in
    let next = ap length (nonzero_within-next c.loop-entry.at c.args.hi numbers e (sym c.in-Some.ensures)) in
    let none = ap length (nonzero_within-none (e.index + 1) c.args.hi numbers (omega (arith, c.if-entry-hi.true))) in
    omega (arith, c.loop-entry.invariant.all, next, none)

pub overflow_add-at : goal.overflow_add-at
overflow_add-at c =
    let found = nonzero_within-found c.loop-entry.at c.args.hi c.args.self.now.numbers c.in-Some.entry (sym c.in-Some.ensures) in
    omega (arith, found.1, c.if-entry-hi.false, c.ranges.hi.fits)

pub loop-entry-smaller : goal.loop-entry-smaller
loop-entry-smaller c =
    let found = nonzero_within-found c.loop-entry.at c.args.hi c.args.self.now.numbers c.in-Some.entry (sym c.in-Some.ensures) in
    omega (arith, found.0, found.1, c.loop-entry.invariant.within)

pub loop-entry-preserved : goal.loop-entry-preserved
loop-entry-preserved c =
    let numbers = c.args.self.now.numbers in
    let e = c.in-Some.entry in
    let found = nonzero_within-found c.loop-entry.at c.args.hi numbers e (sym c.in-Some.ensures) in
    let next = ap length (nonzero_within-next c.loop-entry.at c.args.hi numbers e (sym c.in-Some.ensures)) in
    record {
      all = omega (arith, c.loop-entry.invariant.all, next);
      few = omega (arith, c.loop-entry.invariant.few, found.0);
      within = omega (arith, found.1, c.if-entry-hi.false);
    }

pub returns : goal.returns
returns c =
    let none = ap length (nonzero_within-last c.loop-entry.at c.args.hi c.args.self.now.numbers (sym c.in_default.ensures)) in
    omega (arith, c.loop-entry.invariant.all, none)
