use Rattle.std.proofs.Common.{◌+◌, Some, refl, sym, ap, ◌∙◌, arith}
use Rattle.sip_vector.proofs.Filters.{nonzero_within-none}
use Rattle.sip_vector.proofs.Walks.{nonzero_within-next, nonzero_within-last, nonzero_within-found}
use Rattle.sip_vector.proofs.LastEntry.{last_behind}
use Rattle.sip_vector.proofs.vector.Vector.last_by_walk.Goals as goal

pub loop-entry-init : goal.loop-entry-init
loop-entry-init c = record { all = refl; within = c.requires.order }

pub returns-then-entry-to : goal.returns-then-entry-to
returns-then-entry-to c =
    let numbers = c.args.self.now.numbers in
    let e = c.in-Some.entry in
    let next = ap (last_behind c.loop-entry.last) (nonzero_within-next c.loop-entry.at c.args.to numbers e (sym c.in-Some.ensures)) in
    let none = ap (last_behind (Some e)) (nonzero_within-none (e.index + 1) c.args.to numbers (omega (arith, c.if-entry-to.true))) in
    sym none ∙ sym next ∙ c.loop-entry.invariant.all

pub overflow_add-at : goal.overflow_add-at
overflow_add-at c =
    let found = nonzero_within-found c.loop-entry.at c.args.to c.args.self.now.numbers c.in-Some.entry (sym c.in-Some.ensures) in
    omega (arith, found.1, c.if-entry-to.false, c.ranges.to.fits)

pub loop-entry-smaller : goal.loop-entry-smaller
loop-entry-smaller c =
    let found = nonzero_within-found c.loop-entry.at c.args.to c.args.self.now.numbers c.in-Some.entry (sym c.in-Some.ensures) in
    omega (arith, found.0, found.1, c.loop-entry.invariant.within)

pub loop-entry-preserved : goal.loop-entry-preserved
loop-entry-preserved c =
    let numbers = c.args.self.now.numbers in
    let e = c.in-Some.entry in
    let found = nonzero_within-found c.loop-entry.at c.args.to numbers e (sym c.in-Some.ensures) in
    let next = ap (last_behind c.loop-entry.last) (nonzero_within-next c.loop-entry.at c.args.to numbers e (sym c.in-Some.ensures)) in
    record {
      all = sym next ∙ c.loop-entry.invariant.all;
      within = omega (arith, found.1, c.if-entry-to.false);
    }

pub returns : goal.returns
returns c =
    sym (ap (last_behind c.loop-entry.last) (nonzero_within-last c.loop-entry.at c.args.to c.args.self.now.numbers (sym c.in_default.ensures)))
    ∙ c.loop-entry.invariant.all
