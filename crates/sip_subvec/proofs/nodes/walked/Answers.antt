-- From each entry to the next, up to the last index.
use Rattle.std.proofs.Common.{◌≡◌, ℕ, ◌+◌, ◌-◌, ◌*◌, ◌%◌, ◌^◌, ◌≤◌, ◌<◌, ◌++◌, [], ◌∷◌, length, sym, ap, ◌∙◌, arith, append_assoc, append-nil}
use Rattle.std.proofs.Math.Nat.{pow-le-pow_right}
use Rattle.std.proofs.lemmas.Nat.{pow_pos, one_shl}
use Rattle.sip_vector.specs.Limits.{most_depth}
use Rattle.sip_vector.specs.Vectors.{nonzero_within}
use Rattle.sip_vector.proofs.Walks.{nonzero_within-next, nonzero_within-last, nonzero_within-found}
use Rattle.sip_subvec.proofs.SummedNodes.{nonzero_all}
use Rattle.sip_subvec.proofs.nodes.walked.Goals as goal

-- the last index of 2 ^ d numbers
abbrev last : ℕ → ℕ
last d = 1 * 2 ^ d % 18446744073709551616 - 1

last_is : (d : ℕ) → d ≤ most_depth → last d + 1 ≡ 2 ^ d
last_is d deep = omega (arith, one_shl d 64 (omega (arith, deep)), pow_pos d)

last_fits : (d : ℕ) → d ≤ most_depth → last d < 2 ^ 48
last_fits d deep = omega (arith, last_is d deep, pow-le-pow_right (let two : 0 < 2 = omega arith in two) deep)

pub loop-entry-init : goal.loop-entry-init
loop-entry-init c =
    let numbers = c.args.vector.now.numbers in
    let hi : ℕ = last c.get.result in
    let size : length numbers ≡ hi + 1 = c.depth.ensures.numbers ∙ ap (λ d. 2 ^ d) (sym c.get.ensures.same) ∙ sym (last_is c.get.result c.get.ensures.most) in
    record {
      all = ap (λ es. es ++ nonzero_within 0 hi numbers) c.new-list.ensures.items ∙ nonzero_all hi numbers size;
      within = omega arith;
    }

pub overflow_add-at : goal.overflow_add-at
overflow_add-at c =
    let found = nonzero_within-found c.loop-entry.at (last c.get.result) c.args.vector.now.numbers c.in-Some.entry (sym c.in-Some.ensures) in
    omega (arith, found.1, last_fits c.get.result c.get.ensures.most)

pub loop-entry-smaller : goal.loop-entry-smaller
loop-entry-smaller c =
    let found = nonzero_within-found c.loop-entry.at (last c.get.result) c.args.vector.now.numbers c.in-Some.entry (sym c.in-Some.ensures) in
    omega (arith, found.0, found.1, c.loop-entry.invariant.within)

pub loop-entry-preserved : goal.loop-entry-preserved
loop-entry-preserved c =
    let numbers = c.args.vector.now.numbers in
    let hi : ℕ = last c.get.result in
    let e = c.in-Some.entry in
    let items = c.loop-entry.list.items in
    let found = nonzero_within-found c.loop-entry.at hi numbers e (sym c.in-Some.ensures) in
    let next = nonzero_within-next c.loop-entry.at hi numbers e (sym c.in-Some.ensures) in
    let pushed : c.push.new.self.items ≡ items ++ e ∷ [] = c.in_ok-push.ensures.items in
    record {
      all = ap (λ es. es ++ nonzero_within (e.index + 1) hi numbers) pushed ∙ append_assoc items (e ∷ []) (nonzero_within (e.index + 1) hi numbers)
          ∙ ap (λ es. items ++ es) (sym next) ∙ c.loop-entry.invariant.all;
      within = omega (arith, found.1);
    }

pub returns : goal.returns
returns c =
    let none = nonzero_within-last c.loop-entry.at (last c.get.result) c.args.vector.now.numbers (sym c.in_default.ensures) in
    sym (append-nil c.loop-entry.list.items) ∙ ap (λ es. c.loop-entry.list.items ++ es) (sym none) ∙ c.loop-entry.invariant.all
