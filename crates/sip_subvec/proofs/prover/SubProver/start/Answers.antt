-- The entries are those of the vector that are not 0, and no challenge is learnt.
use Rattle.std.proofs.Common.{◌≡◌, ℕ, ◌+◌, ◌^◌, ◌<◌, [], length, map, sym, ap, subst, ◌∙◌, arith}
use Rattle.sip_field.specs.Residue.{residue}
use Rattle.sip_subvec.specs.Summing.{Rises, level_over}
use Rattle.sip_subvec.proofs.Provers.{level_size}
use Rattle.sip_subvec.proofs.SummedNodes.{nonzero_rises, level_begun}
use Rattle.sip_subvec.proofs.prover.SubProver.start.Goals as goal

pub invariant_of-result : goal.invariant_of-result
invariant_of-result g c =
    let none : length c.in_ok-challenges.challenges.items ≡ 0 = ap length c.in_ok-challenges.ensures.items in
    record {
      deep = omega (arith, none, c.get-levels_left.ensures.most);
      rise = subst (λ es. Rises 0 es) (sym c.in_ok-entries.ensures) (nonzero_rises c.args.vector.now.numbers);
      order = c.requires.order;
      within = subst (λ d. c.args.hi < 2 ^ d) (sym (c.get-levels_left.ensures.same ∙ c.depth.ensures.same)) c.requires.within;
      room = omega (arith, none, c.in_ok-challenges.ensures.capacity);
    }

pub returns-clause-begun : goal.returns-clause-begun
returns-clause-begun g c =
    let p : ℕ = g.F.Field.MODULUS in
    let numbers = c.args.vector.now.numbers in
    let left : ℕ = c.get-levels_left.result in
    let items = c.in_ok-challenges.challenges.items in
    let none = c.in_ok-challenges.ensures.items in
    let size : length numbers ≡ 2 ^ left = c.depth.ensures.numbers ∙ ap (λ d. 2 ^ d) (sym c.get-levels_left.ensures.same) in
    let level : level_over p (left + length items) c.in_ok-entries.entries.value.items (map g.F.Field.number items) ≡ map (residue p) numbers =
    ap (λ xs. level_over p (left + length xs) c.in_ok-entries.entries.value.items (map g.F.Field.number xs)) none
    ∙ ap (λ d. level_over p d c.in_ok-entries.entries.value.items []) (let same : left + 0 ≡ left = omega arith in same)
    ∙ ap (λ es. level_over p left es []) c.in_ok-entries.ensures
    ∙ level_begun p left numbers size in
    ap (λ l. record { level = l; lo = c.args.lo; hi = c.args.hi }) level

pub returns-clause-length : goal.returns-clause-length
returns-clause-length g c =
    level_size g.F.Field.MODULUS g.F.Field.number c.in_ok-entries.entries.value.items c.in_ok-challenges.challenges.items c.get-levels_left.result
    ∙ ap (λ d. 2 ^ d) (c.get-levels_left.ensures.same ∙ c.depth.ensures.same)
