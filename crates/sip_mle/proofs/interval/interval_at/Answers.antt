-- Each fold keeps the extension at the challenges that are left, and the last one leaves it alone.
use Rattle.std.proofs.Common.{◌≡◌, ◌+◌, ◌-◌, ◌%◌, ◌^◌, ◌<◌, [], length, get_or, map, drop, sym, ◌∙◌, ap, arith}
use Rattle.std.proofs.Math.Nat.{pow-zero}
use Rattle.std.proofs.lemmas.List.{drop_all}
use Rattle.std.proofs.lemmas.Nat.{pow_pos}
use Rattle.sip_field.specs.Residue.{residue}
use Rattle.sip_vector.specs.Extensions.{ones}
use Rattle.sip_mle.proofs.Weighing.{weigh, ext_is}
use Rattle.sip_mle.proofs.Folding.{residues_below, line_below, fold_step, weigh_one}
use Rattle.sip_mle.proofs.IntervalLemmas.{half}
use Rattle.sip_mle.proofs.interval.interval_at.Goals as goal

pub loop-below-init : goal.loop-below-init
loop-below-init g c =
    let p = g.F.Field.MODULUS in
    let seat = c.args.seat.now in
    let list = c.of_levels-interval.result in
    let some : 0 < p = omega (arith, g.met.F.Field.at_least) in
    let none : length seat ≡ length seat - 0 = omega arith in
    let made : list ≡ map (residue p) (ones (length seat) c.args.lo c.args.hi) =
    c.of_levels-interval.ensures.list ∙ ap (λ n. map (residue p) (ones n c.args.lo c.args.hi)) c.depth.ensures.exact in
    record {
      whole = c.of_levels-interval.ensures.length ∙ ap (λ n. 2 ^ n) (c.depth.ensures.exact ∙ none);
      residues = rw made (residues_below p (ones (length seat) c.args.lo c.args.hi) some);
      same = ap (λ l. weigh p seat 0 l % p) made ∙ sym (ext_is p (ones (length seat) c.args.lo c.args.hi) seat);
    }

pub fold-requires : goal.fold-requires
fold-requires g c =
    let n = length c.args.seat.now - c.loop-below.below in
    let some : 0 < n = omega (arith, c.loop-below-test.true, c.depth-below-end.ensures.exact) in
    omega (arith, c.loop-below.invariant.whole, half n some, pow_pos (n - 1))

pub loop-below-preserved : goal.loop-below-preserved
loop-below-preserved g c =
    let p = g.F.Field.MODULUS in
    let seat = c.args.seat.now in
    let k = c.loop-below.below in
    let list = c.loop-below.interval in
    let n = length seat - k in
    let r = g.F.Field.number c.at.result in
    let within : k < length seat = omega (arith, c.loop-below-test.true, c.depth-below-end.ensures.exact) in
    let some : 0 < p = omega (arith, g.met.F.Field.at_least) in
    let left : 0 < n = omega (arith, within) in
    let next : n - 1 ≡ length seat - (k + 1) = omega arith in
    let back : k + 1 - 1 ≡ k = omega arith in
    let halved : length c.fold.new.self ≡ 2 ^ (n - 1) = omega (arith, c.fold.ensures.length, c.loop-below.invariant.whole, half n left) in
    record {
      whole = halved ∙ ap (λ m. 2 ^ m) next;
      residues = rw c.fold.ensures.list (line_below p r list some);
      same = fold_step p seat list c.fold.new.self k r _ within (c.at.ensures ∙ ap (λ i. get_or seat i 0) back) (g.met.F.Field.below c.at.result)
          c.loop-below.invariant.residues c.loop-below.invariant.whole c.fold.ensures.list c.loop-below.invariant.same;
    }

pub returns : goal.returns
returns g c =
    let p = g.F.Field.MODULUS in
    let seat = c.args.seat.now in
    let list = c.loop-below.interval in
    let done : length seat - c.loop-below.below ≡ 0 = omega (arith, c.loop-below-test.false, c.depth-below-end.ensures.exact) in
    let one : length list ≡ 1 = c.loop-below.invariant.whole ∙ ap (λ n. 2 ^ n) done ∙ pow-zero 2 in
    let none : drop c.loop-below.below seat ≡ [] = drop_all c.loop-below.below seat (omega (arith, c.loop-below-test.false, c.depth-below-end.ensures.exact)) in
    c.at-2.ensures ∙ sym (weigh_one p list c.loop-below.invariant.residues one) ∙ ap (λ s. weigh p s 0 list % p) (sym none)
    ∙ c.loop-below.invariant.same
