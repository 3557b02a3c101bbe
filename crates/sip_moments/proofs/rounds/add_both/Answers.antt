use Rattle.std.proofs.Common.{◌≡◌, ℕ, ◌+◌, ◌-◌, ◌%◌, ◌^◌, ◌<◌, ◌≤◌, length, ap, ◌∙◌, arith}
use Rattle.std.proofs.lemmas.List.{length-set}
use Rattle.sip_sums.specs.Pairs.{Neighbours, neighbours_of}
use Rattle.sip_moments.specs.Powers.{mixed}
use Rattle.sip_moments.proofs.MixedSums.{counted, first-added}
use Rattle.sip_moments.proofs.Places.{at, kept, read, value-next, values-behind}
use Rattle.sip_moments.proofs.PowerSteps.{first-power, power-next}
use Rattle.sip_moments.proofs.rounds.add_both.Goals as goal

pub loop-place-init : goal.loop-place-init
loop-place-init g c =
    let number = g.F.Field.number in
    let p : ℕ = g.F.Field.MODULUS in
    let k : ℕ = c.args.degree in
    let sums = c.args.sums.now in
    let v = c.plus.result in
    let pair : Neighbours = neighbours_of number c.args.pair in
    let within : 0 < length sums = omega (arith, c.requires.places) in
    let power : number c.of_number.result ≡ (pair.left ^ k) % p =
    c.of_number.ensures ∙ c.powers_of-left.ensures.powers c.from-degree.result (omega (arith, c.from-degree.ensures, c.requires.some)) (omega arith)
    ∙ ap (λ i. (pair.left ^ i) % p) c.from-degree.ensures in
    let here = first-added number p k sums pair _ c.of_number.result v within c.index-sums-0.is power c.plus.ensures in
    record {
      long = length-set sums 0 v;
      done = value-next number (λ j n. n ≡ (at number sums j + mixed k j pair) % p) sums 0 v within (λ j low. absurd (omega (arith, low))) here;
      rest = λ j le. kept number sums 0 j v (λ e. absurd (omega (arith, e, le)));
      right = first-power p _ (g.met.F.Field.below c.args.pair.right);
    }

pub loop-place-preserved : goal.loop-place-preserved
loop-place-preserved g c =
    let number = g.F.Field.number in
    let p : ℕ = g.F.Field.MODULUS in
    let k : ℕ = c.args.degree in
    let old = c.args.sums.now in
    let sums = c.loop-place.sums in
    let place : ℕ = c.loop-place.place in
    let pair : Neighbours = neighbours_of number c.args.pair in
    let v = c.plus-in-loop-place.result in
    let is : c.from-degree.result ≡ k = c.from-degree.ensures in
    let within : place < length sums = omega (arith, is, c.loop-place.invariant.long, c.requires.places, c.loop-place-test.true) in
    let left : number c.of_number-in-loop-place.result ≡ (pair.left ^ (k - place)) % p =
    c.of_number-in-loop-place.ensures
    ∙ c.powers_of-left.ensures.powers (c.from-degree.result - place) (omega (arith, c.loop-place-test.true)) (omega arith)
    ∙ ap (λ i. (pair.left ^ (i - place)) % p) is in
    let read_here : number c.index-sums-place.result ≡ at number old place =
    read number sums place _ within c.index-sums-place.is ∙ c.loop-place.invariant.rest place (let e : place ≤ place = omega arith in e) in
    let here : number v ≡ (at number old place + mixed k place pair) % p =
    counted p (at number old place) (pair.left ^ (k - place)) (pair.right ^ place) (number c.of_number-in-loop-place.result) (number c.loop-place.right) (number c.times-product.result) (number v)
    left c.loop-place.invariant.right c.times-product.ensures
    (c.plus-in-loop-place.ensures ∙ ap (λ n. (n + number c.times-product.result) % p) read_here) in
    record {
      long = length-set sums place v ∙ c.loop-place.invariant.long;
      done = value-next number (λ j n. n ≡ (at number old j + mixed k j pair) % p) sums place v within c.loop-place.invariant.done here;
      rest = values-behind number old sums place v c.loop-place.invariant.rest;
      right = power-next p pair.right place (number c.loop-place.right) (number c.times-right.result) c.loop-place.invariant.right c.times-right.ensures;
    }
