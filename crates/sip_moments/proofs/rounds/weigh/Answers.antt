use Rattle.std.proofs.Common.{◌≡◌, ℕ, ◌+◌, ◌*◌, ◌-◌, ◌/◌, ◌%◌, ◌<◌, ◌≤◌, ap, subst, ◌∙◌, arith, length, sym}
use Rattle.std.proofs.lemmas.List.{length-set}
use Rattle.std.proofs.lemmas.Nat.{mul-mod_first}
use Rattle.std.proofs.Math.Nat.{mul-le-mul}
use Rattle.sip_moments.specs.Honest.{binomial}
use Rattle.sip_moments.proofs.Binomials.{binomial-ratio}
use Rattle.sip_moments.proofs.PowerSteps.{binomial-small}
use Rattle.sip_moments.proofs.Places.{at, read, value-next, values-behind}
use Rattle.sip_moments.proofs.rounds.weigh.Goals as goal

-- a number of sets is at most 256, and the degree at most 8
pub overflow_mul-sets : goal.overflow_mul-sets
overflow_mul-sets g c =
    let small = binomial-small c.args.degree c.loop-place.place c.requires.degree in
    let most : c.loop-place.sets ≤ 256 = subst (λ n. n ≤ 256) (sym c.loop-place.invariant.sets) small in
    let few : c.from.result ≤ 8 = omega (arith, c.from.ensures, c.requires.degree) in
    omega (arith, mul-le-mul most few)

pub loop-place-preserved : goal.loop-place-preserved
loop-place-preserved g c =
    let place : ℕ = c.from-at.result in
    let sums = c.loop-place.sums in
    let old = c.args.sums.now in
    let number = g.F.Field.number in
    let p : ℕ = g.F.Field.MODULUS in
    let k : ℕ = c.args.degree in
    let v = c.times.result in
    let is : place ≡ c.loop-place.place = c.from-at.ensures in
    let within : place < length sums = omega (arith, is, c.loop-place.invariant.long, c.requires.places, c.loop-place-test.true) in
    let read_here : number c.index-sums-at.result ≡ at number old place =
    read number sums place _ within c.index-sums-at.is ∙ c.loop-place.invariant.rest place (omega (arith, is)) in
    let here : number v ≡ (binomial k place * at number old place) % p =
    c.times.ensures ∙ ap (λ n. (n * number c.index-sums-at.result) % p) c.of.ensures ∙ mul-mod_first c.loop-place.sets (number c.index-sums-at.result) p
    ∙ ap (λ n. (n * number c.index-sums-at.result) % p) (c.loop-place.invariant.sets ∙ ap (binomial k) (sym is)) ∙ ap (λ n. (binomial k place * n) % p) read_here in
    record {
      long = length-set sums place v ∙ c.loop-place.invariant.long;
      done = λ j low.
          value-next number (λ i n. n ≡ (binomial k i * at number old i) % p) sums place v within
          (λ i less. c.loop-place.invariant.done i (omega (arith, less, is))) here j (omega (arith, low, is));
      sets = ap (λ n. n * c.from.result / (c.from-in-loop-place.result + 1)) c.loop-place.invariant.sets
          ∙ ap (λ n. binomial k c.loop-place.place * n / (c.from-in-loop-place.result + 1)) c.from.ensures
          ∙ ap (λ n. binomial k c.loop-place.place * (k - c.loop-place.place) / (n + 1)) c.from-in-loop-place.ensures
          ∙ binomial-ratio k c.loop-place.place (omega (arith, c.loop-place-test.true));
      rest = λ j le. values-behind number old sums place v (λ i above. c.loop-place.invariant.rest i (omega (arith, above, is))) j (omega (arith, le, is));
    }
