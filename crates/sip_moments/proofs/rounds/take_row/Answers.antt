use Rattle.std.proofs.Common.{◌≡◌, ℕ, ◌+◌, ◌-◌, ◌<◌, ◌≤◌, length, ap, ◌∙◌, arith}
use Rattle.std.proofs.lemmas.List.{length-set}
use Rattle.sip_field.specs.Residue.{difference_mod}
use Rattle.sip_moments.proofs.Places.{at, kept, read, value-next, values-behind}
use Rattle.sip_moments.proofs.rounds.take_row.Goals as goal

pub loop-place-preserved : goal.loop-place-preserved
loop-place-preserved g c =
    let number = g.F.Field.number in
    let p : ℕ = g.F.Field.MODULUS in
    let old = c.args.sums.now in
    let sums = c.loop-place.sums in
    let place : ℕ = c.loop-place.place in
    let v = c.minus.result in
    let within : place < length sums = omega (arith, c.loop-place.invariant.long, c.loop-place-test.true, c.loop-place.auto.sums) in
    let here : number c.index-sums-place.result ≡ at number old place =
    read number sums place _ within c.index-sums-place.is ∙ c.loop-place.invariant.rest place (let e : place ≤ place = omega arith in e) in
    let difference : number v ≡ difference_mod p (at number old place) (at number old (place - 1)) =
    c.minus.ensures ∙ ap (λ n. difference_mod p n (number c.loop-place.before)) here ∙ ap (difference_mod p (at number old place)) c.loop-place.invariant.before in
    record {
      long = length-set sums place v ∙ c.loop-place.invariant.long;
      kept = λ j low. kept number sums place j v (λ e. absurd (omega (arith, e, low, c.loop-place.auto.place))) ∙ c.loop-place.invariant.kept j low;
      done = λ j from low.
          value-next number (λ i n. c.args.row ≤ i → n ≡ difference_mod p (at number old i) (at number old (i - 1))) sums place v within
          (λ i less above. c.loop-place.invariant.done i above less) (λ above. difference) j low from;
      rest = values-behind number old sums place v c.loop-place.invariant.rest;
      before = here ∙ ap (at number old) (let e : place ≡ place + 1 - 1 = omega arith in e);
    }
