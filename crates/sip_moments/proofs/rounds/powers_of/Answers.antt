use Rattle.std.proofs.Common.{◌≡◌, ℕ, ◌+◌, ◌-◌, ◌%◌, ◌^◌, ◌<◌, ◌≤◌, length, refl, sym, subst, ap, ◌∙◌, arith}
use Rattle.std.proofs.lemmas.List.{length-set, get_or-replicate}
use Rattle.std.proofs.lemmas.List.Elements.{All-replicate, All-set}
use Rattle.sip_moments.proofs.Places.{next}
use Rattle.sip_moments.proofs.PowerSteps.{power-next, first-power}
use Rattle.sip_moments.proofs.rounds.powers_of.Goals as goal

pub loop-place-init : goal.loop-place-init
loop-place-init g c =
    let p : ℕ = g.F.Field.MODULUS in
    let x : ℕ = c.number-powers.result in
    let less : x < p = subst (λ n. n < p) (sym c.number-powers.ensures) (g.met.F.Field.below c.args.x) in
    let first = first-power p (g.F.Field.number c.args.x) (g.met.F.Field.below c.args.x) in
    record {
      long = refl;
      below = All-replicate (λ y. y < p) 9 x less;
      powers = λ i some few.
          get_or-replicate 9 i x 0 (omega (arith, few)) ∙ c.number-powers.ensures ∙ first
          ∙ ap (λ j. (g.F.Field.number c.args.x ^ j) % p) (let e : 1 ≡ i = omega (arith, some, few) in e);
      last = first;
    }

pub loop-place-preserved : goal.loop-place-preserved
loop-place-preserved g c =
    let p : ℕ = g.F.Field.MODULUS in
    let x : ℕ = g.F.Field.number c.args.x in
    let place : ℕ = c.loop-place.place in
    let v : ℕ = c.number.result in
    let powers = c.loop-place.powers in
    let within : place < length powers = omega (arith, c.loop-place.invariant.long, c.requires, c.loop-place-test.true) in
    let less : v < p = subst (λ n. n < p) (sym c.number.ensures) (g.met.F.Field.below c.times-power.result) in
    let before : place - 1 + 1 ≡ place = omega (arith, c.loop-place.auto.place) in
    let here : g.F.Field.number c.times-power.result ≡ (x ^ place) % p =
    power-next p x (place - 1) (g.F.Field.number c.loop-place.power) _ c.loop-place.invariant.last c.times-power.ensures ∙ ap (λ j. (x ^ j) % p) before in
    record {
      long = length-set powers place v ∙ c.loop-place.invariant.long;
      below = All-set (λ y. y < p) powers place v less c.loop-place.invariant.below;
      powers = λ i some few.
          next (λ j n. 1 ≤ j → n ≡ (x ^ j) % p) powers place v within (λ j low one. c.loop-place.invariant.powers j one low) (λ one. c.number.ensures ∙ here) i few some;
      last = here ∙ ap (λ j. (x ^ j) % p) (let e : place ≡ place + 1 - 1 = omega arith in e);
    }
