-- The two lists beside each other, entry by entry.
use Rattle.std.proofs.Common.{◌≡◌, ℤ, List, ◌∷◌, ◌<◌, ◌≤◌, ◌+ℤ◌, ◌*ℤ◌, nat_abs, FitsSigned, w64, to_z, of_z, length, sym, ap, ◌∙◌, arith}
use Rattle.std.proofs.lemmas.Int.{to_z-of_z}
use Rattle.sip_vector.specs.Streams.{most_weight}
use Rattle.sip_vector.specs.declared.update.Entry.{Entry}
use Rattle.sip_vector.specs.inside.Gathered.{abs_sum}
use Rattle.sip_vector.proofs.Kept.{same_z}
use Rattle.sip_sums.specs.Claims.{products_sum, RisesFrom}
use Rattle.sip_sums.proofs.ClaimSums.{rises-later}
use Rattle.sip_sums.proofs.ClaimWalks.{HasRoom, room-first, room-entry, room-next, room-skip, product-fits, room-fits, room-light, products-less, products-more, products-same, products-none, sums-on, no_rest, from_nothing}
use Rattle.sip_sums.proofs.claims.sum_of_products.Goals as goal

-- what two entries at one index do to the sum
record Step (sum all : ℤ) (e o : Entry) (es os : List Entry) : Type 0 where
  same : to_z w64 (of_z w64 e.value) ≡ e.value
  same_too : to_z w64 (of_z w64 o.value) ≡ o.value
  fits : FitsSigned w64 (e.value *ℤ o.value)
  product : to_z w64 (of_z w64 (e.value *ℤ o.value)) ≡ e.value *ℤ o.value
  total_fits : FitsSigned w64 (sum +ℤ e.value *ℤ o.value)
  total : to_z w64 (of_z w64 (sum +ℤ e.value *ℤ o.value)) ≡ sum +ℤ e.value *ℤ o.value
  room : HasRoom (sum +ℤ e.value *ℤ o.value) es
  sums : (sum +ℤ e.value *ℤ o.value) +ℤ products_sum os es ≡ all

step : (sum all : ℤ) (e o : Entry) (es os : List Entry) → HasRoom sum (e ∷ es) → abs_sum (o ∷ os) ≤ most_weight → RisesFrom 0 (e ∷ es) → o.index ≡ e.index
    → sum +ℤ products_sum (o ∷ os) (e ∷ es) ≡ all → Step sum all e o es os
step sum all e o es os room light rise at sums =
    let here = room-entry sum e es room in
    let there : nat_abs o.value ≤ most_weight = omega (arith, light) in
    let fits = product-fits e.value o.value here there in
    let next = room-next sum e es o.value room there in
    let total_fits = room-fits _ es next in
    record {
      same = same_z e.value here;
      same_too = same_z o.value there;
      fits = fits;
      product = to_z-of_z w64 (e.value *ℤ o.value) fits;
      total_fits = total_fits;
      total = to_z-of_z w64 (sum +ℤ e.value *ℤ o.value) total_fits;
      room = next;
      sums = sums-on sum (e.value *ℤ o.value) (products_sum os es) all (ap (λ z. sum +ℤ z) (sym (products-same e o es os rise at)) ∙ sums);
    }

behind : (e : Entry) (es : List Entry) → RisesFrom 0 (e ∷ es) → RisesFrom 0 es
behind e es rise = rises-later 0 _ es (omega arith) rise.1

lighter : (e : Entry) (es : List Entry) → abs_sum (e ∷ es) ≤ most_weight → abs_sum es ≤ most_weight
lighter e es light = omega (arith, light)

-- sums over two lists are those over their parts
in_parts : (sum all : ℤ) (xs ys : List Entry) (e o : Entry) (es os : List Entry) → xs ≡ e ∷ es → ys ≡ o ∷ os
    → sum +ℤ products_sum ys xs ≡ all → sum +ℤ products_sum (o ∷ os) (e ∷ es) ≡ all
in_parts sum all xs ys e o es os first second sums =
    ap (λ l. sum +ℤ products_sum l (e ∷ es)) (sym second) ∙ ap (λ l. sum +ℤ products_sum ys l) (sym first) ∙ sums

step_of : (sum all : ℤ) (xs ys : List Entry) (e o : Entry) (es os : List Entry) → xs ≡ e ∷ es → ys ≡ o ∷ os
    → HasRoom sum xs → abs_sum ys ≤ most_weight → RisesFrom 0 xs → o.index ≤ e.index → e.index ≤ o.index → sum +ℤ products_sum ys xs ≡ all → Step sum all e o es os
step_of sum all xs ys e o es os first second room light rise le ge sums =
    step sum all e o es os (rw first at room) (rw second at light) (rw first at rise) (omega (arith, le, ge)) (in_parts sum all xs ys e o es os first second sums)

pub loop-one-init : goal.loop-one-init
loop-one-init c = record {
  order = c.requires.order;
  order_too = c.requires.order_too;
  light = c.requires.second;
  room = room-first c.args.first.now c.requires.first;
  sum = from_nothing (products_sum c.args.second.now c.args.first.now);
}

pub overflow_mul-sum : goal.overflow_mul-sum
overflow_mul-sum c =
    let i = c.loop-one.invariant in
    let w = c.in-Some-Some in
    let s = step_of _ _ _ _ w.one w.other w.ones.now w.others.now w.ensures w.ensures' i.room i.light i.order c.if-one-other.false c.if-other-one.false i.sum in
    rw (s.same, s.same_too) s.fits

pub overflow_add-sum : goal.overflow_add-sum
overflow_add-sum c =
    let i = c.loop-one.invariant in
    let w = c.in-Some-Some in
    let s = step_of _ _ _ _ w.one w.other w.ones.now w.others.now w.ensures w.ensures' i.room i.light i.order c.if-one-other.false c.if-other-one.false i.sum in
    rw (s.same, s.same_too, s.product) s.total_fits

shorter : (xs ys : List Entry) (x : Entry) → xs ≡ x ∷ ys → length ys < length xs
shorter xs ys x e = rw e (omega arith)

pub loop-one-smaller-then-one-other : goal.loop-one-smaller-then-one-other
loop-one-smaller-then-one-other c = omega (arith, shorter _ _ _ c.in-Some-Some.ensures)

pub loop-one-preserved-then-one-other : goal.loop-one-preserved-then-one-other
loop-one-preserved-then-one-other c =
    let w = c.in-Some-Some in
    let i = c.loop-one.invariant in
    let sum = in_parts _ _ _ _ w.one w.other w.ones.now w.others.now w.ensures w.ensures' i.sum in
    let skip = products-less w.one w.other w.ones.now w.others.now (rw w.ensures' at i.order_too) c.if-one-other.true in
    record {
      order = behind w.one w.ones.now (rw w.ensures at i.order);
      order_too = i.order_too;
      light = i.light;
      room = room-skip _ w.one w.ones.now (rw w.ensures at i.room);
      sum = ap (λ l. to_z w64 c.loop-one.sum-bits +ℤ products_sum l w.ones.now) w.ensures' ∙ ap (λ z. to_z w64 c.loop-one.sum-bits +ℤ z) (sym skip) ∙ sum;
    }

pub loop-one-smaller-then-other-one : goal.loop-one-smaller-then-other-one
loop-one-smaller-then-other-one c = omega (arith, shorter _ _ _ c.in-Some-Some.ensures')

pub loop-one-preserved-then-other-one : goal.loop-one-preserved-then-other-one
loop-one-preserved-then-other-one c =
    let w = c.in-Some-Some in
    let i = c.loop-one.invariant in
    let sum = in_parts _ _ _ _ w.one w.other w.ones.now w.others.now w.ensures w.ensures' i.sum in
    let skip = products-more w.one w.other w.ones.now w.others.now (rw w.ensures at i.order) c.if-other-one.true in
    record {
      order = i.order;
      order_too = behind w.other w.others.now (rw w.ensures' at i.order_too);
      light = lighter w.other w.others.now (rw w.ensures' at i.light);
      room = i.room;
      sum = ap (λ l. to_z w64 c.loop-one.sum-bits +ℤ products_sum w.others.now l) w.ensures ∙ ap (λ z. to_z w64 c.loop-one.sum-bits +ℤ z) (sym skip) ∙ sum;
    }

pub loop-one-smaller : goal.loop-one-smaller
loop-one-smaller c = omega (arith, shorter _ _ _ c.in-Some-Some.ensures, shorter _ _ _ c.in-Some-Some.ensures')

pub loop-one-preserved : goal.loop-one-preserved
loop-one-preserved c =
    let w = c.in-Some-Some in
    let i = c.loop-one.invariant in
    let s = step_of _ _ _ _ w.one w.other w.ones.now w.others.now w.ensures w.ensures' i.room i.light i.order c.if-one-other.false c.if-other-one.false i.sum in
    rw (s.same, s.same_too, s.product, s.total) (record {
      order = behind w.one w.ones.now (rw w.ensures at i.order);
      order_too = behind w.other w.others.now (rw w.ensures' at i.order_too);
      light = lighter w.other w.others.now (rw w.ensures' at i.light);
      room = s.room;
      sum = s.sums;
    })

pub returns-in_default-clause-sum : goal.returns-in_default-clause-sum
returns-in_default-clause-sum c =
    let sum = c.loop-one.invariant.sum in
    no_rest _ _ (ap (λ z. to_z w64 c.loop-one.sum-bits +ℤ z) (sym (products-none c.loop-one.first.now)) ∙ ap (λ l. to_z w64 c.loop-one.sum-bits +ℤ products_sum l c.loop-one.first.now) (sym c.in_default.ensures') ∙ sum)

pub returns-in_default-clause-fits : goal.returns-in_default-clause-fits
returns-in_default-clause-fits c = room-light _ _ c.loop-one.invariant.room

pub returns-in_default-2-clause-sum : goal.returns-in_default-2-clause-sum
returns-in_default-2-clause-sum c =
    no_rest _ _ (ap (λ l. to_z w64 c.loop-one.sum-bits +ℤ products_sum c.loop-one.second.now l) (sym c.in_default.ensures) ∙ c.loop-one.invariant.sum)

pub returns-in_default-2-clause-fits : goal.returns-in_default-2-clause-fits
returns-in_default-2-clause-fits c = room-light _ _ c.loop-one.invariant.room
