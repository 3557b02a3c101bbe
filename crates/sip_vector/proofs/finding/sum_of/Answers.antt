use Rattle.std.proofs.Common.{◌≡◌, ◌+ℤ◌, ℤ, pos, w64, to_z, get_or, take, sym, ap, ◌∙◌, refl, arith}
use Rattle.std.proofs.lemmas.Int.{ints}
use Rattle.std.proofs.lemmas.List.{take_all}
use Rattle.sip_vector.specs.inside.Gathered.{sum_at}
use Rattle.sip_vector.specs.declared.update.Entry.{Entry}
use Rattle.sip_vector.proofs.Finds.{get_or-any, value_at-other, value_at-here, sum_at-take_more, abs_sum-take_more, abs_sum-at}
use Rattle.sip_vector.proofs.Kept.{fits, same_z}
use Rattle.sip_vector.proofs.Sums.{nat_abs-add-le}
use Rattle.sip_vector.proofs.finding.sum_of.Goals as goal

zero_entry : Entry
zero_entry = record { index = 0; value = pos 0 }

same_sum : (a b v : ℤ) → v ≡ pos 0 → a ≡ b → a ≡ b +ℤ v
same_sum a b v e f = omega (arith, ints, e, f)

pub loop-waiting-init : goal.loop-waiting-init
loop-waiting-init c = record { sum = refl; light = omega arith }

pub loop-waiting-preserved-then-entry-index : goal.loop-waiting-preserved-then-entry-index
loop-waiting-preserved-then-entry-index c =
    let es = c.args.entries.now in
    let i = c.loop-waiting.waiting-index in
    let d : Entry = record { index = 0; value = pos 0 } in
    let there = get_or-any es i c.waiting-item.result d c.loop-waiting-test.true in
    let here : c.entry-entry.result ≡ get_or es i d =
    c.entry-entry.ensures ∙ c.waiting-item.is ∙ there in
    record {
      sum = same_sum _ _ _
          (value_at-other (get_or es i d) c.args.index (rw here at c.if-entry-index.true))
          c.loop-waiting.invariant.sum ∙ sym (sum_at-take_more es i d c.loop-waiting-test.true c.args.index);
      light = omega (arith, c.loop-waiting.invariant.light, abs_sum-take_more es i d c.loop-waiting-test.true);
    }

pub overflow_add-sum : goal.overflow_add-sum
overflow_add-sum c =
    let es = c.args.entries.now in
    let i = c.loop-waiting.waiting-index in
    let d : Entry = record { index = 0; value = pos 0 } in
    let there = get_or-any es i c.waiting-item.result d c.loop-waiting-test.true in
    let here : c.entry-entry.result ≡ get_or es i d =
    c.entry-entry.ensures ∙ c.waiting-item.is ∙ there in
    let all = abs_sum-at es i d c.loop-waiting-test.true in
    let room = c.requires in
    rw (here, same_z (get_or es i d).value (omega (arith, all, room)))
    (fits _ (omega (arith, nat_abs-add-le (to_z w64 c.loop-waiting.sum-bits) (get_or es i d).value, c.loop-waiting.invariant.light, all, room)))

pub loop-waiting-preserved : goal.loop-waiting-preserved
loop-waiting-preserved c =
    let es = c.args.entries.now in
    let i = c.loop-waiting.waiting-index in
    let d : Entry = record { index = 0; value = pos 0 } in
    let there = get_or-any es i c.waiting-item.result d c.loop-waiting-test.true in
    let here : c.entry-entry.result ≡ get_or es i d =
    c.entry-entry.ensures ∙ c.waiting-item.is ∙ there in
    let all = abs_sum-at es i d c.loop-waiting-test.true in
    let room = c.requires in
    let sum = to_z w64 c.loop-waiting.sum-bits in
    let more = nat_abs-add-le sum (get_or es i d).value in
    let value : (get_or es i d).value ≡ _ = sym (value_at-here (get_or es i d) c.args.index (rw here at c.if-entry-index.false)) in
    rw (
      here,
      same_z (get_or es i d).value (omega (arith, all, room)),
      same_z (sum +ℤ (get_or es i d).value) (omega (arith, more, c.loop-waiting.invariant.light, all, room)),
    )
    (record {
      sum = ap (λ z. z +ℤ (get_or es i d).value) c.loop-waiting.invariant.sum ∙ ap (λ z. sum_at (take i es) c.args.index +ℤ z) value ∙ sym (sum_at-take_more es i d c.loop-waiting-test.true c.args.index);
      light = omega (arith, more, c.loop-waiting.invariant.light, abs_sum-take_more es i d c.loop-waiting-test.true);
    })

pub returns : goal.returns
returns c = c.loop-waiting.invariant.sum ∙ ap (λ es. sum_at es c.args.index) (take_all c.loop-waiting.waiting-index c.args.entries.now (omega (arith, c.loop-waiting-test.false)))
