use Rattle.std.proofs.Common.{◌≡◌, ℤ, List, ◌∷◌, pos, ◌+◌, ◌+ℤ◌, ◌*ℤ◌, FitsSigned, w64, to_z, of_z, drop, get_or, arith}
use Rattle.std.proofs.lemmas.Int.{to_z-of_z}
use Rattle.std.proofs.lemmas.List.{drop_more, drop_all}
use Rattle.sip_vector.specs.declared.update.Entry.{Entry}
use Rattle.sip_vector.proofs.Kept.{same_z}
use Rattle.sip_sums.specs.Claims.{squares_sum}
use Rattle.sip_sums.proofs.ClaimWalks.{HasRoom, room-first, room-entry, room-next, product-fits, room-fits, room-light, sums-on, no_rest, from_nothing}
use Rattle.sip_sums.proofs.claims.sum_of_squares.Goals as goal

-- what one entry's square does to the sum
record Step (sum all : ℤ) (e : Entry) (rest : List Entry) : Type 0 where
  same : to_z w64 (of_z w64 e.value) ≡ e.value
  fits : FitsSigned w64 (e.value *ℤ e.value)
  product : to_z w64 (of_z w64 (e.value *ℤ e.value)) ≡ e.value *ℤ e.value
  total_fits : FitsSigned w64 (sum +ℤ e.value *ℤ e.value)
  total : to_z w64 (of_z w64 (sum +ℤ e.value *ℤ e.value)) ≡ sum +ℤ e.value *ℤ e.value
  room : HasRoom (sum +ℤ e.value *ℤ e.value) rest
  sums : (sum +ℤ e.value *ℤ e.value) +ℤ squares_sum rest ≡ all

step : (sum all : ℤ) (e : Entry) (rest : List Entry) → HasRoom sum (e ∷ rest) → sum +ℤ squares_sum (e ∷ rest) ≡ all → Step sum all e rest
step sum all e rest room sums =
    let light = room-entry sum e rest room in
    let fits = product-fits e.value e.value light light in
    let next = room-next sum e rest e.value room light in
    let total_fits = room-fits _ rest next in
    record {
      same = same_z e.value light;
      fits = fits;
      product = to_z-of_z w64 (e.value *ℤ e.value) fits;
      total_fits = total_fits;
      total = to_z-of_z w64 (sum +ℤ e.value *ℤ e.value) total_fits;
      room = next;
      sums = sums-on sum (e.value *ℤ e.value) (squares_sum rest) all sums;
    }

-- the step of an iteration
its_step : (c : goal.After-sum-in-loop-entry-1) → (let d : Entry = record { index = 0; value = pos 0 } in
    Step (to_z w64 c.loop-entry.sum-bits) (squares_sum c.args.entries.now) (get_or c.args.entries.now c.loop-entry.entry-index d) (drop (c.loop-entry.entry-index + 1) c.args.entries.now))
its_step c =
    let es = c.args.entries.now in
    let d : Entry = record { index = 0; value = pos 0 } in
    let more = drop_more es c.loop-entry.entry-index d c.loop-entry-test.true in
    step _ _ _ _ (rw more at c.loop-entry.invariant.room) (rw more at c.loop-entry.invariant.sum)

pub loop-entry-init : goal.loop-entry-init
loop-entry-init c = record { sum = from_nothing (squares_sum c.args.entries.now); room = room-first c.args.entries.now c.requires }

pub overflow_mul-sum : goal.overflow_mul-sum
overflow_mul-sum c = let s = its_step c in rw s.same s.fits

pub overflow_add-sum : goal.overflow_add-sum
overflow_add-sum c = let s = its_step c in rw (s.same, s.product) s.total_fits

pub loop-entry-preserved : goal.loop-entry-preserved
loop-entry-preserved c = let s = its_step c in rw (s.same, s.product, s.total) (record { sum = s.sums; room = s.room })

pub returns-clause-sum : goal.returns-clause-sum
returns-clause-sum c =
    let rest = drop_all c.loop-entry.entry-index c.args.entries.now (omega (arith, c.loop-entry-test.false)) in
    no_rest _ _ (rw rest at c.loop-entry.invariant.sum)

pub returns-clause-fits : goal.returns-clause-fits
returns-clause-fits c = room-light _ _ c.loop-entry.invariant.room
