use Rattle.std.proofs.Common.{◌≡◌, ℕ, ◌≤◌, ◌<◌, ℤ, List, ◌∷◌, pos, ◌+◌, ◌+ℤ◌, FitsSigned, w64, to_z, of_z, drop, get_or, length, arith}
use Rattle.std.specs.Int.{int_pow}
use Rattle.std.proofs.lemmas.Int.{to_z-of_z}
use Rattle.std.proofs.lemmas.List.{drop_more, drop_all}
use Rattle.sip_vector.specs.declared.update.Entry.{Entry}
use Rattle.sip_sums.proofs.ClaimWalks.{sums-on, no_rest, from_nothing}
use Rattle.sip_moments.specs.Powers.{powers_of}
use Rattle.sip_moments.proofs.PowerSums.{HasRoom, room-first, room-light, room-fits, room-next, power-fits, value-fits}
use Rattle.sip_moments.proofs.claims.sum_of_powers.Goals as goal

-- what one entry's power does to the sum
record Step (k : ℕ) (sum all : ℤ) (e : Entry) (rest : List Entry) : Type 0 where
  same : to_z w64 (of_z w64 e.value) ≡ e.value
  fits : FitsSigned w64 (int_pow e.value k)
  power : to_z w64 (of_z w64 (int_pow e.value k)) ≡ int_pow e.value k
  total_fits : FitsSigned w64 (sum +ℤ int_pow e.value k)
  total : to_z w64 (of_z w64 (sum +ℤ int_pow e.value k)) ≡ sum +ℤ int_pow e.value k
  room : HasRoom k (sum +ℤ int_pow e.value k) rest
  sums : (sum +ℤ int_pow e.value k) +ℤ powers_of k rest ≡ all

step : (k : ℕ) (sum all : ℤ) (e : Entry) (rest : List Entry) → 1 ≤ k → HasRoom k sum (e ∷ rest) → sum +ℤ powers_of k (e ∷ rest) ≡ all → Step k sum all e rest
step k sum all e rest some room sums =
    let fits = power-fits k sum e rest room in
    let next = room-next k sum e rest some room in
    let total_fits = room-fits k _ rest next in
    record {
      same = to_z-of_z w64 e.value (value-fits k sum e rest some room);
      fits = fits;
      power = to_z-of_z w64 (int_pow e.value k) fits;
      total_fits = total_fits;
      total = to_z-of_z w64 (sum +ℤ int_pow e.value k) total_fits;
      room = next;
      sums = sums-on sum (int_pow e.value k) (powers_of k rest) all sums;
    }

-- that of the entry at an index
step_at : (k i : ℕ) (sum : ℤ) (es : List Entry) → 1 ≤ k → i < length es → HasRoom k sum (drop i es) → sum +ℤ powers_of k (drop i es) ≡ powers_of k es
    → Step k sum (powers_of k es) (get_or es i (record { index = 0; value = pos 0 })) (drop (i + 1) es)
step_at k i sum es some lt room sums =
    let more = drop_more es i (record { index = 0; value = pos 0 }) lt in
    step k sum (powers_of k es) _ _ some (rw more at room) (rw more at sums)

pub loop-entry-init : goal.loop-entry-init
loop-entry-init c = record { sum = from_nothing (powers_of c.args.degree c.args.entries.now); room = room-first c.args.degree c.args.entries.now c.requires.light }

pub pow-sum-requires : goal.pow-sum-requires
pow-sum-requires c = let s = step_at c.args.degree c.loop-entry.entry-index (to_z w64 c.loop-entry.sum-bits) c.args.entries.now c.requires.some c.loop-entry-test.true c.loop-entry.invariant.room c.loop-entry.invariant.sum in
    rw (c.from.ensures, s.same) s.fits

pub overflow_add-sum : goal.overflow_add-sum
overflow_add-sum c = let s = step_at c.args.degree c.loop-entry.entry-index (to_z w64 c.loop-entry.sum-bits) c.args.entries.now c.requires.some c.loop-entry-test.true c.loop-entry.invariant.room c.loop-entry.invariant.sum in
    rw (c.pow-sum.ensures, c.from.ensures, s.same, s.power) s.total_fits

pub loop-entry-preserved : goal.loop-entry-preserved
loop-entry-preserved c = let s = step_at c.args.degree c.loop-entry.entry-index (to_z w64 c.loop-entry.sum-bits) c.args.entries.now c.requires.some c.loop-entry-test.true c.loop-entry.invariant.room c.loop-entry.invariant.sum in
    rw (c.pow-sum.ensures, c.from.ensures, s.same, s.power, s.total) (record { sum = s.sums; room = s.room })

pub returns-clause-sum : goal.returns-clause-sum
returns-clause-sum c =
    let rest = drop_all c.loop-entry.entry-index c.args.entries.now (omega (arith, c.loop-entry-test.false)) in
    no_rest _ _ (rw rest at c.loop-entry.invariant.sum)

pub returns-clause-fits : goal.returns-clause-fits
returns-clause-fits c = room-light c.args.degree _ _ c.loop-entry.invariant.room
