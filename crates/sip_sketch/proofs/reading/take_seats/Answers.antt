use Rattle.std.proofs.Common.{◌≡◌, suc, ◌+◌, ◌-◌, [], ◌∷◌, ◌++◌, flat_map, subst, arith}
use Rattle.std.proofs.lemmas.Result.{err_from_is_err_and}
use Rattle.std.proofs.lemmas.List.{length-append}
use Rattle.sip_sketch.specs.Reading.{Passes}
use Rattle.sip_sketch.specs.Sketches.{seat_numbers, seats_fields, second_of}
use Rattle.sip_sketch.proofs.Steps.{passes_on, fault_behind}
use Rattle.sip_sketch.proofs.SeatLists.{seats_at, numbers_on, blocks_on}
use Rattle.sip_sketch.proofs.reading.take_seats.Goals as goal

pub returns-in_err-seat-clause-takes : goal.returns-in_err-seat-clause-takes
returns-in_err-seat-clause-takes c =
    let r = c.from_residual-in_err-seat in
    let p = err_from_is_err_and r.result r.ensures.1 in
    let number = second_of c.args.tally.now in
    let d = c.args.depth in
    let n = c.args.count in
    let i = c.loop.counter in
    let more : n - i ≡ suc (n - (i + 1)) = omega (arith, c.loop-test.true) in
    let left = seats_fields d number (n - (i + 1)) in
    let before = subst (λ g. Passes c.args.cursor.now c.loop.cursor (seats_fields d number n) g (flat_map seat_numbers c.loop.seats.items)) (seats_at d number (n - i) (n - (i + 1)) more) c.loop.invariant.3 in
    rw (p.1, p.2) (fault_behind before (c.in_err-seat.ensures.takes left))

pub loop-preserved : goal.loop-preserved
loop-preserved c =
    let number = second_of c.args.tally.now in
    let d = c.args.depth in
    let n = c.args.count in
    let i = c.loop.counter in
    let xs = c.loop.seats.items in
    let x = c.in_ok-seat.seat in
    let items : c.push.new.self.items ≡ xs ++ x ∷ [] = c.in_ok-push.ensures.items in
    let more : n - i ≡ suc (n - (i + 1)) = omega (arith, c.loop-test.true) in
    let left = seats_fields d number (n - (i + 1)) in
    let before = subst (λ g. Passes c.args.cursor.now c.loop.cursor (seats_fields d number n) g (flat_map seat_numbers xs)) (seats_at d number (n - i) (n - (i + 1)) more) c.loop.invariant.3 in
    let on = passes_on before (c.in_ok-seat.ensures.takes left) in
    rw items (
      omega (arith, c.loop-test.true),
      omega (arith, length-append xs (x ∷ []), c.loop.invariant.1),
      blocks_on d xs x c.loop.invariant.2 c.in_ok-seat.ensures.block,
      subst (λ t. Passes c.args.cursor.now c.take_seat.new.cursor (seats_fields d number n) left t) (numbers_on xs x) on,
    )

-- memory was refused
pub returns-in_err-push-clause-takes : goal.returns-in_err-push-clause-takes
returns-in_err-push-clause-takes c =
    let r = c.from_residual-in_err-push in
    let p = err_from_is_err_and r.result r.ensures.1 in
    rw (p.1, p.2) (record { faults = λ values. tt })
