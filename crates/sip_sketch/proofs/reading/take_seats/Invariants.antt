use Rattle.std.proofs.Common.{◌≡◌, ◌-◌, ◌≤◌, length, All, flat_map}
use Rattle.sip_sketch.specs.Reading.{Passes}
use Rattle.sip_sketch.specs.Sketches.{seat_numbers, seats_fields, second_of}
use Rattle.sip_sketch.proofs.reading.take_seats.Given as goal

abbrev pub invariant-loop : goal.invariant-loop
invariant-loop l = (l.counter ≤ l.fn.count) × (length l.seats.items ≡ l.counter)
    × All (λ seat. length seat.block ≡ l.fn.depth) l.seats.items
    × Passes l.fn.cursor l.cursor (seats_fields l.fn.depth (second_of l.fn.tally) l.fn.count) (seats_fields l.fn.depth (second_of l.fn.tally) (l.fn.count - l.counter)) (flat_map seat_numbers l.seats.items)
