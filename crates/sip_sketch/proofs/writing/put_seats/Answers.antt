-- One seat more.
use Rattle.std.proofs.Common.{◌≡◌, length, get_or, vec_len, rules}
use Rattle.sip_sketch.proofs.Putting.{one_more, seats_all, seats_more, seats_none}
use Rattle.sip_sketch.proofs.writing.put_seats.Goals as goal

pub loop-seat-init : goal.loop-seat-init
loop-seat-init c = record {
  len = search rules;
  capacity = search rules;
  puts = λ tally. seats_none c.args.out.now.items c.args.depth tally c.args.seats.now;
}

pub loop-seat-preserved : goal.loop-seat-preserved
loop-seat-preserved c =
    let seat = c.seat-item.result in
    let is : seat ≡ get_or c.args.seats.now c.loop-seat.seat-index seat = search rules in
    let long : length seat.block ≡ c.args.depth = search rules in
    record {
      len = one_more (vec_len c.args.out.now) (vec_len c.loop-seat.out) (vec_len c.put_seat.new.out) c.loop-seat.seat-index (length seat.block) c.args.depth long c.loop-seat.invariant.len c.put_seat.ensures.len;
      capacity = search rules;
      puts = λ tally. seats_more c.args.out.now.items c.loop-seat.out.items c.put_seat.new.out.items c.args.depth tally c.args.seats.now c.loop-seat.seat-index seat c.loop-seat-test.true is long
          (c.put_seat.ensures.puts tally) (c.loop-seat.invariant.puts tally);
    }

pub returns-clause-puts : goal.returns-clause-puts
returns-clause-puts c = λ tally.
    seats_all c.args.out.now.items c.loop-seat.out.items c.args.depth tally c.args.seats.now c.loop-seat.seat-index c.loop-seat-test.false (c.loop-seat.invariant.puts tally)
