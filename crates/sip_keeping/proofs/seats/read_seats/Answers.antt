use Rattle.std.proofs.Common.{◌≡◌, true, false, ◌+◌, sym, refl, ◌∙◌, arith}
use Rattle.sip_keeping.proofs.Refused.{got, there}
use Rattle.sip_keeping.proofs.SoFar.{seats_all, seats_to_more, stops_full}
use Rattle.sip_keeping.proofs.seats.read_seats.Goals as goal

pub loop-number-preserved : goal.loop-number-preserved
loop-number-preserved c =
    let read = got c.args.words.now c.loop-number.number c.in-Some.word c.in-Some.ensures in
    let asked = c.add_asked.ensures.added c.if-not-add_asked.false in
    seats_to_more c.args.words.now c.args.first c.loop-number.number c.loop-number.kinds.items _ asked.0 asked.1 c.loop-number.invariant read.0 asked.2 (read.1 ∙ asked.3) asked.4 asked.5

pub returns-then-is_some-clause-refused : goal.returns-then-is_some-clause-refused
returns-then-is_some-clause-refused c =
    let more = there c.args.words.now (c.args.first + 64) c.get-2.result true c.get-2.ensures (sym c.is_some.ensures ∙ c.if-is_some.true) in
    let last : c.loop-number.number ≡ c.args.first + 64 = omega arith in
    rw last at (stops_full c.args.words.now c.args.first c.loop-number.number c.loop-number.kinds.items c.loop-number.invariant (omega arith) (let m = more.0 refl in omega arith))

pub returns-clause-seats : goal.returns-clause-seats
returns-clause-seats c =
    let more = there c.args.words.now (c.args.first + 64) c.get-2.result false c.get-2.ensures (sym c.is_some.ensures ∙ c.if-is_some.false) in
    let few = more.1 refl in
    let inv = c.loop-number.invariant in
    (seats_all c.args.words.now c.args.first c.loop-number.number c.loop-number.kinds.items inv (omega arith), inv.some (omega arith), inv.most)
