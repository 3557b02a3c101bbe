-- The head, the seats and the digest are the file.
use Rattle.std.proofs.Common.{◌≡◌, ◌++◌, flat_map, length, subst, ◌∙◌, rules}
use Rattle.sha2.specs.Sha256.{sha256}
use Rattle.sip_sketch.specs.Fields.{digest}
use Rattle.sip_sketch.specs.Sketches.{SketchValues, seat_numbers, seats_fields, second_of, spelled_file}
use Rattle.sip_sketch.specs.declared.reading.Head.{Head}
use Rattle.sip_sketch.specs.inside.Spelling.{Puts}
use Rattle.sip_sketch.proofs.Putting.{whole_file}
use Rattle.sip_sketch.proofs.sketch.Sketch.write.Goals as goal

pub returns-clause-written : goal.returns-clause-written
returns-clause-written c =
    let s = c.self.inside in
    let h : Head = record { depth = s.depth; parts = s.parts; tally = s.tally; count = c.len.result } in
    let headed = c.put_head.new.out.items in
    let seated = c.put_seats.new.out.items in
    let number = second_of s.tally in
    let same : c.deref.result.now ≡ s.seats.items = search rules in
    let few : length s.seats.items ≡ c.len.result = search rules in
    let seats = subst (λ n. Puts headed seated (seats_fields s.depth number n) digest (flat_map seat_numbers s.seats.items)) few
    (subst (λ l. Puts headed seated (seats_fields s.depth number (length l)) digest (flat_map seat_numbers l)) same (c.put_seats.ensures.puts s.tally)) in
    let ends : c.put.new.out.items ≡ seated ++ sha256 seated = search rules in
    subst (λ (v : SketchValues). c.put.new.out.items ≡ spelled_file v) c.self.view_is
    (whole_file c.reserve.new.self.items headed seated c.put.new.out.items h s.seats.items (c.reserve.ensures.items ∙ c.clear.ensures.items) c.put_head.ensures.puts seats few ends)
