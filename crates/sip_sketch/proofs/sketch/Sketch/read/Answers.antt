use Rattle.std.proofs.Common.{[], Ok, Err, sym, subst, ◌∙◌, arith}
use Rattle.std.proofs.lemmas.Result.{err_from_is_err_and}
use Rattle.sip_sketch.specs.Reading.{IsFaultOf}
use Rattle.sip_sketch.specs.Sketches.{sketch_file}
use Rattle.sip_sketch.proofs.Apart.{read_as}
use Rattle.sip_sketch.proofs.Closing.{from_front, whole_read}
use Rattle.sip_sketch.proofs.Exact.{is_found}
use Rattle.sip_sketch.proofs.Steps.{passes_on, fault_behind}
use Rattle.sip_sketch.proofs.sketch.Sketch.read.Goals as goal

pub returns-in_err-head-clause-exact : goal.returns-in_err-head-clause-exact
returns-in_err-head-clause-exact c =
    let r = c.from_residual in
    let p = err_from_is_err_and r.result r.ensures.1 in
    let front = from_front c.new-cursor.result c.args.bytes.now c.new-cursor.ensures.bytes c.new-cursor.ensures.at in
    let exact = subst (λ k. IsFaultOf k c.in_err-head.field-0.0) front (c.in_err-head.ensures.takes.faults []) in
    rw (p.1, p.2) exact

pub returns-in_err-head-clause-only : goal.returns-in_err-head-clause-only
returns-in_err-head-clause-only c =
    let r = c.from_residual in
    let p = err_from_is_err_and r.result r.ensures.1 in
    let front = from_front c.new-cursor.result c.args.bytes.now c.new-cursor.ensures.bytes c.new-cursor.ensures.at in
    let exact = subst (λ k. IsFaultOf k c.in_err-head.field-0.0) front (c.in_err-head.ensures.takes.faults []) in
    rw (p.1, p.2) (λ s is e. read_as c.args.bytes.now s (Err c.in_err-head.field-0.0) is e exact tt)

pub returns-in_err-seats-clause-exact : goal.returns-in_err-seats-clause-exact
returns-in_err-seats-clause-exact c =
    let r = c.from_residual-in_err-seats in
    let p = err_from_is_err_and r.result r.ensures.1 in
    let front = from_front c.new-cursor.result c.args.bytes.now c.new-cursor.ensures.bytes c.new-cursor.ensures.at in
    let all = fault_behind c.in_ok-head.ensures.takes c.in_err-seats.ensures.takes in
    let exact = subst (λ k. IsFaultOf k c.in_err-seats.field-0.0) front (all.faults []) in
    rw (p.1, p.2) exact

pub returns-in_err-seats-clause-only : goal.returns-in_err-seats-clause-only
returns-in_err-seats-clause-only c =
    let r = c.from_residual-in_err-seats in
    let p = err_from_is_err_and r.result r.ensures.1 in
    let front = from_front c.new-cursor.result c.args.bytes.now c.new-cursor.ensures.bytes c.new-cursor.ensures.at in
    let all = fault_behind c.in_ok-head.ensures.takes c.in_err-seats.ensures.takes in
    let exact = subst (λ k. IsFaultOf k c.in_err-seats.field-0.0) front (all.faults []) in
    rw (p.1, p.2) (λ s is e. read_as c.args.bytes.now s (Err c.in_err-seats.field-0.0) is e exact tt)

pub returns-in_err-take_digest-clause-exact : goal.returns-in_err-take_digest-clause-exact
returns-in_err-take_digest-clause-exact c =
    let r = c.from_residual-in_err-take_digest in
    let p = err_from_is_err_and r.result r.ensures.1 in
    let front = from_front c.new-cursor.result c.args.bytes.now c.new-cursor.ensures.bytes c.new-cursor.ensures.at in
    let all = (passes_on c.in_ok-head.ensures.takes c.in_ok-seats.ensures.takes).passes [] in
    let exact = subst (λ k. IsFaultOf k c.in_err-take_digest.field-0.0) (sym all ∙ front) (c.in_err-take_digest.ensures.fault _) in
    rw (p.1, p.2) exact

pub returns-in_err-take_digest-clause-only : goal.returns-in_err-take_digest-clause-only
returns-in_err-take_digest-clause-only c =
    let r = c.from_residual-in_err-take_digest in
    let p = err_from_is_err_and r.result r.ensures.1 in
    let front = from_front c.new-cursor.result c.args.bytes.now c.new-cursor.ensures.bytes c.new-cursor.ensures.at in
    let all = (passes_on c.in_ok-head.ensures.takes c.in_ok-seats.ensures.takes).passes [] in
    let exact = subst (λ k. IsFaultOf k c.in_err-take_digest.field-0.0) (sym all ∙ front) (c.in_err-take_digest.ensures.fault _) in
    rw (p.1, p.2) (λ s is e. read_as c.args.bytes.now s (Err c.in_err-take_digest.field-0.0) is e exact tt)

pub invariant_of-result : goal.invariant_of-result
invariant_of-result c =
    let all = whole_read c.args.bytes.now c.new-cursor.result c.take_head.new.cursor c.take_seats.new.cursor c.in_ok-head.head c.in_ok-seats.seats.items
    c.new-cursor.ensures.bytes c.new-cursor.ensures.at c.in_ok-head.ensures.takes c.in_ok-seats.ensures.takes c.in_ok-seats.ensures.length c.in_ok-take_digest.ensures.found in
    let found = is_found sketch_file c.args.bytes.now _ (λ i. omega (arith, c.type_inv.bytes i)) all in
    record { blocks = c.in_ok-seats.ensures.each; values = found.0 }

pub returns-clause-exact : goal.returns-clause-exact
returns-clause-exact c =
    let all = whole_read c.args.bytes.now c.new-cursor.result c.take_head.new.cursor c.take_seats.new.cursor c.in_ok-head.head c.in_ok-seats.seats.items
    c.new-cursor.ensures.bytes c.new-cursor.ensures.at c.in_ok-head.ensures.takes c.in_ok-seats.ensures.takes c.in_ok-seats.ensures.length c.in_ok-take_digest.ensures.found in
    all

pub returns-clause-found : goal.returns-clause-found
returns-clause-found c =
    let all = whole_read c.args.bytes.now c.new-cursor.result c.take_head.new.cursor c.take_seats.new.cursor c.in_ok-head.head c.in_ok-seats.seats.items
    c.new-cursor.ensures.bytes c.new-cursor.ensures.at c.in_ok-head.ensures.takes c.in_ok-seats.ensures.takes c.in_ok-seats.ensures.length c.in_ok-take_digest.ensures.found in
    let found = is_found sketch_file c.args.bytes.now _ (λ i. omega (arith, c.type_inv.bytes i)) all in
    (record { blocks = c.in_ok-seats.ensures.each; values = found.0 }, found.1)

pub returns-clause-only : goal.returns-clause-only
returns-clause-only c =
    let all = whole_read c.args.bytes.now c.new-cursor.result c.take_head.new.cursor c.take_seats.new.cursor c.in_ok-head.head c.in_ok-seats.seats.items
    c.new-cursor.ensures.bytes c.new-cursor.ensures.at c.in_ok-head.ensures.takes c.in_ok-seats.ensures.takes c.in_ok-seats.ensures.length c.in_ok-take_digest.ensures.found in
    let found = is_found sketch_file c.args.bytes.now _ (λ i. omega (arith, c.type_inv.bytes i)) all in
    λ s is e. read_as c.args.bytes.now s (Ok _) is e all (record { blocks = c.in_ok-seats.ensures.each; values = found.0 })
