-- What the source held, or else the next record.
use Rattle.std.proofs.Common.{◌<◌, List, [], length, sym, subst, arith}
use Rattle.std.proofs.lemmas.Result.{err_from_is_err_and}
use Rattle.sip_vector.specs.declared.update.Update.{Update}
use Rattle.sip_questions.specs.inside.StoreHearing.{Takes}
use Rattle.sip_questions.proofs.StoreReading.{first_set, held_none, out_more, some_set, stops_more, stops_next, takes_end, takes_held, takes_more, takes_next}
use Rattle.sip_questions.proofs.store_hearing.take_some.Goals as goal

pub returns-in_err-update-clause-takes : goal.returns-in_err-update-clause-takes
returns-in_err-update-clause-takes g c =
    let held = c.read_held-held.ensures in
    let (taken, read, took) = held.took in
    let front = held_none _ _ _ _ c.read_held-held.result c.read_held-held.new.block c.if-held-gt0.false (takes_held _ _ _ _ taken _ c.requires.ready read took held.tells) in
    let p = err_from_is_err_and c.from_residual.result c.from_residual.ensures.1 in
    rw (p.1, p.2) (stops_more _ _ _ _ [] 1 1 c.in_err-update.field-0.0 front (omega arith) (stops_next _ _ _ c.in_err-update.field-0.0 c.in_err-update.ensures.reads))

pub returns-in_default-clause-takes : goal.returns-in_default-clause-takes
returns-in_default-clause-takes g c =
    let held = c.read_held-held.ensures in
    let (taken, read, took) = held.took in
    let front = held_none _ _ _ _ c.read_held-held.result c.read_held-held.new.block c.if-held-gt0.false (takes_held _ _ _ _ taken _ c.requires.ready read took held.tells) in
    let next = rw c.in_default.is at c.in_ok-update.ensures in
    let ended = takes_end _ _ _ _ next.depth next.form next.spent next.after next.tells next.reads in
    (omega arith, takes_more _ _ _ _ _ _ [] [] front ended.0, λ zero. out_more _ _ _ _ _ [] front ended.1)

pub returns-clause-takes : goal.returns-clause-takes
returns-clause-takes g c =
    let held = c.read_held-held.ensures in
    let (taken, read, took) = held.took in
    let front = held_none _ _ _ _ c.read_held-held.result c.read_held-held.new.block c.if-held-gt0.false (takes_held _ _ _ _ taken _ c.requires.ready read took held.tells) in
    let next = rw c.in-Some.is at c.in_ok-update.ensures in
    let u = c.in-Some.update in
    let one = takes_next _ _ _ _ u next.depth next.form next.spent next.after next.tells next.reads in
    let room : 0 < length c.read_held-held.new.block = omega (arith, held.len, c.requires.room) in (
      some_set c.read_held-held.new.block u room,
      subst (λ (l : List Update). Takes c.args.reader.now c.next.new.self (g.A.Source.left c.args.first.now) (g.A.Source.left c.next.new.source) l) (sym (first_set c.read_held-held.new.block u room)) (takes_more _ _ _ _ _ _ [] _ front one),
      λ zero. absurd (omega (arith, zero)),
    )
