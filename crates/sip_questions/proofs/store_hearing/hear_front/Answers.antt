-- One block behind another.
use Rattle.std.proofs.Common.{◌≤◌, ◌+◌, ◌++◌, [], drop, length, length-append, length-drop, arith}
use Rattle.std.proofs.lemmas.List.{length-take-le}
use Rattle.std.proofs.lemmas.Result.{err_from_is_err_and}
use Rattle.sip_ports.proofs.FaultLemmas.{Lasts-refl, Lasts-trans}
use Rattle.sip_questions.proofs.StoreReading.{out_more, stops_more}
use Rattle.sip_questions.proofs.StoreHeard.{hears_more, hears_none}
use Rattle.sip_questions.proofs.store_hearing.hear_front.Goals as goal

pub loop-left-init : goal.loop-left-init
loop-left-init g c = record {
  heard = ([], omega arith, hears_none c.args.sizes c.args.stream.now c.args.reader.now _ c.requires.far c.requires.behind.ready);
  unread = c.requires.behind;
  room = c.requires.room;
  told = λ is. is;
  first = Lasts-refl g.A.Source.faults g.A.Source.wants g.A.Source.is_sure c.args.first.now;
}

pub hear_some-requires-clause-behind : goal.hear_some-requires-clause-behind
hear_some-requires-clause-behind g c =
    let (us, count, hears) = c.loop-left.invariant.heard in
    (us, hears.takes.after [] c.loop-left.invariant.unread)

pub returns-in_err-came-clause-hears : goal.returns-in_err-came-clause-hears
returns-in_err-came-clause-hears g c =
    let (us, count, hears) = c.loop-left.invariant.heard in
    let p = err_from_is_err_and c.from_residual.result c.from_residual.ensures.1 in
    let room : length us + 1 ≤ c.args.count = omega (arith, count, c.loop-left-test.true) in
    rw (p.1, p.2) (stops_more _ _ _ _ us 1 c.args.count c.in_err-came.field-0.0 hears.takes room c.in_err-came.ensures.hears)

pub returns-then-came-eq0-clause-hears : goal.returns-then-came-eq0-clause-hears
returns-then-came-eq0-clause-hears g c =
    let (us, count, hears) = c.loop-left.invariant.heard in
    let (vs, came, few, more, out) = c.in_ok-came.ensures.hears in (
      us ++ vs,
      omega (arith, count, came, c.if-came-eq0.true, length-append us vs),
      hears_more _ _ _ _ _ _ _ _ _ _ us vs hears more,
      λ less. out_more _ _ _ _ _ us hears.takes (out c.if-came-eq0.true),
    )

pub loop-left-preserved : goal.loop-left-preserved
loop-left-preserved g c =
    let (us, count, hears) = c.loop-left.invariant.heard in
    let (vs, came, few, more, out) = c.in_ok-came.ensures.hears in
    let len = c.in_ok-came.ensures.len in
    let within : c.min-most.result ≤ length c.loop-left.block = omega (arith, c.min-most.ensures) in
    let below : c.min-most.result ≤ c.loop-left.left = omega (arith, c.min-most.ensures) in
    let size = length-take-le c.min-most.result c.loop-left.block within in
    record {
      heard = (us ++ vs, omega (arith, count, came, few, below, size, length-append us vs), hears_more _ _ _ _ _ _ _ _ _ _ us vs hears more);
      unread = c.loop-left.invariant.unread;
      room = omega (arith, len, c.min-most.ensures, c.loop-left-test.true, c.loop-left.invariant.room, length-append c.hear_some.new.block (drop c.min-most.result c.loop-left.block), length-drop c.min-most.result c.loop-left.block);
      told = λ is. c.hear_some.ensures.told (c.loop-left.invariant.told is);
      first = Lasts-trans g.A.Source.faults g.A.Source.wants g.A.Source.is_sure c.args.first.now c.loop-left.first c.hear_some.new.first c.loop-left.invariant.first c.hear_some.ensures.first;
    }
