-- One block behind another.
use Rattle.std.proofs.Common.{◌≤◌, ◌++◌, [], drop, length, take, length-append, length-drop, arith}
use Rattle.std.proofs.lemmas.List.{length-take-le}
use Rattle.std.proofs.lemmas.Result.{err_from_is_err_and}
use Rattle.sip_ports.proofs.FaultLemmas.{Lasts-refl, Lasts-trans}
use Rattle.sip_questions.proofs.StoreReading.{out_more, takes_more, takes_none}
use Rattle.sip_questions.proofs.weighing.read_front.Goals as goal

pub loop-left-init : goal.loop-left-init
loop-left-init g c = record {
  took = ([], omega arith, takes_none c.args.reader.now _ c.requires.behind.ready);
  room = c.requires.room;
  again = Lasts-refl g.B.Source.faults g.B.Source.wants g.B.Source.is_sure c.args.again.now;
}

pub take_some-requires-clause-ready : goal.take_some-requires-clause-ready
take_some-requires-clause-ready g c =
    let (us, count, took) = c.loop-left.invariant.took in
    took.ready

pub returns-in_err-came-clause-reads : goal.returns-in_err-came-clause-reads
returns-in_err-came-clause-reads g c =
    let p = err_from_is_err_and c.from_residual.result c.from_residual.ensures.1 in
    rw p.1 tt

pub returns-then-came-eq0-clause-reads : goal.returns-then-came-eq0-clause-reads
returns-then-came-eq0-clause-reads g c =
    let (us, count, took) = c.loop-left.invariant.took in
    let (few, takes, out) = c.in_ok-came.ensures.takes in
    let more = take c.in_ok-came.came c.take_some.new.block in
    let size = length-take-le c.in_ok-came.came c.take_some.new.block few in (
      us ++ more,
      omega (arith, count, size, c.if-came-eq0.true, length-append us more),
      takes_more _ _ _ _ _ _ us more took takes,
      λ less. out_more _ _ _ _ _ us took (out c.if-came-eq0.true),
    )

pub returns-clause-reads : goal.returns-clause-reads
returns-clause-reads g c =
    let (us, count, took) = c.loop-left.invariant.took in
    (us, omega (arith, count), took, λ less. absurd (omega (arith, count, less, c.loop-left-test.false)))

pub loop-left-preserved : goal.loop-left-preserved
loop-left-preserved g c =
    let (us, count, took) = c.loop-left.invariant.took in
    let (few, takes, out) = c.in_ok-came.ensures.takes in
    let more = take c.in_ok-came.came c.take_some.new.block in
    let came = length-take-le c.in_ok-came.came c.take_some.new.block few in
    let len = c.in_ok-came.ensures.len in
    let within : c.min-most.result ≤ length c.loop-left.block = omega (arith, c.min-most.ensures) in
    let below : c.min-most.result ≤ c.loop-left.left = omega (arith, c.min-most.ensures) in
    let size = length-take-le c.min-most.result c.loop-left.block within in
    record {
      took = (us ++ more, omega (arith, count, came, few, len, below, size, length-append us more), takes_more _ _ _ _ _ _ us more took takes);
      room = omega (arith, len, c.min-most.ensures, c.loop-left-test.true, c.loop-left.invariant.room, length-append c.take_some.new.block (drop c.min-most.result c.loop-left.block), length-drop c.min-most.result c.loop-left.block);
      again = Lasts-trans g.B.Source.faults g.B.Source.wants g.B.Source.is_sure c.args.again.now c.loop-left.again c.take_some.new.first c.loop-left.invariant.again c.in_ok-came.ensures.first;
    }
