-- One more message, or the end.
use Rattle.std.proofs.Common.{rules}
use Rattle.std.proofs.lemmas.Result.{err_from_is_err_and}
use Rattle.sip_transcript.proofs.showing.write_all.Goals as goal

pub returns-in_err-head-clause-ports : goal.returns-in_err-head-clause-ports
returns-in_err-head-clause-ports g c =
    let ports = c.in_err-head.ensures.ports in
    let p = err_from_is_err_and c.from_residual.result c.from_residual.ensures.1 in
    record {
      told = ports.told;
      fault = λ first firsts peer peers keep keeps. rw (p.1, p.2) (ports.fault first firsts peer peers keep keeps);
      source = ports.source;
      sink = ports.sink;
    }

pub loop-after-preserved : goal.loop-after-preserved
loop-after-preserved g c = record {
  so = λ bytes told. rw c.in-Some.is at (c.in_ok-after.ensures.passes bytes (g.K.Sink.talk c.args.report.now) (c.loop-after.invariant.so bytes told));
  told = search rules;
  second = search rules;
  report = search rules;
}

pub returns-in_err-after-clause-ports : goal.returns-in_err-after-clause-ports
returns-in_err-after-clause-ports g c = record {
  told = search rules;
  fault = λ first firsts peer peers keep keeps. search rules;
  source = search rules;
  sink = search rules;
}

pub returns-clause-writes : goal.returns-clause-writes
returns-clause-writes g c = λ bytes told.
    rw c.in_default.is at (c.in_ok-after.ensures.passes bytes (g.K.Sink.talk c.args.report.now) (c.loop-after.invariant.so bytes told))
