use Rattle.std.proofs.Common.{All, take}
use Rattle.sip_runs.specs.Runs.{HasBegun}
use Rattle.sip_c.specs.Codes.{HasSide}
use Rattle.sip_c.specs.Runs.{Hears}
use Rattle.sip_c.specs.Weighing.{updates_of}
use Rattle.sip_c.proofs.run.feed.Given as goal

-- those so far came
abbrev pub invariant-loop-place : goal.invariant-loop-place
invariant-loop-place g l = record {
  begun : HasBegun l.run;
  sides : All HasSide (take l.place (g.C.Codes.codes l.fn.codes));
  hears : Hears l.fn.run (updates_of (take l.place (g.C.Codes.codes l.fn.codes))) l.run;
}
