use Rattle.std.proofs.Common.{◌≤◌, ◌-◌, length, take}
use Rattle.sip_c.specs.Weighing.{updates_of}
use Rattle.sip_c.proofs.Comes.{Came}
use Rattle.sip_c.proofs.adding.add_all.Given as goal

-- those so far came
abbrev pub invariant-loop-done : goal.invariant-loop-done
invariant-loop-done g l = record {
  within : l.done ≤ length (g.C.Codes.codes l.fn.codes);
  came : Came l.fn.sketch (take l.done (updates_of (g.C.Codes.codes l.fn.codes))) l.sketch;
}

abbrev pub decreases-loop-done : goal.decreases-loop-done
decreases-loop-done g l = length (g.C.Codes.codes l.fn.codes) - l.done
