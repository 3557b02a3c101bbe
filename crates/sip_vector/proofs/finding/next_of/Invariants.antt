use Rattle.std.proofs.Common.{◌≤◌, take}
use Rattle.sip_vector.specs.inside.Gathered.{IsBare}
use Rattle.sip_vector.proofs.finding.next_of.Given as goal

-- none of the entries so far is from `from` on and before `next`
abbrev pub invariant-loop-waiting : goal.invariant-loop-waiting
invariant-loop-waiting l = record {
  from : l.from ≤ l.next;
  end : l.next ≤ l.end;
  bare : IsBare (take l.waiting-index l.entries) l.from l.next;
}
