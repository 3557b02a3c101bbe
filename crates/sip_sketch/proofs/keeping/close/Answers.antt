-- That the sketch was not stored is the status.
use Rattle.std.proofs.Common.{rules}
use Rattle.sip_sketch.proofs.Followed.{still_stops}
use Rattle.sip_sketch.proofs.keeping.close.Goals as goal

pub returns-in_default : goal.returns-in_default
returns-in_default g c = record {
  talk = still_stops _ _ _ _ _ c.keep.ensures.talk c.in_default.not-Wrote;
  sketch = search rules;
  cause = λ before now risen. c.keep.ensures.cause before now;
  start = search rules;
  desk = search rules;
}
