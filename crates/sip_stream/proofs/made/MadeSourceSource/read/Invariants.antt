-- What is in the buffer's front and what is still to come are what was to come.
use Rattle.std.proofs.Common.{◌≡◌, ◌≤◌, ◌-◌, ◌++◌, length, take}
use Rattle.sip_stream.specs.MadeSources.{made_left}
use Rattle.sip_stream.proofs.made.MadeSourceSource.read.Given as goal

abbrev pub invariant-loop-filled : goal.invariant-loop-filled
invariant-loop-filled l = record {
  within : l.filled ≤ length l.buf;
  came : made_left l.initial.self ≡ take l.filled l.buf ++ made_left l.self;
}

abbrev pub decreases-loop-filled : goal.decreases-loop-filled
decreases-loop-filled l = length l.initial.buf - l.filled
