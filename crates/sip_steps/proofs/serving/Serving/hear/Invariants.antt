-- What was taken so far was passed on.
use Rattle.std.proofs.Common.{◌≡◌, ◌-◌, ◌≤◌, List, length, take, None, Some}
use Rattle.std.specs.Prelude.{IsSome}
use Rattle.sip_ports.specs.declared.port.TalkEvent.{TalkEvent}
use Rattle.sip_ports.specs.Ports.{Lasts, Rose}
use Rattle.sip_helper.specs.declared.status.HelpStatus.TheVariants.{OutOfMemory, PeerFault}
use Rattle.sip_steps.specs.Served.{HasBegun, IsServed, Passes}
use Rattle.sip_steps.proofs.serving.Serving.hear.Given as goal

abbrev pub invariant-loop-taken : goal.invariant-loop-taken
invariant-loop-taken g l =
    let r = g.H.Helps.rules in
    let left = g.H.Helps.turns_left in
    let is_live = g.H.Helps.is_live in
    let sink = g.K.Sink in record {
      most : l.taken ≤ length l.bytes;
      begun : HasBegun r left is_live l.self;
      none : IsSome l.initial.self.status → (l.taken ≡ 0) × IsSome l.self.status;
      passes : (first : g.row.H.Denot) (events : List TalkEvent) → IsServed r left is_live first events l.initial.self
          → Passes (sink.talk l.initial.out) (sink.talk l.out) (take l.taken l.bytes) events (λ all. IsServed r left is_live first all l.self);
      cause : l.initial.self.status ≡ None → l.self.status ≡ Some PeerFault → Rose (sink.faults l.initial.out) (sink.faults l.out);
      memory : l.initial.self.status ≡ None → l.self.status ≡ Some OutOfMemory → Rose (sink.wants l.initial.out) (sink.wants l.out);
      lasts : Lasts sink.faults sink.wants sink.is_sure l.initial.out l.out;
    }

abbrev pub decreases-loop-taken : goal.decreases-loop-taken
decreases-loop-taken g l = length l.bytes - l.taken
