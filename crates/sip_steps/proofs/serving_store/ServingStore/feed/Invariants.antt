-- What was taken so far was passed on.
use Rattle.std.proofs.Common.{◌≡◌, ◌⊎◌, ◌-◌, ◌≤◌, true, false, [], List, Option, length, take, None, Some}
use Rattle.std.specs.Prelude.{IsSome}
use Rattle.sip_ports.specs.declared.port.TalkEvent.{TalkEvent}
use Rattle.sip_ports.specs.Ports.{GoesOn, Lasts, Rose}
use Rattle.sip_stream.specs.declared.form.Form.{Form}
use Rattle.sip_questions.specs.declared.store_status.StoreStatus.TheVariants.{OutOfMemory, PeerFault, ReadFault}
use Rattle.sip_steps.specs.Served.{Passes}
use Rattle.sip_steps.specs.StoreServed.{IsStoreServed, IsUnderWay, StoreRead, is_read, read_then}
use Rattle.sip_steps.proofs.serving_store.ServingStore.feed.Given as goal

abbrev pub invariant-loop-taken : goal.invariant-loop-taken
invariant-loop-taken g l =
    let sink = g.K.Sink in
    let store = g.A.Source in
    let was = l.initial in record {
      most : l.taken ≤ length l.bytes;
      begun : IsUnderWay l.self;
      none : IsSome was.self.status → (l.taken ≡ 0) × IsSome l.self.status;
      passes : (form : Form) (read : Option StoreRead) (events : List TalkEvent) → IsStoreServed form read events was.self
          → Passes (sink.talk was.out) (sink.talk l.out) (take l.taken l.bytes) events (λ all. IsStoreServed form (read_then (is_read was.self) (is_read l.self) (store.left was.first) (store.left l.first) read) all l.self);
      once : is_read was.self ≡ true → is_read l.self ≡ true;
      unread : is_read l.self ≡ is_read was.self → l.first ≡ was.first;
      told : IsSome (store.left was.first) → IsSome (store.left l.first);
      silent : is_read l.self ≡ false → l.self.status ≡ None → GoesOn (sink.talk was.out) (sink.talk l.out) [];
      cause : was.self.status ≡ None → l.self.status ≡ Some PeerFault → Rose (sink.faults was.out) (sink.faults l.out);
      fault : was.self.status ≡ None → l.self.status ≡ Some ReadFault → Rose (store.faults was.first) (store.faults l.first);
      memory : was.self.status ≡ None → l.self.status ≡ Some OutOfMemory → (is_read was.self ≡ false) × GoesOn (sink.talk was.out) (sink.talk l.out) [] ⊎ Rose (sink.wants was.out) (sink.wants l.out);
      first : Lasts store.faults store.wants store.is_sure was.first l.first;
      lasts : Lasts sink.faults sink.wants sink.is_sure was.out l.out;
    }

abbrev pub decreases-loop-taken : goal.decreases-loop-taken
decreases-loop-taken g l = length l.bytes - l.taken
