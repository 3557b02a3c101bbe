use Rattle.std.proofs.Common.{◌≡◌, ℕ, List, ◌++◌, Result, Ok, Err, Some, OnOk, sym, ◌∙◌}
use Rattle.sip_ports.specs.Calls.{failed_of-sure}
use Rattle.sip_ports.specs.Ports.{SendsWhole, outs}
use Rattle.sip_ports.specs.Memory.{sink_bytes, sink_fails, sink_calls, sink_faults, sink_wants, sink_is_sure}
use Rattle.sip_ports.proofs.FaultLemmas.{HasCause-sure}
use Rattle.sip_ports.proofs.TalkLemmas.{outs-append, outs-injective}
use Rattle.sip_layer_tests.proofs.port_tests.send_all.Goals as goal

pub returns-clause-sure : goal.returns-clause-sure
returns-clause-sure c = λ sure.
    HasCause-sure sink_faults sink_wants sink_is_sure (λ port always. failed_of-sure (sink_fails port) (sink_calls port) always) _ _ _ sure c.write_whole.ensures.cause

sent : {T E : Type 0} (r : Result T E) (old new bytes : List ℕ) → SendsWhole (Some (outs old)) (Some (outs new)) r bytes → OnOk r (new ≡ old ++ bytes)
sent (Ok x) old new bytes p = outs-injective new (old ++ bytes) (p ∙ sym (outs-append old bytes))
sent (Err e) old new bytes p = tt

pub returns-clause-sent : goal.returns-clause-sent
returns-clause-sent c = sent _ (sink_bytes c.args.sink.now) (sink_bytes c.write_whole.new.sink) c.args.bytes.now c.write_whole.ensures.talk
