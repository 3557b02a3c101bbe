use Rattle.std.specs.Prelude.{refl}
use Rattle.sip_ports.specs.Calls.{failed_of-sure}
use Rattle.sip_ports.specs.Memory.{source_fails, source_calls, source_faults, source_is_sure}
use Rattle.sip_ports.proofs.FaultLemmas.{HasCause-sure, HasCause-no_wants}
use Rattle.sip_layer_tests.proofs.port_tests.read_front.Goals as goal

pub returns-clause-sure : goal.returns-clause-sure
returns-clause-sure c = λ sure.
    HasCause-sure source_faults (λ _. 0) source_is_sure (λ port always. failed_of-sure (source_fails port) (source_calls port) always) _ _ _ sure c.read_exact_into.ensures.cause

pub returns-clause-memory : goal.returns-clause-memory
returns-clause-memory c = HasCause-no_wants source_faults (λ _. 0) source_is_sure (λ _. refl) _ _ _ c.read_exact_into.ensures.cause
