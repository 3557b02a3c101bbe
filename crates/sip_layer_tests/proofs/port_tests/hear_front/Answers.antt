use Rattle.sip_ports.specs.Calls.{failed_of-sure}
use Rattle.sip_ports.specs.Memory.{link_fails, link_calls, link_faults, link_wants, link_is_sure}
use Rattle.sip_ports.proofs.FaultLemmas.{HasCause-sure}
use Rattle.sip_layer_tests.proofs.port_tests.hear_front.Goals as goal

pub returns-clause-sure : goal.returns-clause-sure
returns-clause-sure c = λ sure.
    HasCause-sure link_faults link_wants link_is_sure (λ port always. failed_of-sure (link_fails port) (link_calls port) always) _ _ _ sure c.recv_whole.ensures.cause
