-- What a call that fills a value of its caller's answers: the value as it left it, or the fault.
use Rattle.std.specs.Prelude.{Result, Ok, Err}
use Rattle.sip_wire.specs.declared.message.WireFault.{WireFault}

abbrev pub filled : {T : Type 0} → T → Result Unit WireFault → Result T WireFault
filled x (Ok _) = Ok x
filled x (Err fault) = Err fault
