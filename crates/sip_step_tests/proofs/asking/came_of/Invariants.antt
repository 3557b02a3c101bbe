-- The question is under way.
use Rattle.sip_subvec.specs.Asking.{SubStands, phase_of}
use Rattle.sip_subvec.specs.Protocol.{sub_protocol}
use Rattle.sip_wire.specs.declared.message.Message.TheVariants as messages
use Rattle.sip_steps.specs.Asked.{IsBegun}
use Rattle.sip_step_tests.proofs.asking.came_of.Given as goal

abbrev pub invariant-loop-piece : goal.invariant-loop-piece
invariant-loop-piece l = IsBegun sub_protocol SubStands phase_of messages.Query l.asking
