-- Both ends are under way.
use Rattle.std.proofs.Common.{not}
use Rattle.sip_helper.specs.inside.Measures.{turns_left}
use Rattle.sip_helper.specs.Serving.{helper_rules}
use Rattle.sip_subvec.specs.Asking.{SubStands, phase_of}
use Rattle.sip_subvec.specs.Protocol.{sub_protocol}
use Rattle.sip_wire.specs.declared.message.Message.TheVariants as messages
use Rattle.sip_steps.specs.Asked.{IsBegun}
use Rattle.sip_steps.specs.Served.{HasBegun}
use Rattle.sip_step_tests.proofs.both_ends_tests.is_answered.Given as goal

abbrev pub invariant-loop-step : goal.invariant-loop-step
invariant-loop-step l = record {
  asking : IsBegun sub_protocol SubStands phase_of messages.Query l.asking;
  serving : HasBegun helper_rules turns_left (λ s. not s.spent) l.serving;
}
