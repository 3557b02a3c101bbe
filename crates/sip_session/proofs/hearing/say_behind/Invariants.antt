-- The message was sent on the links from the first that is left up to this place.
use Rattle.std.proofs.Common.{map}
use Rattle.std.specs.Option.{option_and_then}
use Rattle.sip_ports.specs.Ports.{outs}
use Rattle.sip_wire.specs.Spelling.{spelling}
use Rattle.sip_duel.specs.Story.{Keeps}
use Rattle.sip_session.specs.Links.{EachLink}
use Rattle.sip_session.proofs.Places.{SaidUpTo}
use Rattle.sip_session.proofs.hearing.say_behind.Given as goal

abbrev pub invariant-loop-place : goal.invariant-loop-place
invariant-loop-place g l = record {
  said : SaidUpTo (map (λ x. x.kept.talk.items) l.fn.links)
      (map (λ x. x.kept.talk.items) l.links) l.gone l.place
      (outs (spelling l.version l.message));
  sure : EachLink (λ _ a b. Keeps (option_and_then
      (λ x. (goal.Helper-dyn g (x.vtable, x.value)).honest_state x.value) a.helper) a.kept
      → Keeps (option_and_then
      (λ x. (goal.Helper-dyn g (x.vtable, x.value)).honest_state x.value) b.helper) b.kept)
      l.fn.links l.links;
}
