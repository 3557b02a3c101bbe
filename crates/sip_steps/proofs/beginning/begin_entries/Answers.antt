-- The places have room for the answer, and the events are a talk by the protocol of the root.
use Rattle.std.proofs.Common.{◌≤◌, [], List, ℕ, length, refl, subst, arith}
use Rattle.sip_field.specs.Moduli.{m61_modulus}
use Rattle.sip_subvec.specs.Asking.{SubStands, most_answer, phase_of}
use Rattle.sip_subvec.specs.Protocol.{sub_asked, sub_protocol}
use Rattle.sip_steps.specs.Openings.{message_of}
use Rattle.sip_steps.specs.Asked.{IsAsked}
use Rattle.sip_steps.proofs.beginning.begin_entries.Goals as goal

pub begin-requires-clause-stood : goal.begin-requires-clause-stood
begin-requires-clause-stood c =
    let root = c.args.root.now in
    let places = c.in_ok-places.places.items in
    let room : most_answer c.args.lo c.args.hi ≤ length places = omega (arith, c.in_ok-places.ensures, c.most_pairs.ensures) in
    (sub_asked c.args.version m61_modulus root.value c.args.lo c.args.hi root.seat, refl, c.start-check.ensures.stands c.args.version places room)

pub returns : goal.returns
returns c = record {
  posed = λ depth running kind.
      let root = c.args.root.now in
      let places = c.in_ok-places.places.items in
      let room : most_answer c.args.lo c.args.hi ≤ length places = omega (arith, c.in_ok-places.ensures, c.most_pairs.ensures) in
      let asked = sub_asked c.args.version m61_modulus root.value c.args.lo c.args.hi root.seat in
      let talk = c.in_ok-asking.ensures.asked asked refl (c.start-check.ensures.stands c.args.version places room) in
      (asked, record { asks = c.in_ok-asking.ensures.request; talk = subst (λ (b : List ℕ). IsAsked (sub_protocol asked) (SubStands asked) phase_of message_of (message_of c.args.opening) b [] c.in_ok-asking.asking) c.start-check.ensures.block talk }, kind);
}
