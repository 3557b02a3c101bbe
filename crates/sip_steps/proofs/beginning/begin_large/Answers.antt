-- The places and the space have room for the answer, and the events are a talk by the protocol of
-- the split tree.
use Rattle.std.proofs.Common.{◌≤◌, ◌*◌, ◌/◌, [], List, ℕ, length, inr, refl, subst, rules}
use Rattle.sip_field.specs.Moduli.{m61_modulus}
use Rattle.sip_heavy.specs.Asking.{HeavyStands, phase_of}
use Rattle.sip_heavy.specs.Protocol.{above_asked, heavy_protocol}
use Rattle.sip_steps.specs.declared.opening.Opening.TheVariants as openings
use Rattle.sip_steps.specs.Openings.{message_of}
use Rattle.sip_steps.specs.Asked.{IsAsked}
use Rattle.sip_steps.proofs.beginning.begin_large.Goals as goal

pub begin-requires-clause-stood : goal.begin-requires-clause-stood
begin-requires-clause-stood c =
    let root = c.args.root.now in
    let places = c.in_ok-places.places.items in
    let room : 2 * (root.weight / c.args.large.at_least) ≤ length places = search rules in
    (above_asked c.args.version m61_modulus root.hash root.weight (length root.seat) c.args.large.at_least, refl, c.start_above-check.ensures.stands c.args.version places room)

pub returns : goal.returns
returns c = record {
  posed = λ depth running kind.
      let root = c.args.root.now in
      let places = c.in_ok-places.places.items in
      let room : 2 * (root.weight / c.args.large.at_least) ≤ length places = search rules in
      let asked = above_asked c.args.version m61_modulus root.hash root.weight (length root.seat) c.args.large.at_least in
      let talk = c.in_ok-asking.ensures.asked asked refl (c.start_above-check.ensures.stands c.args.version places room) in (
        asked,
        record {
          asks = c.in_ok-asking.ensures.request;
          talk = subst (λ (b : List ℕ). IsAsked (heavy_protocol asked) (HeavyStands asked) phase_of message_of (message_of (openings.Large c.args.large)) b [] c.in_ok-asking.asking) c.start_above-check.ensures.block talk;
        },
        inr kind,
      );
}
