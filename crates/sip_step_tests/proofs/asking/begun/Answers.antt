-- The query fits version 1, and two places are room for its answer.
use Rattle.std.proofs.Common.{◌≤◌, length, refl, arith}
use Rattle.sip_field.specs.Moduli.{m61_modulus}
use Rattle.sip_subvec.specs.Asking.{most_answer}
use Rattle.sip_subvec.specs.Protocol.{sub_asked}
use Rattle.sip_wire.specs.declared.version.Version.TheVariants.{One}
use Rattle.sip_wire.specs.Spelling.{fits, has_room, all_hold}
use Rattle.sip_step_tests.proofs.asking.begun.Goals as goal

pub begin-requires-clause-fits : goal.begin-requires-clause-fits
unfolding fits has_room all_hold
begin-requires-clause-fits c = refl

pub begin-requires-clause-stood : goal.begin-requires-clause-stood
begin-requires-clause-stood c =
    let places = c.in_ok-places.places in
    let root = c.root_of_four.result in
    let room : most_answer 1 2 ≤ length places.items = omega (arith, c.in_ok-places.ensures.len, places.ok.0) in
    (sub_asked One m61_modulus root.value 1 2 root.seat, refl, c.start-check.ensures.stands One places.items room)
