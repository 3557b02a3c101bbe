-- As many lookups are left as were not asked.
use Rattle.std.proofs.Common.{◌≡◌, ◌-◌, length, drop, map, subst, arith, length-drop}
use Rattle.std.specs.List.{zip}
use Rattle.std.proofs.lemmas.List.{length-map}
use Rattle.std.proofs.lemmas.Slice.Zip.{length-zip}
use Rattle.sip_lookup.specs.Sittings.{LookSitting}
use Rattle.sip_lookup.proofs.LooksLeft.{asked_of}
use Rattle.sip_lookup.proofs.asker.LookerAsker.left.Goals as goal

pub returns : goal.returns
returns c =
    let pairs = zip c.self.inside.lookups.items c.self.inside.seats.seats in
    let rest = drop c.self.inside.asked pairs in
    let same : length (map asked_of rest) ≡ length rest = length-map rest asked_of in
    subst (λ (s : LookSitting). c.len.result - c.self.inside.asked ≡ length (map asked_of s.left)) c.self.view_is
    (omega (arith, c.len.ensures.value, same, length-drop c.self.inside.asked pairs, length-zip c.self.inside.lookups.items c.self.inside.seats.seats, c.self.inside.each, c.self.inside.within))
