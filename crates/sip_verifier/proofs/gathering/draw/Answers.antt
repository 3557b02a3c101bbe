-- The 32 bytes that were read are the front of the seed, and the seats have its challenges.
use Rattle.std.proofs.Common.{◌*◌, ◌∙◌, length, map, rules, sym, ap}
use Rattle.std.proofs.lemmas.List.{length-map}
use Rattle.sip_field.specs.Draw.{drawn_list}
use Rattle.sip_field.specs.Elements.{m61_number}
use Rattle.sip_verifier.specs.Draws.{challenge_count}
use Rattle.sip_verifier.proofs.SeedRead.{long_enough}
use Rattle.sip_verifier.proofs.gathering.draw.Goals as goal

pub seat-requires-clause-count : goal.seat-requires-clause-count
seat-requires-clause-count g c =
    let items = c.in-Ok-challenges.challenges.items in
    ap length c.deref-2.ensures.0 ∙ sym (length-map items m61_number)
    ∙ c.challenges_for-challenges.ensures.count (map m61_number items) (ap drawn_list c.in-Ok-challenges.is)
    ∙ ap (λ queries. c.args.task.now.depth * length queries) c.deref.ensures.0

pub returns-clause-draws : goal.returns-clause-draws
returns-clause-draws g c = λ seed told.
    let is = long_enough (challenge_count c.args.task.now) _ seed _ _ c.read_exact_into.new.buf told c.if-came-lt32.false (search rules) c.in-Ok.ensures.bytes.1 in
    let came = rw c.deref.ensures.0 at c.challenges_for-challenges.ensures.drawn in
    let (seats, here, stand) = c.seat.ensures in
    rw here (record {
      challenges = map m61_number c.in-Ok-challenges.challenges.items;
      draws = is.1 ∙ sym came ∙ ap drawn_list c.in-Ok-challenges.is;
      stand = rw c.deref-2.ensures.0 at stand;
    })

pub returns-in_default-clause-draws : goal.returns-in_default-clause-draws
returns-in_default-clause-draws g c = λ seed told.
    let is = long_enough (challenge_count c.args.task.now) _ seed _ _ c.read_exact_into.new.buf told c.if-came-lt32.false (search rules) c.in-Ok.ensures.bytes.1 in
    let came = rw c.deref.ensures.0 at c.challenges_for-challenges.ensures.drawn in
    (is.0, is.1 ∙ sym came ∙ ap drawn_list c.in_default.is)
