-- Each side is told of by the seats for its large entries.
use Rattle.std.proofs.Common.{◌≡◌, ◌&&◌, List, refl, ap, ◌∙◌}
use Rattle.std.specs.List.{list_any}
use Rattle.sip_vector.specs.declared.query.Query.{Query}
use Rattle.sip_vector.specs.declared.update.Side.TheVariants.{First, Second}
use Rattle.sip_vector.specs.Tallies.{has_negative}
use Rattle.sip_verifier.specs.Negatives.{asks_heavy, has_light}
use Rattle.sip_verifier.specs.QuerySeats.{Seated}
use Rattle.sip_verifier.proofs.HeavyNegatives.{seats_light}
use Rattle.sip_verifier.proofs.seats.Seats.heavy_negatives.Goals as goal

pub returns : goal.returns
returns c = λ depth queries blocks stream below are weighed.
    let seats = c.args.self.now.seats in
    let first : c.any_light.result ≡ (asks_heavy queries First && has_negative stream First) = c.any_light.ensures
    ∙ ap (λ w. list_any (λ (s : Seated). has_light s First w) seats) (weighed First)
    ∙ seats_light depth stream First seats below are.stand
    ∙ ap (λ (l : List Query). asks_heavy l First && has_negative stream First) are.asked in
    let second : c.any_light-2.result ≡ (asks_heavy queries Second && has_negative stream Second) = c.any_light-2.ensures
    ∙ ap (λ w. list_any (λ (s : Seated). has_light s Second w) seats) (weighed Second)
    ∙ seats_light depth stream Second seats below are.stand
    ∙ ap (λ (l : List Query). asks_heavy l Second && has_negative stream Second) are.asked in
    rw first (rw second refl)
