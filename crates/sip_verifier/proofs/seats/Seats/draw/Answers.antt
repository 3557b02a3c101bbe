-- The challenges are those of the seed, or it gives none.
use Rattle.std.proofs.Common.{◌≡◌, ◌∙◌, List, length, map, Some, refl, sym, ap}
use Rattle.std.proofs.lemmas.List.{length-map}
use Rattle.std.proofs.lemmas.Result.{err_from_is_err_and}
use Rattle.sip_field.specs.declared.mersenne.M61.{M61}
use Rattle.sip_field.specs.Elements.{m61_number}
use Rattle.sip_verifier.proofs.seats.Seats.draw.Goals as goal

pub returns-in_err-challenges : goal.returns-in_err-challenges
returns-in_err-challenges c =
    let p = err_from_is_err_and c.from_residual.result c.from_residual.ensures.1 in
    rw p.1 (sym c.in_err-challenges.ensures.drawn)

pub given-requires-clause-count : goal.given-requires-clause-count
given-requires-clause-count c =
    ap length c.deref.ensures.0 ∙ sym (length-map c.in_ok-challenges.challenges.items m61_number)
    ∙ c.in_ok-challenges.ensures.count (map m61_number c.in_ok-challenges.challenges.items) refl

pub returns : goal.returns
returns c = (
  map m61_number c.deref.result.now,
  sym c.in_ok-challenges.ensures.drawn ∙ ap (λ (l : List M61). Some (map m61_number l)) (sym c.deref.ensures.0),
  c.given.ensures,
)
