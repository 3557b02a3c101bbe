-- The seats stand at the challenges of the head, over the empty stream.
use Rattle.std.proofs.Common.{◌*◌, ◌∙◌, ℕ, List, [], length, map, refl, sym, ap, subst}
use Rattle.std.specs.Prelude.{All}
use Rattle.std.proofs.lemmas.List.{length-map}
use Rattle.sip_field.specs.Elements.{m61_number}
use Rattle.sip_vector.specs.Pieces.{cut}
use Rattle.sip_vector.specs.declared.query.Query.{Query}
use Rattle.sip_verifier.specs.Seats.{AreSeats}
use Rattle.sip_verifier.specs.Tasks.{CanBeAsked}
use Rattle.sip_transcript.proofs.Heading.{are_elements, blocks_asked, can_be_asked, few_elements}
use Rattle.sip_transcript.proofs.auditing.seat.Goals as goal

pub elements-elements-requires-clause-most : goal.elements-elements-requires-clause-most
elements-elements-requires-clause-most c =
    let (version, asks, is) = c.requires in
    few_elements version c.args.task.now c.args.challenges.now asks is

pub elements-elements-requires-clause-each : goal.elements-elements-requires-clause-each
elements-elements-requires-clause-each c =
    let (version, asks, is) = c.requires in
    are_elements version c.args.task.now c.args.challenges.now asks is

pub given-requires-clause-asked : goal.given-requires-clause-asked
given-requires-clause-asked c =
    let (version, asks, is) = c.requires in
    subst (All (CanBeAsked c.args.task.now.depth)) (sym c.deref.ensures.0) (can_be_asked version c.args.task.now c.args.challenges.now asks is)

pub given-requires-clause-count : goal.given-requires-clause-count
given-requires-clause-count c =
    let (version, asks, is) = c.requires in
    let depth = c.args.task.now.depth in
    ap length c.deref-2.ensures.0 ∙ sym (length-map c.elements-elements.result.items m61_number) ∙ ap length c.elements-elements.ensures
    ∙ blocks_asked version c.args.task.now c.args.challenges.now asks is
    ∙ ap (λ (queries : List Query). depth * length queries) (sym c.deref.ensures.0)

pub returns : goal.returns
returns c =
    let depth = c.args.task.now.depth in
    let seats = c.given.result in
    let at_queries = subst (λ (queries : List Query). AreSeats depth queries (cut depth (map m61_number c.deref-2.result.now)) [] seats) c.deref.ensures.0 c.given.ensures in (
      seats,
      refl,
      subst (λ (challenges : List ℕ). AreSeats depth c.args.task.now.queries.items (cut depth challenges) [] seats)
          (ap (map m61_number) c.deref-2.ensures.0 ∙ c.elements-elements.ensures) at_queries,
    )
