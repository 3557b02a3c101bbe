-- The question is asked at the seat's block, by its numbers.
use Rattle.std.proofs.Common.{◌≡◌, List, get_or, refl, sym, ap, subst, ◌∙◌}
use Rattle.sip_vector.specs.declared.tally.Tally.{Tally}
use Rattle.sip_sketch.specs.Seats.{beside, numbers_kept, side_of}
use Rattle.sip_sketch.specs.Sketches.{SeatValues, SketchValues}
use Rattle.sip_ask.specs.Choosing.{weight_told}
use Rattle.sip_ask.specs.Turns.{block_at}
use Rattle.sip_ask.specs.inside.Seating.{Takes}
use Rattle.sip_ask.proofs.Chosen.{block-at}
use Rattle.sip_sketch.specs.Standing.{Stands}
use Rattle.sip_steps.specs.Questioned.{about}
use Rattle.sip_ask.proofs.Served.{stands_at}
use Rattle.sip_ask_steps.proofs.beginning.turn_of.Goals as goal

pub returns : goal.returns
returns c p sketch version =
    let s = c.args.sketch.now in
    let place = c.in-Some.place in
    let own = c.index-seats-place.result in
    let seat : own ≡ get_or s.seats place own = c.index-seats-place.is ∙ ap (λ (l : List SeatValues). get_or l place own) c.seats.ensures.seats in
    let serves = (subst (Takes s c.args.question) c.in-Some.is c.requires.takes).0 in
    let block = c.running-running.ensures.block ∙ ap (λ (x : SeatValues). x.block) seat in
    let w = c.weight_of-weight.result in
    let told = c.weight_of-weight.ensures ∙ ap (λ (t : Tally). weight_told t c.side.result) c.tally.ensures ∙ ap (weight_told s.tally) (c.side.ensures ∙ ap side_of c.kind.ensures ∙ ap (λ (x : SeatValues). side_of x.kind) seat) in
    let numbers = c.running-running.ensures.numbers ∙ ap (λ (x : SeatValues). beside w (numbers_kept x.kind x.first x.second)) seat in
    rw c.in-Some.is (
      refl,
      rw sketch serves.inside,
      record {
        about = about c.args.version c.depth.result c.args.question c.running-running.result;
        version = version;
        depth = c.depth.ensures ∙ ap (λ (t : SketchValues). t.depth) (sym sketch);
        asks = refl;
        block = block ∙ sym (block-at s.seats place own serves.inside) ∙ ap (λ (t : SketchValues). block_at place t.seats) (sym sketch);
        stands = λ stream stands. rw c.depth.ensures (stands_at s c.args.question place own w _ _ serves told block numbers stream (subst (Stands stream) sketch stands));
        talk = c.in_ok-asking.ensures.asked;
      },
    )
