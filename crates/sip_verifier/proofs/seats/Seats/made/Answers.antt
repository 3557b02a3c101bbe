-- Each query has its own block of challenges, and the root of no update.
use Rattle.std.proofs.Common.{◌≡◌, ◌<◌, ◌≤◌, ◌*◌, ◌+◌, ◌-◌, ◌∙◌, [], length, map, take, drop, refl, sym, ap, arith}
use Rattle.std.proofs.lemmas.List.{length-map, take-map, drop-map}
use Rattle.std.proofs.lemmas.List.Elements.{All-nil}
use Rattle.sip_field.specs.Elements.{m61_number}
use Rattle.sip_vector.specs.Limits.{most_depth}
use Rattle.sip_vector.specs.declared.query.Query.TheVariants.{Sub}
use Rattle.sip_wire.specs.Versions.{needed}
use Rattle.sip_verifier.specs.QuerySeats.{StandsFor}
use Rattle.sip_verifier.proofs.SeatsGiven.{block-size, given-more, given-count, given-asked, given-blocks}
use Rattle.sip_verifier.proofs.seats.Seats.made.Goals as goal

pub loop-index-init : goal.loop-index-init
loop-index-init c = rw c.new-seats.ensures (record { asked = refl; at_blocks = refl; each = refl; stand = All-nil (StandsFor c.args.depth []) })

pub push-requires : goal.push-requires
push-requires c =
    let le : c.loop-index.index ≤ length c.args.queries.now = omega arith in
    let count = given-count _ _ _ _ _ _ c.loop-index.invariant le in
    (omega arith, omega (arith, count, c.requires.most))

pub loop-index-preserved : goal.loop-index-preserved
loop-index-preserved c =
    let lt : c.loop-index.index < length c.args.queries.now = omega arith in
    let first = c.loop-index.index * c.get-levels.result in
    let levels : (first + c.get-levels.result) - first ≡ c.get-levels.result = omega arith in
    let cut_out = ap (take c.get-levels.result) (drop-map m61_number first c.args.challenges.now) ∙ take-map m61_number c.get-levels.result (drop first c.args.challenges.now) in
    let block : c.begin.result.block ≡ take c.get-levels.result
    (drop (c.loop-index.index * c.get-levels.result) (map m61_number c.args.challenges.now)) =
    c.begin.ensures.block ∙ c.in-Some.ensures.same
    ∙ ap (λ k. map m61_number (take k (drop first c.args.challenges.now))) levels
    ∙ sym cut_out in
    let size : length c.in-Some.seat ≡ c.args.depth = ap length (sym c.begin.ensures.block ∙ block)
    ∙ block-size c.get-levels.result (length c.args.queries.now) c.loop-index.index
    (map m61_number c.args.challenges.now) lt
    (length-map c.args.challenges.now m61_number ∙ c.requires.count
    ∙ ap (λ k. k * length c.args.queries.now) (sym c.get-levels.ensures.same))
    ∙ c.get-levels.ensures.same in
    let asked = c.requires.asked c.loop-index.index (Sub 0 0) lt in
    rw c.push.ensures.items (given-more c.args.depth c.get-levels.result c.loop-index.index
    c.args.queries.now (map m61_number c.args.challenges.now) c.loop-index.seats.items
    (Sub 0 0) _ c.loop-index.invariant lt c.begin.ensures.query block
    (c.begin.ensures.stands c.args.depth asked size))

pub invariant_of-result : goal.invariant_of-result
invariant_of-result c =
    let all : c.loop-index.index ≡ length c.args.queries.now = omega arith in
    let count = given-count _ _ _ _ _ _ c.loop-index.invariant (omega arith) in
    let asked = given-asked _ _ _ _ _ _ c.loop-index.invariant (omega arith) in
    let deep : c.args.depth ≤ most_depth = omega (arith, c.get-levels.ensures.same, c.get-levels.ensures.most) in
    let least = c.needed.ensures ∙ ap (needed c.args.depth) (sym asked) in
    (deep, (least, (omega (arith, count, c.requires.some), (c.loop-index.invariant.each, tt))))

pub returns : goal.returns
returns c =
    let all : c.loop-index.index ≡ length c.args.queries.now = omega arith in
    let some : 1 ≤ c.args.depth = omega (arith, c.get-levels.ensures.same, c.get-levels.ensures.some) in
    record {
      levels = refl;
      asked = given-asked _ _ _ _ _ _ c.loop-index.invariant (omega arith);
      at_blocks = given-blocks _ _ _ _ _ _ c.loop-index.invariant all some c.get-levels.ensures.same (length-map c.args.challenges.now m61_number ∙ c.requires.count);
      stand = c.loop-index.invariant.stand;
    }
