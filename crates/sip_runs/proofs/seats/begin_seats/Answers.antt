-- Each question has its own block of challenges, and the numbers of no update.
use Rattle.std.proofs.Common.{◌≡◌, ◌<◌, ◌≤◌, ◌*◌, ◌+◌, ◌-◌, ◌∙◌, [], length, map, take, drop, true, sym, ap, arith, rules}
use Rattle.std.specs.Result.{is_ok}
use Rattle.std.proofs.lemmas.List.{length-map, take-map, drop-map}
use Rattle.sip_field.specs.Elements.{m61_number}
use Rattle.sip_verifier.specs.Running.{block_of}
use Rattle.sip_verifier.proofs.SeatsGiven.{block-size}
use Rattle.sip_runs.proofs.Begun.{begun_blocks, begun_more, begun_none, begun_questions}
use Rattle.sip_runs.proofs.seats.begin_seats.Goals as goal

pub loop-index-init : goal.loop-index-init
loop-index-init c =
    let none : c.in-Ok.seats.items ≡ [] = search rules in
    rw none (begun_none c.args.depth c.get-levels.result c.args.questions.now (map m61_number c.args.challenges.now))

pub loop-index-preserved : goal.loop-index-preserved
loop-index-preserved c =
    let lt : c.loop-index.index < length c.args.questions.now = omega arith in
    let first = c.loop-index.index * c.get-levels.result in
    let levels : (first + c.get-levels.result) - first ≡ c.get-levels.result = omega arith in
    let cut_out = ap (take c.get-levels.result) (drop-map m61_number first c.args.challenges.now) ∙ take-map m61_number c.get-levels.result (drop first c.args.challenges.now) in
    let block : block_of c.begin.result.running ≡ take c.get-levels.result (drop (c.loop-index.index * c.get-levels.result) (map m61_number c.args.challenges.now)) =
    c.begin.ensures.block ∙ c.in-Some.ensures.same
    ∙ ap (λ k. map m61_number (take k (drop first c.args.challenges.now))) levels
    ∙ sym cut_out in
    let size : length c.in-Some.block ≡ c.args.depth = ap length (sym c.begin.ensures.block ∙ block)
    ∙ block-size c.get-levels.result (length c.args.questions.now) c.loop-index.index (map m61_number c.args.challenges.now) lt
    (length-map c.args.challenges.now m61_number ∙ c.requires.count ∙ ap (λ k. k * length c.args.questions.now) (sym c.get-levels.ensures.same))
    ∙ c.get-levels.ensures.same in
    let ok : is_ok c.push.result ≡ true = search rules in
    rw (c.push.ensures.items, ok) (begun_more c.args.depth c.get-levels.result c.loop-index.index c.args.questions.now (map m61_number c.args.challenges.now) c.loop-index.seats.items
    _ c.begin.result c.loop-index.invariant lt c.begin.ensures.question block
    (λ version can. c.begin.ensures.seated version c.args.depth can size))

pub returns-clause-questions : goal.returns-clause-questions
returns-clause-questions c = begun_questions _ _ _ _ _ _ c.loop-index.invariant (omega arith)

pub returns-clause-blocks : goal.returns-clause-blocks
returns-clause-blocks c =
    let some : 1 ≤ c.args.depth = omega (arith, c.get-levels.ensures.same, c.get-levels.ensures.some) in
    begun_blocks _ _ _ _ _ _ c.loop-index.invariant (omega arith) some c.get-levels.ensures.same (length-map c.args.challenges.now m61_number ∙ c.requires.count)

pub returns-clause-seated : goal.returns-clause-seated
returns-clause-seated c = λ version can. c.loop-index.invariant.seated version can
