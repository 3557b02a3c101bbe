-- The next question has a turn, by what was chosen.
use Rattle.std.proofs.Common.{◌≤◌, ◌<◌, List, Option, None, length, get_or, ℕ, refl, sym, ap, subst, arith}
use Rattle.std.specs.List.{AllZip}
use Rattle.sip_vector.specs.declared.query.Query.TheVariants.{Sub}
use Rattle.sip_questions.specs.declared.question.Question.TheVariants as questions
use Rattle.sip_ask.specs.inside.Seating.{Takes}
use Rattle.sip_ask.proofs.Chosen.{chosen-is}
use Rattle.sip_ask.proofs.SeatSteps.{in-asked, place-fits}
use Rattle.sip_ask.proofs.Served.{fit-pose}
use Rattle.sip_ask.proofs.TurnsTaken.{same_count}
use Rattle.sip_ask_steps.specs.Plans.{plan_of}
use Rattle.sip_ask_steps.specs.Steps.{IsTurn}
use Rattle.sip_ask_steps.proofs.AllTurns.{takes_at, whole_all, whole_more}
use Rattle.sip_ask_steps.proofs.beginning.turns_for.Goals as goal

pub bounds-questions-index : goal.bounds-questions-index
bounds-questions-index c =
    in-asked c.args.sketch.now c.args.questions.now c.args.places.now.items c.deref-place-items.result.now c.requires.chosen c.deref-place-items.ensures.0 c.loop-index.index c.loop-index-test.true

pub turn_of-requires-clause-takes : goal.turn_of-requires-clause-takes
turn_of-requires-clause-takes c =
    let s = c.args.sketch.now in
    let asked = c.args.questions.now in
    let take = subst (AllZip (Takes s) asked) (sym c.deref-place-items.ensures.0) (chosen-is s asked c.args.places.now.items c.requires.chosen).take in
    takes_at s asked c.deref-place-items.result.now c.loop-index.index _ _ take
    (in-asked s asked c.args.places.now.items c.deref-place-items.result.now c.requires.chosen c.deref-place-items.ensures.0 c.loop-index.index c.loop-index-test.true)

pub turn_of-requires-clause-fits : goal.turn_of-requires-clause-fits
turn_of-requires-clause-fits c =
    place-fits c.args.sketch.now c.args.questions.now c.args.places.now.items c.deref-place-items.result.now c.requires.chosen c.deref-place-items.ensures.0 c.loop-index.index c.loop-index-test.true _

pub turn_of-requires-clause-can : goal.turn_of-requires-clause-can
turn_of-requires-clause-can c =
    let s = c.args.sketch.now in
    let asked = c.args.questions.now in
    let inside = in-asked s asked c.args.places.now.items c.deref-place-items.result.now c.requires.chosen c.deref-place-items.ensures.0 c.loop-index.index c.loop-index-test.true in
    rw c.requires.version (fit-pose s asked c.requires.is (chosen-is s asked c.args.places.now.items c.requires.chosen).fit c.loop-index.index _ inside)

pub loop-index-preserved : goal.loop-index-preserved
loop-index-preserved c =
    let s = c.args.sketch.now in
    let asked = c.args.questions.now in
    let places = c.args.places.now.items in
    let same = c.deref-place-items.ensures.0 in
    let i = c.loop-index.index in
    let p = plan_of s asked places in
    let inside = in-asked s asked places c.deref-place-items.result.now c.requires.chosen same i c.loop-index-test.true in
    let count = ap length same in
    let within : i < length places = omega (arith, count, c.loop-index-test.true) in
    let turn = subst (λ (l : List (Option ℕ)). IsTurn p (get_or asked i (questions.Query (Sub 0 0))) (get_or l i None) c.in_ok-turn.turn) same (c.in_ok-turn.ensures p refl c.requires.version) in
    record {
      whole = whole_more p asked places i (questions.Query (Sub 0 0)) None c.loop-index.turns.items c.push.new.self.items c.in_ok-turn.turn inside within c.in-Ok-push.ensures.items turn c.loop-index.invariant.whole;
      few = omega (arith, c.in-Ok-push.ensures.len, c.loop-index.invariant.few);
    }

pub returns-clause-turns : goal.returns-clause-turns
returns-clause-turns c =
    let s = c.args.sketch.now in
    let asked = c.args.questions.now in
    let places = c.args.places.now.items in
    let count = ap length c.deref-place-items.ensures.0 in
    let all : length places ≤ c.loop-index.index = omega (arith, count, c.loop-index-test.false) in
    let both = same_count s asked places (chosen-is s asked places c.requires.chosen).take in
    whole_all (plan_of s asked places) asked places c.loop-index.index c.loop-index.turns.items (omega (arith, all, both)) all c.loop-index.invariant.whole

pub returns-clause-few : goal.returns-clause-few
returns-clause-few c =
    let s = c.args.sketch.now in
    let asked = c.args.questions.now in
    let places = c.args.places.now.items in
    let count = ap length c.deref-place-items.ensures.0 in
    let both = same_count s asked places (chosen-is s asked places c.requires.chosen).take in
    omega (arith, count, both, c.loop-index.auto.index-end, c.loop-index.invariant.few)
