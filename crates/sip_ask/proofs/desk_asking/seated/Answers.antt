-- A question that takes a seat has one more, and another has none.
use Rattle.std.proofs.Common.{◌≡◌, ℕ, None, arith}
use Rattle.std.proofs.lemmas.List.Elements.{All-push, All-same}
use Rattle.sip_lookup.specs.declared.lookup.Lookup.TheVariants as lookups
use Rattle.sip_questions.specs.Questions.{version_for}
use Rattle.sip_questions.specs.Sittings.{CanAsk, StandsAt, refusal_at}
use Rattle.sip_questions.specs.declared.question.Question.TheVariants as questions
use Rattle.sip_questions.specs.declared.seat.QuestionSeat.{QuestionSeat}
use Rattle.sip_ask.specs.Choosing.{weight_told}
use Rattle.sip_ask.proofs.Chosen.{chosen-is}
use Rattle.sip_ask.proofs.Narrow.{seats-refuse}
use Rattle.sip_ask.proofs.SeatSteps.{asked-more, asked-same, asked-whole, in-asked, place-fits, place-serves, place-tested}
use Rattle.sip_ask.proofs.Served.{fit-pose}
use Rattle.sip_ask.proofs.desk_asking.seated.Goals.{in-Some+in_ok-push, in_default}
use Rattle.sip_ask.proofs.desk_asking.seated.Goals as goal

pub bounds-questions-index : goal.bounds-questions-index
bounds-questions-index c =
    in-asked c.args.sketch.now c.args.questions.now c.args.places.now.items c.deref-place-items.result.now c.requires.chosen c.deref-place-items.ensures.0
    c.loop-index.index c.loop-index-test.true

pub seat_of-requires : goal.seat_of-requires
seat_of-requires c = record {
  is = c.requires.is;
  serves = place-serves c.args.sketch.now c.args.questions.now c.args.places.now.items c.deref-place-items.result.now c.requires.chosen c.deref-place-items.ensures.0
      c.loop-index.index c.loop-index-test.true _ _ c.in-Some.place c.in-Some.is;
  fits = place-fits c.args.sketch.now c.args.questions.now c.args.places.now.items c.deref-place-items.result.now c.requires.chosen c.deref-place-items.ensures.0
      c.loop-index.index c.loop-index-test.true _;
  tested = place-tested c.args.sketch.now c.args.questions.now c.args.places.now.items c.deref-place-items.result.now c.requires.chosen c.deref-place-items.ensures.0
      c.loop-index.index c.loop-index-test.true _;
}

pub loop-index-preserved : goal.loop-index-preserved
loop-index-preserved c =
    let s = c.args.sketch.now in
    let version = version_for s.depth c.args.questions.now in
    let inside = in-asked s c.args.questions.now c.args.places.now.items c.deref-place-items.result.now c.requires.chosen c.deref-place-items.ensures.0 c.loop-index.index c.loop-index-test.true in
    let pose = fit-pose s c.args.questions.now c.requires.is (chosen-is s c.args.questions.now c.args.places.now.items c.requires.chosen).fit in
    let Free : QuestionSeat → Type 0 = λ seat. (k : ℕ) → refusal_at (weight_told s.tally) k seat ≡ None in
    elim c.match-place.branch [
      | in-Some+in_ok-push w ↦ rw w.seats-is (record {
        asks = asked-more s c.args.questions.now c.args.places.now.items c.deref-place-items.result.now c.requires.chosen c.deref-place-items.ensures.0
            c.loop-index.index c.loop-index-test.true _ _ w.in-Some.place c.loop-index.seats.items w.push.new.self.items w.seat_of.result w.in-Some.is w.in_ok-push.ensures.items
            w.seat_of.ensures.asks c.loop-index.invariant.asks;
        can = All-same (CanAsk version s.depth) w.push.new.self.items _ w.in_ok-push.ensures.items
            (All-push (CanAsk version s.depth) c.loop-index.seats.items w.seat_of.result c.loop-index.invariant.can (w.seat_of.ensures.can version (pose c.loop-index.index _ inside)));
        stands = λ stream stands. All-same (StandsAt s.depth stream) w.push.new.self.items _ w.in_ok-push.ensures.items
            (All-push (StandsAt s.depth stream) c.loop-index.seats.items w.seat_of.result (c.loop-index.invariant.stands stream stands) (w.seat_of.ensures.stands stream stands));
        free = All-same Free w.push.new.self.items _ w.in_ok-push.ensures.items (All-push Free c.loop-index.seats.items w.seat_of.result c.loop-index.invariant.free w.seat_of.ensures.free);
      })
      | in_default w ↦ rw w.seats-is (record {
        asks = asked-same s c.args.questions.now c.args.places.now.items c.deref-place-items.result.now c.requires.chosen c.deref-place-items.ensures.0
            c.loop-index.index c.loop-index-test.true (questions.Lookup (lookups.Index 0)) _ c.loop-index.seats.items w.in_default.is c.loop-index.invariant.asks;
        can = c.loop-index.invariant.can;
        stands = c.loop-index.invariant.stands;
        free = c.loop-index.invariant.free;
      })
    ]

pub returns-clause-asks : goal.returns-clause-asks
returns-clause-asks c =
    asked-whole c.args.sketch.now c.args.questions.now c.args.places.now.items c.deref-place-items.result.now c.loop-index.seats.items c.loop-index.index c.deref-place-items.ensures.0
    (omega arith) c.loop-index.invariant.asks

pub returns-clause-free : goal.returns-clause-free
returns-clause-free c = seats-refuse (weight_told c.args.sketch.now.tally) 1 c.loop-index.seats.items c.loop-index.invariant.free
