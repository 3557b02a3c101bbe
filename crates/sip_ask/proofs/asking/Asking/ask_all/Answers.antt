-- Each question is added to those before it; behind the last one the farewell is said.
use Rattle.std.proofs.Common.{◌+◌, ◌<◌, ◌≤◌, Err, [], length, refl, ◌∙◌, rules, arith, add-one}
use Rattle.std.proofs.lemmas.List.{drop_all}
use Rattle.std.proofs.lemmas.Result.{err_from_is_err_and}
use Rattle.sip_ports.proofs.FaultLemmas.{Lasts-trans}
use Rattle.sip_ports.proofs.TalkLemmas.{GoesOn-refl}
use Rattle.sip_questions.specs.Questions.{asking}
use Rattle.sip_questions.specs.Sittings.{remaining_of}
use Rattle.sip_ask.proofs.Chosen.{chosen-is}
use Rattle.sip_ask.proofs.Stops.{bye_said, farewell_said}
use Rattle.sip_ask.proofs.TurnsTaken.{asks_more_at, asks_stop_at, behind_depth, behind_left, behind_version, came_as, next_block, next_count, next_is, same_count, stores_more_at, stores_stop_at, within_asked}
use Rattle.sip_ask.proofs.asking.Asking.ask_all.Goals as goal

pub loop-index-init : goal.loop-index-init
loop-index-init g c = record {
  version = refl;
  depth = refl;
  left = c.requires.ready.left;
  live = c.requires.ready.ready;
  count = refl;
  blocks = λ k. refl;
  stands = λ stream stands. stands;
  asks = λ stream stands new full result rest. rest;
  stores = λ new rest. rest;
  desk = search rules;
  report = search rules;
}

pub bounds-questions-index : goal.bounds-questions-index
bounds-questions-index g c = within_asked c.args.self.now.sketch _ _ _ c.requires.ready.chosen c.loop-index-test.true

pub overflow_cast-index : goal.overflow_cast-index
overflow_cast-index g c =
    let least = within_asked c.args.self.now.sketch c.args.questions.now c.args.places.now c.loop-index.index c.requires.ready.chosen c.loop-index-test.true in
    omega (arith, least, c.requires.most)

pub overflow_add-index : goal.overflow_add-index
overflow_add-index g c =
    let least = within_asked c.args.self.now.sketch c.args.questions.now c.args.places.now c.loop-index.index c.requires.ready.chosen c.loop-index-test.true in
    omega (arith, least, c.requires.most)

pub take_turn-requires-clause-next : goal.take_turn-requires-clause-next
take_turn-requires-clause-next g c =
    let s = c.args.self.now.sketch in
    let i = c.loop-index.invariant in
    let asked = c.args.questions.now in
    let places = c.args.places.now in
    let least = within_asked s asked places c.loop-index.index c.requires.ready.chosen c.loop-index-test.true in
    next_is c.loop-index.self s asked places c.loop-index.index _ _ (chosen-is s asked places c.requires.ready.chosen).take least c.loop-index-test.true i.left i.count i.blocks

pub loop-index-preserved : goal.loop-index-preserved
loop-index-preserved g c =
    let a = c.args.self.now.asker in
    let s = c.args.self.now.sketch in
    let i = c.loop-index.invariant in
    let k = c.loop-index.index in
    let e = c.take_turn.ensures in
    let asked = c.args.questions.now in
    let places = c.args.places.now in
    let within : k < length places = c.loop-index-test.true in
    let least = within_asked s asked places k c.requires.ready.chosen within in
    let remaining = c.in_ok-take_turn.ensures.remaining in
    let now = remaining_of c.loop-index.self.asker in
    let next = remaining_of c.take_turn.new.self.asker in
    record {
      version = behind_version _ now next remaining ∙ i.version;
      depth = behind_depth _ now next remaining ∙ i.depth;
      left = behind_left s asked places k _ now next least within remaining i.left;
      live = c.in_ok-take_turn.ensures.live;
      count = next_count _ c.loop-index.self.sketch c.take_turn.new.self.sketch e.sketch ∙ i.count;
      blocks = λ j. next_block _ c.loop-index.self.sketch c.take_turn.new.self.sketch j e.sketch ∙ i.blocks j;
      stands = λ stream stands. e.stands stream (i.stands stream stands);
      asks = λ stream stands new full result rest.
          let came = came_as stream _ a.version _ s.depth i.version (i.depth ∙ c.requires.ready.depth) c.loop-index.self.sketch (k + 1) _ _ _ _ _ _ c.take_turn.result (e.came stream (i.stands stream stands)) in
          i.asks stream stands new full result
          (asks_more_at a.version c.loop-index.self.sketch places k _ c.take_turn.result within (asking a.version s.depth stream) (k + 1) asked _ least
          c.take_turn.new.self.sketch (k + 1 + 1) _ _ new _ _ full result _ c.in_ok-take_turn.was came e.sketch (add-one (k + 1)) rest);
      stores = λ new rest. i.stores new (stores_more_at a.version c.loop-index.self.sketch places k _ c.take_turn.result within c.take_turn.new.self.sketch _ _ new _ c.in_ok-take_turn.was e.stores e.sketch rest);
      desk = Lasts-trans g.D.Sink.faults g.D.Sink.wants g.D.Sink.is_sure c.args.desk.now c.loop-index.desk c.take_turn.new.desk i.desk e.desk;
      report = Lasts-trans g.K.Sink.faults g.K.Sink.wants g.K.Sink.is_sure c.args.report.now c.loop-index.report c.take_turn.new.report i.report e.report;
    }

pub returns-in_err-take_turn-clause-asks : goal.returns-in_err-take_turn-clause-asks
returns-in_err-take_turn-clause-asks g c = λ stream stands.
    let a = c.args.self.now.asker in
    let s = c.args.self.now.sketch in
    let i = c.loop-index.invariant in
    let k = c.loop-index.index in
    let asked = c.args.questions.now in
    let places = c.args.places.now in
    let within : k < length places = c.loop-index-test.true in
    let least = within_asked s asked places k c.requires.ready.chosen within in
    let p = err_from_is_err_and c.from_residual.result c.from_residual.ensures.1 in
    let came = came_as stream _ a.version _ s.depth i.version (i.depth ∙ c.requires.ready.depth) c.loop-index.self.sketch (k + 1) _ _ _ _ _ _ c.take_turn.result (c.take_turn.ensures.came stream (i.stands stream stands)) in
    rw (p.1, p.2)
    (i.asks stream stands _ _ (Err c.in_err-take_turn.field-0.0)
    (asks_stop_at a.version c.loop-index.self.sketch places k _ c.take_turn.result within (asking a.version s.depth stream) (k + 1) asked _ least _ _ _ _ c.in_err-take_turn.field-0.0 c.in_err-take_turn.was came))

pub returns-in_err-take_turn-clause-stores : goal.returns-in_err-take_turn-clause-stores
returns-in_err-take_turn-clause-stores g c =
    let i = c.loop-index.invariant in
    i.stores _ (stores_stop_at c.args.self.now.asker.version c.loop-index.self.sketch c.args.places.now c.loop-index.index _ c.take_turn.result c.loop-index-test.true _ _ c.in_err-take_turn.field-0.0 c.in_err-take_turn.was c.take_turn.ensures.stores)

pub returns-clause-asks : goal.returns-clause-asks
returns-clause-asks g c = λ stream stands.
    let s = c.args.self.now.sketch in
    let i = c.loop-index.invariant in
    let chosen = chosen-is s c.args.questions.now c.args.places.now c.requires.ready.chosen in
    let same = same_count s c.args.questions.now c.args.places.now chosen.take in
    let all : length c.args.questions.now ≤ c.loop-index.index = omega (arith, same, c.loop-index-test.false) in
    let said = rw i.version at c.say_farewell.ensures.talk stream in
    i.asks stream stands _ _ c.on_link.result
    (rw (drop_all c.loop-index.index c.args.questions.now all) (bye_said c.args.self.now.asker.version _ _ c.say_farewell.result c.on_link.result said c.on_link.ensures, GoesOn-refl _))

pub returns-clause-stores : goal.returns-clause-stores
returns-clause-stores g c =
    let i = c.loop-index.invariant in
    let said = rw i.version at c.say_farewell.ensures.talk [] in
    i.stores _ (rw (drop_all c.loop-index.index c.args.places.now c.loop-index-test.false) (farewell_said c.args.self.now.asker.version _ _ c.say_farewell.result said))
