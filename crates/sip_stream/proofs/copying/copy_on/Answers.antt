-- What holds at each exit follows from how far the copy came.
use Rattle.std.proofs.Common.{rules, arith, ap, ◌∙◌}
use Rattle.std.specs.Result.{is_err}
use Rattle.std.proofs.lemmas.Result.{err_from_is_err_and}
use Rattle.sip_stream.specs.Layouts.{deepest_in}
use Rattle.sip_stream.proofs.ReadBack.{below_deeper}
use Rattle.sip_stream.proofs.Copies.{goes_on, goes_on_many, ends, stops_reading, stops_writing}
use Rattle.sip_stream.proofs.copying.copy_on.Goals as goal

pub returns-in-Ok-None-clause-copied : goal.returns-in-Ok-None-clause-copied
returns-in-Ok-None-clause-copied g c = λ bytes all.
    let so = c.loop-update.invariant.underway bytes all in
    let reads = rw (c.loop-update.invariant.depth, c.loop-update.invariant.form, c.in-Ok-None.is, c.in-Ok-None.field-0-is) at (c.next.ensures.reads so.stream so.rest so.after so.to_come) in
    ends c.args.depth c.args.from c.args.to bytes (g.K.Sink.talk c.args.sink.now) (g.A.Source.left c.loop-update.source) (g.A.Source.left c.next.new.source) (g.K.Sink.talk c.loop-update.sink) c.loop-update.reader c.loop-update.gathered.items so reads

pub returns-in-Err-clause-copied : goal.returns-in-Err-clause-copied
returns-in-Err-clause-copied g c = λ bytes all.
    let so = c.loop-update.invariant.underway bytes all in
    let reads = rw (c.loop-update.invariant.depth, c.loop-update.invariant.form, c.in-Err.is) at (c.next.ensures.reads so.stream so.rest so.after so.to_come) in
    stops_reading c.args.depth c.args.from c.args.to bytes (g.K.Sink.talk c.args.sink.now) (g.A.Source.left c.loop-update.source) (g.A.Source.left c.next.new.source) (g.K.Sink.talk c.loop-update.sink) c.loop-update.reader c.loop-update.gathered.items c.in-Err.fault so reads

pub returns-in_err-make_room-clause-copied : goal.returns-in_err-make_room-clause-copied
returns-in_err-make_room-clause-copied g c = λ bytes all.
    let so = c.loop-update.invariant.underway bytes all in
    let p = err_from_is_err_and c.from_residual.result c.from_residual.ensures.1 in
    let talk = c.in_err-make_room.ensures.talk in
    rw p.1 (stops_writing c.args.depth c.args.from c.args.to bytes (g.K.Sink.talk c.args.sink.now) (g.A.Source.left c.loop-update.source) (g.K.Sink.talk c.loop-update.sink) (g.K.Sink.talk c.make_room.new.sink) c.loop-update.reader c.loop-update.gathered.items talk.0 so talk.1 talk.2)

pub put_update-requires : goal.put_update-requires
put_update-requires g c =
    let room = rw (c.in-Ok-Some.is, c.in-Ok-Some.field-0-is) at c.next.ensures.legal in
    let item = rw c.loop-update.invariant.depth at room.item in
    (search rules, (below_deeper c.in-Ok-Some.update.item c.args.depth (deepest_in c.args.to) item c.requires.depth, search rules))

pub loop-update-preserved : goal.loop-update-preserved
loop-update-preserved g c = record {
  underway = λ bytes all.
      let so = c.loop-update.invariant.underway bytes all in
      let reads = rw (c.loop-update.invariant.depth, c.loop-update.invariant.form, c.in-Ok-Some.is, c.in-Ok-Some.field-0-is) at (c.next.ensures.reads so.stream so.rest so.after so.to_come) in
      let after = rw (c.in-Ok-Some.is, c.in-Ok-Some.field-0-is) at (c.next.ensures.after so.stream so.after) in
      let talk = c.in_ok-make_room.ensures.talk in
      let held = c.gather_held.ensures.grown in
      let depth = c.next.ensures.depth ∙ c.loop-update.invariant.depth in
      let form = c.next.ensures.form ∙ c.loop-update.invariant.form in
      let one = goes_on c.args.depth c.args.from c.args.to bytes (g.K.Sink.talk c.args.sink.now) (g.A.Source.left c.loop-update.source) (g.A.Source.left c.next.new.source) (g.K.Sink.talk c.loop-update.sink) (g.K.Sink.talk c.make_room.new.sink)
      c.loop-update.reader c.next.new.self c.loop-update.gathered.items c.make_room.new.gathered.items c.put_update.new.gathered.items talk.0 c.in-Ok-Some.update so reads after talk.1 talk.2 c.put_update.ensures.items in
      goes_on_many c.args.depth c.args.from c.args.to bytes (g.K.Sink.talk c.args.sink.now) (g.A.Source.left c.next.new.source) (g.A.Source.left c.gather_held.new.source) (g.K.Sink.talk c.make_room.new.sink)
      c.next.new.self c.gather_held.new.reader c.put_update.new.gathered.items c.gather_held.new.gathered.items held.1 held.0 one depth form held.3 held.4 held.2;
  same_to = search rules;
  depth = c.gather_held.ensures.grown.3.depth ∙ c.next.ensures.depth ∙ c.loop-update.invariant.depth;
  form = c.gather_held.ensures.grown.3.form ∙ c.next.ensures.form ∙ c.loop-update.invariant.form;
  ready = c.gather_held.ensures.grown.3.spent ∙ c.next.ensures.spent ∙ ap is_err c.in-Ok-Some.is;
  told = search rules;
  source = search rules;
  sink = search rules;
}

-- what the source held is no farther off
pub loop-update-smaller : goal.loop-update-smaller
loop-update-smaller g c =
    let nearer = rw (c.in-Ok-Some.is, c.in-Ok-Some.field-0-is) at c.next.ensures.nearer in
    omega (arith, nearer, c.gather_held.ensures.grown.3.nearer)
