-- Each block that came, and how it ended.
use Rattle.std.proofs.Common.{◌≡◌, ◌≤◌, ◌<◌, ◌+◌, rules, arith, refl, ap, ◌∙◌, length}
use Rattle.sip_vector.specs.declared.tally.Tally.{Tally}
use Rattle.sip_sketch.specs.Risen.{HasRisen}
use Rattle.sip_sketch.specs.declared.filling.Pause.TheVariants.{Stopped}
use Rattle.sip_sketch.specs.inside.Causes.{with_first, with_sketch}
use Rattle.sip_sketch.specs.inside.Following.{status_of}
use Rattle.sip_sketch.proofs.Rises.{risen_since, stream_risen}
use Rattle.sip_sketch.proofs.Rounds.{ended, first_round, later_round, nearer, next_round, stopped, unstored, until_some}
use Rattle.sip_sketch.proofs.following.follow.Goals as goal

pub loop-sketch-init : goal.loop-sketch-init
loop-sketch-init g c =
    let pace = c.new-pace.result in
    record {
      form = refl;
      some = until_some pace.every pace.until 0 c.new-pace.ensures.pace;
      came = first_round c.args.form c.args.every c.args.sketch.now (g.A.Source.left c.args.first.now) (g.D.Sink.talk c.args.desk.now) pace c.new-pace.ensures.every c.new-pace.ensures.pace c.has_a_file.ensures;
      told = λ h. h;
      start = refl;
      first = search rules;
      desk = search rules;
    }

pub returns-in-Ended-clause-adds : goal.returns-in-Ended-clause-adds
returns-in-Ended-clause-adds g c =
    let has = rw c.in-Ended.is at c.add_block-count.ensures.came in
    let fewer : c.add_block-count.result.0 < c.most-most.result = search rules in
    ended c.loop-sketch.invariant.came has c.most-most.result c.most-most.ensures.within fewer (g.D.Sink.talk c.keep.new.desk) c.keep.result c.keep.ensures.sketch c.keep.ensures.talk

pub returns-in-Ended-clause-cause : goal.returns-in-Ended-clause-cause
returns-in-Ended-clause-cause g c = λ before now.
    let a = g.A.Source.faults c.args.first.now in
    let last = g.A.Source.faults c.add_block-count.new.first in
    let first : a ≤ last = search rules in
    risen_since before now (g.D.Sink.faults c.loop-sketch.desk) (g.D.Sink.faults c.args.desk.now) a a (g.D.Sink.faults c.keep.new.desk) last c.keep.result c.loop-sketch.invariant.desk.later (omega arith)
    (c.keep.ensures.cause (with_first before a) (with_first now last))

pub returns-in-Stopped-clause-adds : goal.returns-in-Stopped-clause-adds
returns-in-Stopped-clause-adds g c =
    let fault = c.in-Stopped.fault in
    let has = rw c.in-Stopped.is at c.add_block-count.ensures.came in
    let fewer : c.add_block-count.result.0 < c.most-most.result = search rules in
    let status : c.status_of-status.result ≡ status_of fault c.add_block-count.new.sketch.tally.count =
    c.status_of-status.ensures ∙ ap (λ (t : Tally). status_of fault t.count) c.tally.ensures in
    stopped fault c.loop-sketch.invariant.came has c.most-most.result c.most-most.ensures.within fewer (g.D.Sink.talk c.close.new.desk) c.status_of-status.result c.close.result
    c.close.ensures.sketch status c.close.ensures.talk

pub returns-in-Stopped-clause-cause : goal.returns-in-Stopped-clause-cause
returns-in-Stopped-clause-cause g c = λ before now.
    let a = g.A.Source.faults c.args.first.now in
    let mid = g.A.Source.faults c.loop-sketch.first in
    let last = g.A.Source.faults c.add_block-count.new.first in
    let was = with_first before mid in
    let is = with_first now last in
    let d = g.D.Sink.faults c.loop-sketch.desk in
    let e = g.D.Sink.faults c.close.new.desk in
    let stream : HasRisen (with_sketch was d) (with_sketch is e) c.status_of-status.result =
    rw c.status_of-status.ensures (stream_risen (with_sketch was d) (with_sketch is e) c.in-Stopped.fault c.tally.result.count (λ fault. c.add_block-count.ensures.cause (c.in-Stopped.is ∙ ap Stopped fault))) in
    risen_since before now d (g.D.Sink.faults c.args.desk.now) mid a e last c.close.result c.loop-sketch.invariant.desk.later c.loop-sketch.invariant.first.later
    (c.close.ensures.cause was is stream)

pub loop-sketch-smaller-in-Wrote : goal.loop-sketch-smaller-in-Wrote
loop-sketch-smaller-in-Wrote g c =
    let all : c.add_block-count.result.0 ≡ c.most-most.result = search rules in
    nearer c.loop-sketch.invariant.came c.add_block-count.ensures.came (omega (arith, all, c.most-most.ensures.some))

pub loop-sketch-preserved-in-Wrote : goal.loop-sketch-preserved-in-Wrote
loop-sketch-preserved-in-Wrote g c =
    let so = c.loop-sketch.invariant.came in
    let has = rw c.in-Full.is at c.add_block-count.ensures.came in
    let paces = rw c.if-pass.true at (c.pass.ensures.paces (length so.added) so.until) in
    record {
      form = refl;
      some = until_some c.pass.new.self.every c.pass.new.self.until (length so.added + c.add_block-count.result.0) paces.pace;
      came = next_round so has paces (g.D.Sink.talk c.keep-then-pass.new.desk) c.keep-then-pass.result c.keep-then-pass.ensures.sketch c.keep-then-pass.ensures.talk c.in-Wrote.is;
      told = search rules;
      start = search rules;
      first = search rules;
      desk = search rules;
    }

pub returns-in_default : goal.returns-in_default
returns-in_default g c =
    let so = c.loop-sketch.invariant.came in
    let has = rw c.in-Full.is at c.add_block-count.ensures.came in
    let paces = rw c.if-pass.true at (c.pass.ensures.paces (length so.added) so.until) in
    record {
      adds = unstored so has paces (g.D.Sink.talk c.keep-then-pass.new.desk) c.keep-then-pass.result c.keep-then-pass.ensures.sketch c.keep-then-pass.ensures.talk c.in_default.not-Wrote;
      cause = λ before after.
          let a = g.A.Source.faults c.args.first.now in
          let b = g.A.Source.faults c.add_block-count.new.first in
          risen_since before after (g.D.Sink.faults c.loop-sketch.desk) (g.D.Sink.faults c.args.desk.now) a a (g.D.Sink.faults c.keep-then-pass.new.desk) b c.keep-then-pass.result c.loop-sketch.invariant.desk.later (omega arith)
          (c.keep-then-pass.ensures.cause (with_first before a) (with_first after b));
      told = search rules;
      start = search rules;
      first = search rules;
      desk = search rules;
    }

pub loop-sketch-smaller : goal.loop-sketch-smaller
loop-sketch-smaller g c =
    let all : c.add_block-count.result.0 ≡ c.most-most.result = search rules in
    nearer c.loop-sketch.invariant.came c.add_block-count.ensures.came (omega (arith, all, c.most-most.ensures.some))

pub loop-sketch-preserved : goal.loop-sketch-preserved
loop-sketch-preserved g c =
    let so = c.loop-sketch.invariant.came in
    let has = rw c.in-Full.is at c.add_block-count.ensures.came in
    let paces = rw c.if-pass.false at (c.pass.ensures.paces (length so.added) so.until) in
    record {
      form = refl;
      some = until_some c.pass.new.self.every c.pass.new.self.until (length so.added + c.add_block-count.result.0) paces.pace;
      came = later_round so has paces;
      told = search rules;
      start = search rules;
      first = search rules;
      desk = search rules;
    }
