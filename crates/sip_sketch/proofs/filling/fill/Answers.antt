-- Where reading pauses, and one more record with those that the source held behind it.
use Rattle.std.proofs.Common.{◌≡◌, ◌+◌, ◌-◌, ◌≤◌, ◌++◌, ◌∷◌, ◌∙◌, [], List, ap, length, rules, slice_set, subst, sym, take}
use Rattle.std.proofs.lemmas.List.{take_more_set}
use Rattle.sip_stream.specs.Reading.{IsAfter}
use Rattle.sip_vector.specs.declared.update.Update.{Update}
use Rattle.sip_sketch.specs.Watching.{ReadsTo}
use Rattle.sip_sketch.specs.declared.filling.Pause.TheVariants.{Full, Ended, Stopped}
use Rattle.sip_sketch.proofs.Blocks.{rows_behind}
use Rattle.sip_sketch.proofs.Paused.{after_block, reads_block, reads_end, reads_last, reads_stop}
use Rattle.sip_sketch.proofs.filling.fill.Goals as goal
use borrow.Rule.Slice.PartMut.{put_mid}

pub returns-in-Ok-None-clause-reads : goal.returns-in-Ok-None-clause-reads
returns-in-Ok-None-clause-reads g c = λ before bytes after told.
    let so = c.loop-count.invariant in
    let r = c.args.reader.now in
    let came = take c.loop-count.count c.loop-count.block in
    reads_last r.depth r.form before bytes (g.A.Source.left c.loop-count.first) (g.A.Source.left c.next.new.source) came Ended (so.reads before bytes after told)
    (λ rest is. reads_end r.depth r.form (before ++ came) rest (g.A.Source.left c.next.new.source)
    (rw (so.depth, so.form, c.in-Ok-None.is, c.in-Ok-None.field-0-is) at (c.next.ensures.reads (before ++ came) rest (so.after before after) is)))

pub returns-in-Err-clause-reads : goal.returns-in-Err-clause-reads
returns-in-Err-clause-reads g c = λ before bytes after told.
    let so = c.loop-count.invariant in
    let r = c.args.reader.now in
    let came = take c.loop-count.count c.loop-count.block in
    reads_last r.depth r.form before bytes (g.A.Source.left c.loop-count.first) (g.A.Source.left c.next.new.source) came (Stopped c.in-Err.fault) (so.reads before bytes after told)
    (λ rest is. reads_stop r.depth r.form (before ++ came) rest (g.A.Source.left c.next.new.source) c.in-Err.fault
    (rw (so.depth, so.form, c.in-Err.is) at (c.next.ensures.reads (before ++ came) rest (so.after before after) is)))

pub loop-count-preserved : goal.loop-count-preserved
loop-count-preserved g c =
    let so = c.loop-count.invariant in
    let r = c.args.reader.now in
    let i = c.loop-count.count in
    let u : Update = c.in-Ok-Some.update in
    let xs : List Update = slice_set c.loop-count.block i u in
    let m = c.read_held-count.result in
    let zs : List Update = c.read_held-count.new.block in
    let came : List Update = take i c.loop-count.block in
    let took = c.read_held-count.ensures.took in
    let one : take (i + 1) xs ≡ came ++ u ∷ [] = take_more_set c.loop-count.block i u c.loop-count-test.true in
    let within : i + 1 ≤ length xs = search rules in
    let all : take (i + 1 + m) (put_mid (i + 1) (length xs - (i + 1)) xs zs) ≡ (came ++ u ∷ []) ++ take m zs =
    rows_behind (i + 1) (length xs - (i + 1)) m xs zs within c.read_held-count.ensures.few ∙ ap (λ (l : List Update). l ++ take m zs) one in
    let depth = c.next.ensures.depth ∙ so.depth in
    let form = c.next.ensures.form ∙ so.form in
    record {
      few = search rules;
      long = search rules;
      reads = λ before bytes after told.
          let next = rw (c.in-Ok-Some.is, c.in-Ok-Some.field-0-is) at (c.next.ensures.after (before ++ came) (so.after before after)) in
          subst (λ (l : List Update). ReadsTo r.depth r.form before bytes (g.A.Source.left c.read_held-count.new.source) l Full) (sym all)
          (reads_block r.depth r.form before bytes (g.A.Source.left c.loop-count.first) (g.A.Source.left c.next.new.source) (g.A.Source.left c.read_held-count.new.source) c.next.new.self c.read_held-count.new.self came u took.0 (take m zs)
          (so.reads before bytes after told) (λ rest is. rw (so.depth, so.form, c.in-Ok-Some.is, c.in-Ok-Some.field-0-is) at (c.next.ensures.reads (before ++ came) rest (so.after before after) is)) next depth form took.1 took.2);
      after = λ before after.
          let next = rw (c.in-Ok-Some.is, c.in-Ok-Some.field-0-is) at (c.next.ensures.after (before ++ came) (so.after before after)) in
          subst (λ (l : List Update). IsAfter c.read_held-count.new.self (before ++ l)) (sym all)
          (after_block before c.next.new.self c.read_held-count.new.self came u took.0 (take m zs) next took.1);
      depth = search rules;
      form = search rules;
      ready = search rules;
      told = search rules;
      first = search rules;
    }
