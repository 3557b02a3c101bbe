-- The records of one block more came.
use Rattle.std.proofs.Common.{◌++◌, [], List, arith, length-append, rules, take}
use Rattle.std.proofs.lemmas.List.{length-take-le}
use Rattle.sip_vector.specs.declared.update.Update.{Update}
use Rattle.sip_sketch.specs.declared.filling.Pause.TheVariants.{Full}
use Rattle.sip_sketch.proofs.Paused.{reads_more}
use Rattle.sip_sketch.proofs.passing.pass_over.Goals as goal

pub returns-in_default-clause-passed : goal.returns-in_default-clause-passed
returns-in_default-clause-passed g c =
    let so = c.loop-passed.invariant in
    let was = so.passed in
    let n = c.fill-more.result.0 in
    let us : List Update = take n c.fill-more.new.block in (
      was.0 ++ us,
      omega (arith, was.1, length-append was.0 us, length-take-le n c.fill-more.new.block c.fill-more.ensures.few),
      λ bytes told. reads_more c.args.depth c.args.form [] bytes (g.A.Source.left c.loop-passed.first) (g.A.Source.left c.fill-more.new.first) was.0 us c.fill-more.result.1 (was.3 bytes told)
          (λ rest is. rw (so.depth, so.form) at (c.fill-more.ensures.reads was.0 rest was.2 is)),
    )

pub loop-passed-preserved : goal.loop-passed-preserved
loop-passed-preserved g c =
    let so = c.loop-passed.invariant in
    let was = so.passed in
    let n = c.fill-more.result.0 in
    let us : List Update = take n c.fill-more.new.block in
    record {
      few = search rules;
      whole = search rules;
      passed = (
        was.0 ++ us,
        omega (arith, was.1, length-append was.0 us, length-take-le n c.fill-more.new.block c.fill-more.ensures.few),
        rw c.in-Full.is at (c.fill-more.ensures.after was.0 was.2),
        λ bytes told. reads_more c.args.depth c.args.form [] bytes (g.A.Source.left c.loop-passed.first) (g.A.Source.left c.fill-more.new.first) was.0 us Full (was.3 bytes told)
            (λ rest is. rw (so.depth, so.form, c.in-Full.is) at (c.fill-more.ensures.reads was.0 rest was.2 is)),
      );
      depth = search rules;
      form = search rules;
      ready = search rules;
      told = search rules;
      first = search rules;
    }
