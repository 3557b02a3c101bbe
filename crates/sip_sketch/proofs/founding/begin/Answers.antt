use Rattle.std.proofs.Common.{rules, le_refl}
use Rattle.sip_sketch.specs.Risen.{counts}
use Rattle.sip_sketch.proofs.Causes.{risen_between}
use Rattle.sip_sketch.proofs.Founded.{stored}
use Rattle.sip_sketch.proofs.founding.begin.Goals as goal

pub returns-in-Err-clause-cause : goal.returns-in-Err-clause-cause
returns-in-Err-clause-cause g c =
    let seeds = g.B.Source.faults c.args.second.now in
    c.in-Err.ensures.cause (counts 0 seeds 0 0 0) (counts 0 seeds 0 0 0)

pub returns-in-Err-read_seed-clause-cause : goal.returns-in-Err-read_seed-clause-cause
returns-in-Err-read_seed-clause-cause g c =
    let before = counts 0 0 (g.D.Sink.faults c.args.desk.now) 0 0 in
    c.in-Err-read_seed.ensures.cause before (counts 0 0 (g.D.Sink.faults c.find_none.new.desk) 0 0)

pub returns-in-Ok-first_file-clause-begins : goal.returns-in-Ok-first_file-clause-begins
returns-in-Ok-first_file-clause-begins g c =
    let begun = c.in-Ok-first_file.ensures.begun in
    stored _ _ _ _ _ _ _ _ c.deref.result.now c.store.result c.in_default.ensures.none c.find_none.ensures.talk
    record { seed = c.in-Ok.seed; given = c.in-Ok.ensures.seed; sketch = begun.0; begun = begun.1; spelled = search rules }
    c.store.ensures.talk

pub returns-in-Ok-first_file-clause-cause : goal.returns-in-Ok-first_file-clause-cause
returns-in-Ok-first_file-clause-cause g c =
    let seeds = g.B.Source.faults c.args.second.now in
    let drawn = g.B.Source.faults c.read_seed.new.second in
    let desks = g.D.Sink.faults c.args.desk.now in
    let loaded = g.D.Sink.faults c.find_none.new.desk in
    let stored = g.D.Sink.faults c.store.new.desk in
    risen_between (counts 0 seeds desks 0 0) (counts 0 seeds loaded 0 0) (counts 0 drawn stored 0 0) (counts 0 drawn stored 0 0) c.store.result
    record { first = le_refl 0; second = le_refl seeds; sketch = c.find_none.ensures.desk.later; parts = le_refl 0; report = le_refl 0 }
    (c.store.ensures.cause (counts 0 seeds 0 0 0) (counts 0 drawn 0 0 0))
    record { first = le_refl 0; second = le_refl drawn; sketch = le_refl stored; parts = le_refl 0; report = le_refl 0 }
