-- What was read, or that no stream has the sketch's numbers.
use Rattle.std.proofs.Common.{◌≡◌, ◌++◌, ◌∙◌, List, ap, sym, subst, take, false}
use Rattle.std.specs.Prelude.{IsTrue}
use Rattle.sip_stream.specs.Reading.{Reading, IsAfter}
use Rattle.sip_vector.specs.Streams.{IsLegal}
use Rattle.sip_vector.specs.declared.update.Update.{Update}
use Rattle.sip_sketch.specs.Standing.{MayCome}
use Rattle.sip_sketch.proofs.Compound.{legal_comes}
use Rattle.sip_sketch.proofs.Paused.{legal_after}
use Rattle.sip_sketch.proofs.following.next_block.Goals as goal

pub returns-then-takes-clause-reads : goal.returns-then-takes-clause-reads
returns-then-takes-clause-reads g c = λ stream bytes stands told.
    let s = c.args.sketch.now in
    let reader = c.resumed-reader.result in
    let deep : c.depth.result ≡ s.depth = c.depth.ensures in
    let same : c.tally.result ≡ s.tally = c.tally.ensures in
    let after : IsAfter reader stream = c.resumed-reader.ensures.after stream (subst (λ n. IsLegal n stream) (sym deep) stands.legal) (sym stands.told ∙ sym same) in
    let depth : reader.depth ≡ s.depth = ap (λ (r : Reading). r.depth) c.resumed-reader.ensures.behind ∙ deep in
    let form : reader.form ≡ c.args.form = ap (λ (r : Reading). r.form) c.resumed-reader.ensures.behind in
    rw (depth, form) at (c.fill-count.ensures.reads stream bytes after told)

pub returns-clause-reads : goal.returns-clause-reads
returns-clause-reads g c = λ stream bytes stands told.
    let s = c.args.sketch.now in
    let us : List Update = take c.fill-count.result.0 c.fill-count.new.block in
    let reader = c.resumed-reader.result in
    let deep : c.depth.result ≡ s.depth = c.depth.ensures in
    let same : c.tally.result ≡ s.tally = c.tally.ensures in
    let after : IsAfter reader stream = c.resumed-reader.ensures.after stream (subst (λ n. IsLegal n stream) (sym deep) stands.legal) (sym stands.told ∙ sym same) in
    let depth : c.fill-count.new.reader.depth ≡ s.depth = c.fill-count.ensures.depth ∙ ap (λ (r : Reading). r.depth) c.resumed-reader.ensures.behind ∙ deep in
    let legal = legal_after c.fill-count.new.reader (stream ++ us) c.fill-count.result.1 (c.fill-count.ensures.after stream after) in
    let comes : MayCome s us = legal_comes s stream us stands (subst (λ n. IsLegal n (stream ++ us)) depth legal) in
    let is : IsTrue c.takes.result = c.takes.ensures.1 comes in
    absurd (let none : IsTrue false = subst IsTrue c.if-takes.false is in cc)
