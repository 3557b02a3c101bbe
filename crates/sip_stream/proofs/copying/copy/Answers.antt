-- The last bytes are written, whatever ended the reading.
use Rattle.std.proofs.lemmas.Result.{err_from_is_err_and}
use Rattle.sip_stream.proofs.Copies.{cut_at_last, stopped_early}
use Rattle.sip_stream.proofs.copying.copy.Goals as goal

pub returns-in_err-write_whole-clause-copied : goal.returns-in_err-write_whole-clause-copied
returns-in_err-write_whole-clause-copied g c = λ bytes all.
    let p = err_from_is_err_and c.from_residual-in_err-write_whole.result c.from_residual-in_err-write_whole.ensures.1 in
    let talk = rw c.as_slice.ensures.value at c.in_err-write_whole.ensures.talk in
    rw (p.1, p.2) (cut_at_last c.args.depth c.args.from c.args.to bytes (g.K.Sink.talk c.args.sink.now) (g.A.Source.left c.copy_on.new.source) (g.K.Sink.talk c.copy_on.new.sink) (g.K.Sink.talk c.write_whole.new.sink) c.copy_on.new.gathered.items c.in_ok-stopped.stopped c.in_err-write_whole.field-0.0 talk.0 (c.in_ok-stopped.ensures.copied bytes all) talk.1 talk.2)

pub returns-in-Some-clause-copied : goal.returns-in-Some-clause-copied
returns-in-Some-clause-copied g c = λ bytes all.
    let on = rw c.in-Some.is at (c.in_ok-stopped.ensures.copied bytes all) in
    let talk = rw c.as_slice.ensures.value at c.in_ok-write_whole.ensures.talk in
    rw c.from.ensures (stopped_early c.args.depth c.args.from c.args.to bytes (g.K.Sink.talk c.args.sink.now) (g.A.Source.left c.copy_on.new.source) (g.K.Sink.talk c.copy_on.new.sink) (g.K.Sink.talk c.write_whole.new.sink) c.copy_on.new.gathered.items c.in-Some.fault on talk)
