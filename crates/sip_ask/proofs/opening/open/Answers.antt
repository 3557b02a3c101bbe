-- What was sent, and what was heard behind it.
use Rattle.std.proofs.lemmas.Result.{err_from_is_err_and}
use Rattle.sip_ask.proofs.HeldHeard.{cut_short, unheard_behind}
use Rattle.sip_ask.proofs.opening.open.Goals as goal

pub returns-in_err-on_link-clause-opens : goal.returns-in_err-on_link-clause-opens
returns-in_err-on_link-clause-opens g c =
    let (stop, is, same) = c.in_err-on_link.ensures in
    let p = err_from_is_err_and c.from_residual.result c.from_residual.ensures.1 in
    let (n, less, went) = rw is at c.recall.ensures.talk in
    rw (p.1, p.2) (cut_short c.args.version c.args.depth c.args.tally.now (g.L.Sink.talk c.args.link.now) (g.L.Sink.talk c.args.link.now) (g.L.Sink.talk c.recall.new.sink) stop c.in_err-on_link.field-0.0 same n went)

pub returns-in_err-held-clause-opens : goal.returns-in_err-held-clause-opens
returns-in_err-held-clause-opens g c =
    let p = err_from_is_err_and c.from_residual-in_err-held.result c.from_residual-in_err-held.ensures.1 in
    let went = rw c.in_ok-on_link.ensures at c.recall.ensures.talk in
    rw (p.1, p.2) (unheard_behind c.args.version c.args.depth c.args.tally.now (g.L.Sink.talk c.args.link.now) (g.L.Sink.talk c.recall.new.sink) (g.L.Sink.talk c.hear_held.new.link) went c.in_err-held.field-0.0 c.in_err-held.ensures.hears)
