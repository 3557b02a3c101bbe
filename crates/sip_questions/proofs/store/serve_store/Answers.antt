-- How a talk over a store ends, by where.
use Rattle.std.proofs.Common.{inl}
use Rattle.sip_questions.specs.StoreFronts.{asked_for}
use Rattle.sip_questions.proofs.StoreTalks.{answers_on, behind, held_cut, unasked_at_once, unheard_then, writes_nothing}
use Rattle.sip_questions.proofs.store.serve_store.Goals as goal

pub returns-in_default-clause-serves : goal.returns-in_default-clause-serves
returns-in_default-clause-serves g c = unasked_at_once c.args.form (g.A.Source.left c.args.first.now) (g.B.Source.left c.args.again.now) (g.L.Sink.talk c.args.link.now)

pub hear_store-requires : goal.hear_store-requires
hear_store-requires g c =
    let is = c.in-Ok-open.ensures.opens in
    record { opened = (is.recalls, is.refused, is.state, is.count) }

pub returns-in-Err-hear_store-clause-serves : goal.returns-in-Err-hear_store-clause-serves
returns-in-Err-hear_store-clause-serves g c =
    let is = c.in-Ok-open.ensures.opens in
    let hears = c.in-Err-hear_store.ensures.hears is.recalls is.refused is.state is.count in
    unheard_then c.args.form (g.A.Source.left c.args.first.now) (g.B.Source.left c.args.again.now) (g.L.Sink.talk c.args.link.now) _ _ _ c.in-Ok-open.asked is c.hear_store.new.self c.in-Err-hear_store.status hears

pub returns-in-Err-hear_store-clause-memory : goal.returns-in-Err-hear_store-clause-memory
returns-in-Err-hear_store-clause-memory g c = λ e.
    let is = c.in-Ok-open.ensures.opens in
    inl (writes_nothing _ _ (asked_for is.recalls) is.talk)

pub returns-in-Err-say_held-clause-serves : goal.returns-in-Err-say_held-clause-serves
returns-in-Err-say_held-clause-serves g c =
    let is = c.in-Ok-open.ensures.opens in
    let hears = c.in-Ok-hear_store.ensures.hears is.recalls is.refused is.state is.count in
    rw (c.from-in-Err-say_held-2.ensures, c.from-in-Err-say_held.ensures) (held_cut c.args.form (g.A.Source.left c.args.first.now) (g.B.Source.left c.args.again.now) (g.L.Sink.talk c.args.link.now) _ _ _ c.in-Ok-open.asked is c.hear_store.new.self c.in-Ok-hear_store.told hears c.version_due.result _ c.in-Err-say_held.stop c.version_due.ensures c.in-Err-say_held.ensures.talk)

pub talk_behind-how-requires : goal.talk_behind-how-requires
talk_behind-how-requires g c =
    let is = c.in-Ok-open.ensures.opens in
    let hears = c.in-Ok-hear_store.ensures.hears is.recalls is.refused is.state is.count in
    record { stands = (is.recalls, hears.0, behind c.args.form (g.A.Source.left c.args.first.now) (g.B.Source.left c.args.again.now) (g.L.Sink.talk c.args.link.now) _ _ _ c.in-Ok-open.asked is c.hear_store.new.self c.in-Ok-hear_store.told hears c.in-Ok-open.ensures.short) }

pub returns-clause-serves : goal.returns-clause-serves
returns-clause-serves g c =
    let is = c.in-Ok-open.ensures.opens in
    let hears = c.in-Ok-hear_store.ensures.hears is.recalls is.refused is.state is.count in
    let is_behind = behind c.args.form (g.A.Source.left c.args.first.now) (g.B.Source.left c.args.again.now) (g.L.Sink.talk c.args.link.now) _ _ _ c.in-Ok-open.asked is c.hear_store.new.self c.in-Ok-hear_store.told hears c.in-Ok-open.ensures.short in
    rw c.from-2.ensures (answers_on c.args.form (g.A.Source.left c.args.first.now) (g.B.Source.left c.args.again.now) (g.L.Sink.talk c.args.link.now) _ _ _ c.in-Ok-open.asked is c.hear_store.new.self c.in-Ok-hear_store.told hears c.version_due.result (g.L.Sink.talk c.say_held.new.out) _ _ c.talk_behind-how.result c.version_due.ensures c.in_default-say_held.ensures.talk (c.talk_behind-how.ensures.serves is.recalls hears.0 is_behind))
