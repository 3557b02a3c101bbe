-- The records are heard, and what they come to is said.
use Rattle.std.proofs.Common.{[], inl, inr, refl}
use Rattle.sip_ports.proofs.TalkLemmas.{GoesOn-refl}
use Rattle.sip_steps.proofs.OverStore.{tells_all, tells_cut}
use Rattle.sip_steps.proofs.serving_store.recall.Goals as goal

pub hear_store-requires : goal.hear_store-requires
hear_store-requires g c = record { opened = c.requires.opened }

pub returns-in-Err-clause-tells : goal.returns-in-Err-clause-tells
returns-in-Err-clause-tells g c r refused is count = ([], GoesOn-refl (g.K.Sink.talk c.args.out.now), inl (record { silent = refl; why = c.in-Err.ensures.hears r refused is count }))

pub returns-in-Err-clause-memory : goal.returns-in-Err-clause-memory
returns-in-Err-clause-memory g c = λ e. inl (GoesOn-refl (g.K.Sink.talk c.args.out.now))

pub returns-in-Err-say_held-clause-tells : goal.returns-in-Err-say_held-clause-tells
returns-in-Err-say_held-clause-tells g c r refused is count =
    let hears = c.in-Ok.ensures.hears r refused is count in
    let cut = tells_cut r c.args.form (g.A.Source.left c.args.first.now) (g.A.Source.left c.hear_store.new.first) c.hear_store.new.self c.in-Ok.told hears c.version_due.result c.version_due.ensures (g.K.Sink.talk c.args.out.now) (g.K.Sink.talk c.say_held.new.out) c.in-Err-say_held.stop c.in-Err-say_held.ensures.talk in
    rw (c.from-in-Err-say_held.ensures, c.from.ensures) (cut.0, cut.1, inr cut.2)

pub returns-clause-tells : goal.returns-clause-tells
returns-clause-tells g c r refused is count =
    let hears = c.in-Ok.ensures.hears r refused is count in
    tells_all r c.args.form (g.A.Source.left c.args.first.now) (g.A.Source.left c.hear_store.new.first) c.hear_store.new.self c.in-Ok.told hears c.version_due.result c.version_due.ensures (g.K.Sink.talk c.args.out.now) (g.K.Sink.talk c.say_held.new.out) c.in_default.ensures.talk
