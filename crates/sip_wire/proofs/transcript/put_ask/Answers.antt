use Rattle.std.proofs.Common.{◌≡◌, ◌++◌, ℕ, List, length, take, ap, subst, ◌∙◌, arith, take_all}
use Rattle.std.specs.List.{flat_map}
use Rattle.sip_ports.specs.Ports.{SendsWhole}
use Rattle.sip_wire.specs.Spelling.{in_bytes}
use Rattle.sip_wire.specs.Transcript.{ask_bytes}
use Rattle.sip_wire.proofs.Asking.{query-fits, query-length}
use Rattle.sip_wire.proofs.transcript.put_ask.Goals as goal

pub put_query_frame-requires-clause-fits : goal.put_query_frame-requires-clause-fits
put_query_frame-requires-clause-fits g c = query-fits c.args.version (length c.args.seat.now) c.args.query.now c.requires.speaks c.requires.fits

pub put_u64-requires : goal.put_u64-requires
put_u64-requires g c =
    let fit = query-fits c.args.version (length c.args.seat.now) c.args.query.now c.requires.speaks c.requires.fits in
    let frame = query-length c.args.version c.args.query.now fit in
    let len = ap length c.put_query_frame.ensures in
    omega (arith, c.loop-level.invariant.len)

pub returns-clause-talk : goal.returns-clause-talk
unfolding ask_bytes
returns-clause-talk g c =
    let P : List ℕ → Type 0 = λ b. SendsWhole (g.K.Sink.talk c.args.sink.now) (g.K.Sink.talk c.write_whole.new.sink) c.write_whole.result b in
    let all : take c.loop-level.level c.args.seat.now ≡ c.args.seat.now = take_all c.loop-level.level c.args.seat.now (omega arith) in
    let bytes = c.deref.ensures.0 ∙ c.loop-level.invariant.put ∙ ap (λ (b : List ℕ). b ++ flat_map (in_bytes 8) (take c.loop-level.level c.args.seat.now)) c.put_query_frame.ensures ∙ ap (λ (rs : List ℕ). ask_bytes c.args.version c.args.query.now rs) all in
    subst P bytes c.write_whole.ensures.talk
