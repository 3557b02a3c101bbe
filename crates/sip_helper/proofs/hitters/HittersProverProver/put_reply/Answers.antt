-- The end of the level is sent behind what is shown of it.
use Rattle.std.proofs.Common.{◌++◌, Result, sym, subst}
use Rattle.std.specs.List.{flat_map}
use Rattle.std.proofs.lemmas.Result.{err_from_is_err_and}
use Rattle.sip_ports.specs.declared.port.PortStop.{PortStop}
use Rattle.sip_ports.specs.Ports.{SendsWhole}
use Rattle.sip_wire.specs.declared.message.Message.TheVariants as messages
use Rattle.sip_wire.specs.Spelling.{spelling}
use Rattle.sip_field.specs.Moduli.{m61_modulus}
use Rattle.sip_heavy.specs.Honest.{opening_frames}
use Rattle.sip_helper.proofs.HitterReplies.{level_fits, reply_is}
use Rattle.sip_helper.proofs.Sending.{sends_after, stopped_in}
use Rattle.sip_helper.proofs.hitters.HittersProverProver.put_reply.Goals as goal

pub put_level-requires-clause-fit : goal.put_level-requires-clause-fit
put_level-requires-clause-fit g c =
    let stands = c.requires.stands in
    level_fits c.args.version stands.0 c.args._vectors.now c.args.revealed.now c.args.self.now stands.4 stands.1 stands.3

pub returns-in_err-put_level-clause-talk : goal.returns-in_err-put_level-clause-talk
returns-in_err-put_level-clause-talk g c =
    let version = c.args.version in
    let s = c.args.self.now in
    let stands = c.requires.stands in
    let before = g.K.Sink.talk c.args.out.now in
    let now = g.K.Sink.talk c.put_level.new.out in
    let p = err_from_is_err_and c.from_residual.result c.from_residual.ensures.1 in
    let reply = reply_is version stands.0 c.args._vectors.now c.args.revealed.now s stands.4 in
    subst (SendsWhole before now c.from_residual.result) (sym reply)
    (subst (λ (r : Result (Unit {0}) PortStop). SendsWhole before now r (flat_map (spelling version) (opening_frames m61_modulus s.prover) ++ spelling version messages.LevelEnd)) (sym p.1)
    (stopped_in before now c.in_err-put_level.field-0.0 p.0 (flat_map (spelling version) (opening_frames m61_modulus s.prover)) (spelling version messages.LevelEnd) c.in_err-put_level.ensures.talk))

pub returns-clause-talk : goal.returns-clause-talk
returns-clause-talk g c =
    let version = c.args.version in
    let s = c.args.self.now in
    let stands = c.requires.stands in
    let before = g.K.Sink.talk c.args.out.now in
    let now = g.K.Sink.talk c.put_level.new.out in
    let after = g.K.Sink.talk c.put_level_end.new.out in
    let reply = reply_is version stands.0 c.args._vectors.now c.args.revealed.now s stands.4 in
    subst (SendsWhole before after c.put_level_end.result) (sym reply)
    (sends_after before now after c.put_level_end.result (flat_map (spelling version) (opening_frames m61_modulus s.prover)) (spelling version messages.LevelEnd) c.in_ok-put_level.ensures.talk c.put_level_end.ensures.talk)
