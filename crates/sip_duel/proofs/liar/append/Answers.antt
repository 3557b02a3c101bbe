use Rattle.std.specs.Prelude.{take}
use Rattle.sip_ports.specs.Memory.{sink_bytes}
use Rattle.sip_duel.proofs.HonestLemmas.{appended}
use Rattle.sip_duel.proofs.LyingLemmas.{has_some}
use Rattle.sip_duel.proofs.liar.append.Goals as goal

pub returns-in-Ok-clause-all : goal.returns-in-Ok-clause-all
returns-in-Ok-clause-all c = (appended (sink_bytes c.args.out.now) (sink_bytes c.write_whole.new.sink) c.args.reply.now c.in-Ok.ensures.talk, has_some c.args.reply.now c.if-is_empty.ensures)

pub returns-in-Err-clause-all : goal.returns-in-Err-clause-all
returns-in-Err-clause-all c =
    let cut = c.in-Err.ensures.talk in
    (cut.0, cut.1, appended (sink_bytes c.args.out.now) (sink_bytes c.write_whole.new.sink) (take cut.0 c.args.reply.now) cut.2)
