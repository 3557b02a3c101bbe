use Rattle.std.proofs.Common.{refl, arith}
use Rattle.sip_keeping.proofs.AskNamed.{all_named, long_enough}
use Rattle.sip_keeping.proofs.ask_plan.ask_ports.Goals as goal

pub returns-clause-opens : goal.returns-clause-opens
returns-clause-opens c =
    let long = long_enough c.args.words.now c.requires in
    record { from = c.named.ensures (omega arith); to = refl }

pub returns-clause-named : goal.returns-clause-named
returns-clause-named c =
    let long = long_enough c.args.words.now c.requires in
    all_named c.args.words.now _ c.requires (record { from = c.named.ensures (omega arith); to = refl })
