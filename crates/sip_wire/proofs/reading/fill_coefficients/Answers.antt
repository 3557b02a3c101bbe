use Rattle.std.proofs.Common.{◌+◌, arith, length, lit<}
use Rattle.sip_wire.proofs.Powers.{power_long, power_read, power_bad}
use Rattle.sip_wire.proofs.reading.fill_coefficients.Goals as goal

pub fill_rows-requires : goal.fill_rows-requires
fill_rows-requires c =
    let long = power_long c.args.degree (length c.args.body.now) (c.args.degree + 1) (omega arith) c.requires in
    (lit< tt, (long.0, long.1))

pub returns-in-Some : goal.returns-in-Some
returns-in-Some c = power_read c.args.version c.args.degree (c.args.degree + 1) c.args.body.now c.fill_rows.new.rows (omega arith) c.requires c.in-Some.ensures.count c.in-Some.ensures.said c.in-Some.ensures.some

pub returns-in-None : goal.returns-in-None
returns-in-None c = power_bad c.args.version c.args.degree (c.args.degree + 1) c.args.body.now (omega arith) c.requires c.in-None.ensures.none
