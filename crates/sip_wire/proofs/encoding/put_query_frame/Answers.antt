use Rattle.std.proofs.Common.{length, ap, arith, lit<}
use Rattle.sip_wire.specs.declared.message.Message.TheVariants as messages
use Rattle.sip_wire.proofs.Asking.{query-shape-fits}
use Rattle.sip_wire.proofs.Whole.{encoded}
use Rattle.sip_wire.proofs.encoding.put_query_frame.Goals as goal

pub put_query-requires : goal.put_query-requires
put_query-requires c =
    (lit< tt, (query-shape-fits c.args.version c.args.query c.requires.fits, omega (arith, ap length c.requires.empty, c.push.ensures.len, c.put_u16.ensures.len)))

pub returns : goal.returns
returns c = encoded c.args.version (messages.Query c.args.query) _ _ _ _ c.byte.result c.query_len.result c.requires.fits c.requires.empty c.push.ensures.items c.byte.ensures c.query_len.ensures c.put_u16.ensures.bytes c.put_query.ensures
