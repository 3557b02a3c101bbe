use Rattle.sip_wire.specs.declared.message.Message.TheVariants as messages
use Rattle.sip_wire.proofs.Whole.{encoded}
use Rattle.sip_wire.proofs.encoding.put_updates.Goals as goal

pub returns : goal.returns
returns c = encoded c.args.version (messages.Updates (record { items = c.args.updates.now })) _ _ _ _ c.byte.result c.updates_len.result c.requires.fits c.requires.empty c.push.ensures.items c.byte.ensures c.updates_len.ensures.exact c.put_u16.ensures.bytes c.put_updates_body.ensures
