use Rattle.std.proofs.Common.{◌∙◌, ap}
use Rattle.sip_wire.specs.Table.{byte_of}
use Rattle.sip_wire.proofs.Whole.{encoded}
use Rattle.sip_wire.proofs.encoding.put_frame.Goals as goal

pub returns : goal.returns
returns c = encoded c.args.version c.args.message.now _ _ _ _ c.byte.result c.body_len.result c.requires.fits c.requires.empty c.push.ensures.items (c.byte.ensures ∙ ap byte_of c.kind.ensures) c.body_len.ensures.exact c.put_u16.ensures.bytes c.put_body.ensures
