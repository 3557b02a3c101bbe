-- Each form has room for the items of the depth.
use Rattle.std.proofs.Common.{arith}
use Rattle.sip_cli.proofs.RunLemmas.{room_for}
use Rattle.sip_cli.proofs.copying.copy_stream.Goals as goal

pub copy-requires : goal.copy-requires
copy-requires g c = room_for _ _ (omega arith) c.requires
