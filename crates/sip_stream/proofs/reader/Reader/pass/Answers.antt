-- Records that are to be spelled in another form are left alone.
use Rattle.std.proofs.Common.{[], refl}
use Rattle.sip_stream.proofs.ManyRead.{HasRead-none}
use Rattle.sip_stream.proofs.reader.Reader.pass.Goals as goal

pub returns-in_default-clause-passed : goal.returns-in_default-clause-passed
returns-in_default-clause-passed c = ([], refl, HasRead-none c.args.self.now)
