use Rattle.std.proofs.Common.{refl}
use Rattle.std.specs.Fmt.{digits}
use Rattle.sip_stream.specs.Spellings.{line_bytes}
use Rattle.sip_stream.proofs.laws.spellings.lines_of_two.Goals as goal

pub returns-clause-first : goal.returns-clause-first
unfolding line_bytes digits
returns-clause-first c = refl

pub returns-clause-second : goal.returns-clause-second
unfolding line_bytes digits
returns-clause-second c = refl
