use Rattle.sip_sketch.proofs.Values.{from_all}
use Rattle.sip_sketch.proofs.Exact.{is_found, is_read}
use Rattle.sip_sketch.proofs.laws.reading_is_exact.Goals as goal

pub returns-clause-found : goal.returns-clause-found
returns-clause-found c =
    λ fields bytes values all e. is_found fields bytes values (from_all bytes all) e

pub returns-clause-only : goal.returns-clause-only
returns-clause-only c = is_read
