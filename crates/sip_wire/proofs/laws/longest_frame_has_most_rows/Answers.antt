use Rattle.sip_wire.proofs.Longest.{spelling_at_most}
use Rattle.sip_wire.proofs.laws.longest_frame_has_most_rows.Goals as goal

pub returns-clause-most : goal.returns-clause-most
returns-clause-most c = spelling_at_most
