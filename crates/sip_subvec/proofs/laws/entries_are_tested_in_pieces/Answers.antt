use Rattle.sip_subvec.proofs.TakingSteps.{in_pieces, first_piece}
use Rattle.sip_subvec.proofs.laws.entries_are_tested_in_pieces.Goals as goal

pub returns : goal.returns
returns c = record { passed = in_pieces; refused = first_piece }
