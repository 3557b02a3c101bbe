use Rattle.sip_helper.proofs.EachKind.{built_row, other_row}
use Rattle.sip_helper.proofs.laws.rows_go_by_what_is_built.Goals as goal

pub returns : goal.returns
returns c = record { built = built_row; others = other_row }
