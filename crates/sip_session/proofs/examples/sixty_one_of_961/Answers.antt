-- All 961 vectors of challenges are tried.
use Rattle.std.proofs.Common.{refl}
use Rattle.sip_counts.specs.Counts.{sum_below, counted_from, counted}
use Rattle.sip_counts.specs.Joint.{is_misled}
use Rattle.sip_counts.specs.Late.{some_fooled}
use Rattle.sip_counts.specs.Strategies.{takes_wrong}
use Rattle.sip_replies.specs.Replies.{run_from, read_from}
use Rattle.sip_wire.specs.Reading.{read_frame}
use Rattle.sip_wire.specs.Spelling.{frame_fault, kind_fault, body_fault, asked, numbers_in, all_hold}
use Rattle.sip_session.proofs.examples.sixty_one_of_961.Goals as goal

pub returns-clause-misled : goal.returns-clause-misled
unfolding sum_below counted_from counted is_misled some_fooled takes_wrong run_from read_from read_frame frame_fault kind_fault body_fault asked numbers_in all_hold
returns-clause-misled c = refl
