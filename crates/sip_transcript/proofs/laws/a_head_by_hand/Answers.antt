use Rattle.std.proofs.Common.{refl}
use Rattle.sip_wire.specs.Reading.{read_frame}
use Rattle.sip_wire.specs.Spelling.{all_hold, asked, body_fault, frame_fault, in_bytes, kind_fault, numbers_in, spelled, spelling}
use Rattle.sip_transcript.specs.Fields.{head_fault}
use Rattle.sip_transcript.proofs.laws.a_head_by_hand.Goals as goal

pub returns-clause-whole : goal.returns-clause-whole
unfolding head_fault read_frame asked frame_fault kind_fault body_fault numbers_in all_hold in_bytes spelled spelling
returns-clause-whole c = refl

pub returns-clause-cut : goal.returns-clause-cut
unfolding head_fault read_frame asked frame_fault kind_fault body_fault numbers_in all_hold in_bytes spelled spelling
returns-clause-cut c = refl

pub returns-clause-query : goal.returns-clause-query
unfolding head_fault read_frame asked frame_fault kind_fault body_fault numbers_in all_hold in_bytes spelled spelling
returns-clause-query c = refl

pub returns-clause-text : goal.returns-clause-text
unfolding head_fault read_frame asked frame_fault kind_fault body_fault numbers_in all_hold in_bytes spelled spelling
returns-clause-text c = refl
