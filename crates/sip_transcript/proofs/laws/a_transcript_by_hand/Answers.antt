use Rattle.std.proofs.Common.{refl}
use Rattle.std.specs.Fmt.{digits}
use Rattle.hex.specs.Hex.{encode_with}
use Rattle.sip_wire.specs.Reading.{read_frame}
use Rattle.sip_wire.specs.Spelling.{all_hold, asked, body_fault, frame_fault, in_bytes, kind_fault, numbers_in, spelled, spelling}
use Rattle.sip_transcript.specs.Fields.{head_fault}
use Rattle.sip_transcript.specs.Tales.{asks_at, numbers_at, replies_at, tale_of, text_of, transcript_fault}
use Rattle.sip_transcript.proofs.laws.a_transcript_by_hand.Goals as goal

pub returns-clause-whole : goal.returns-clause-whole
unfolding head_fault read_frame asked frame_fault kind_fault body_fault numbers_in all_hold in_bytes spelled spelling asks_at numbers_at replies_at tale_of text_of transcript_fault encode_with digits
returns-clause-whole c = refl

pub returns-clause-lines : goal.returns-clause-lines
unfolding head_fault read_frame asked frame_fault kind_fault body_fault numbers_in all_hold in_bytes spelled spelling asks_at numbers_at replies_at tale_of text_of transcript_fault encode_with digits
returns-clause-lines c = refl

pub returns-clause-cut : goal.returns-clause-cut
unfolding head_fault read_frame asked frame_fault kind_fault body_fault numbers_in all_hold in_bytes spelled spelling asks_at numbers_at replies_at tale_of text_of transcript_fault encode_with digits
returns-clause-cut c = refl

pub returns-clause-fewer : goal.returns-clause-fewer
unfolding head_fault read_frame asked frame_fault kind_fault body_fault numbers_in all_hold in_bytes spelled spelling asks_at numbers_at replies_at tale_of text_of transcript_fault encode_with digits
returns-clause-fewer c = refl

pub returns-clause-longer : goal.returns-clause-longer
unfolding head_fault read_frame asked frame_fault kind_fault body_fault numbers_in all_hold in_bytes spelled spelling asks_at numbers_at replies_at tale_of text_of transcript_fault encode_with digits
returns-clause-longer c = refl

pub returns-clause-no_head : goal.returns-clause-no_head
unfolding head_fault read_frame asked frame_fault kind_fault body_fault numbers_in all_hold in_bytes spelled spelling asks_at numbers_at replies_at tale_of text_of transcript_fault encode_with digits
returns-clause-no_head c = refl
