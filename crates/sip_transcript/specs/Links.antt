-- What is seen of a link over a source.
use Rattle.std.specs.Prelude.{ℕ, List, Option}
use Rattle.sip_ports.specs.declared.port.TalkEvent.{TalkEvent}
use Rattle.sip_transcript.specs.Pasts.{events}
use Rattle.sip_transcript.specs.declared.link.TranscriptLink.{TranscriptLink}
use Rattle.sip_transcript.specs.declared.loan.Loan.{Ghosts}
use Rattle.sip_transcript.specs.declared.loan.Origin.{Ghosts as Origins}

-- all that has happened on it
abbrev pub link_talk : {T O : Type 0} {t : Ghosts T} {o : Origins O}
    → TranscriptLink T O t o → List TalkEvent
link_talk link = events link.past

-- the loan of the source that its replies come out of
abbrev pub link_source : {T O : Type 0} {t : Ghosts T} {o : Origins O}
    → TranscriptLink T O t o → T
link_source link = link.source

-- what is left of its replies, where the source tells it
abbrev pub link_left : {T O : Type 0} {t : Ghosts T} {o : Origins O}
    → TranscriptLink T O t o → Option (List ℕ)
link_left {t = t} link = t.left link.source

-- how often the source has failed
abbrev pub link_faults : {T O : Type 0} {t : Ghosts T} {o : Origins O}
    → TranscriptLink T O t o → ℕ
link_faults {t = t} link = t.faults link.source

-- how often memory was refused to the source
abbrev pub link_wants : {T O : Type 0} {t : Ghosts T} {o : Origins O}
    → TranscriptLink T O t o → ℕ
link_wants {t = t} link = t.wants link.source

-- the source never fails
abbrev pub link_is_sure : {T O : Type 0} {t : Ghosts T} {o : Origins O}
    → TranscriptLink T O t o → Type 0
link_is_sure {t = t} link = t.is_sure link.source
