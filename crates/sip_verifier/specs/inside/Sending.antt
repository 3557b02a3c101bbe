-- How far a stream was sent: its updates wait until they fill a frame.
use Rattle.std.specs.Prelude.{◌≡◌, ℕ, ◌%◌, ◌<◌, List, ◌++◌, length, Option}
use Rattle.sip_ports.specs.declared.port.TalkEvent.{TalkEvent}
use Rattle.sip_ports.specs.Ports.{GoesOn}
use Rattle.sip_vector.specs.declared.update.Update.{Update}
use Rattle.sip_wire.specs.declared.version.Version.{Version}
use Rattle.sip_wire.specs.Table.{most_rows}
use Rattle.sip_replies.specs.Talks.{IsPrefix}
use Rattle.sip_verifier.specs.Talks.{whole_frames, opening_sent, stream_sent}

module _ (version : Version) (depth : ℕ) (old new : Option (List TalkEvent))
    (stream : List Update) where
  -- the opening and the stream's first updates were said, in whole frames, and these wait
  pub record IsSentBut (waiting : List Update) : Type 0 where
    pub sent : List Update
    pub order : stream ≡ sent ++ waiting
    pub whole : length sent % most_rows ≡ 0
    pub few : length waiting < most_rows
    pub talk : GoesOn old new (opening_sent version depth sent)

  -- a front was said of what goes out before the stream ends
  pub record IsStopped : Type 0 where
    pub said : List TalkEvent
    pub talk : GoesOn old new said
    pub order : IsPrefix said (opening_sent version depth (whole_frames stream))

  -- a front was said of what a whole stream sends, and not all of it
  pub record IsStoppedAtEnd : Type 0 where
    pub said : List TalkEvent
    pub talk : GoesOn old new said
    pub order : IsPrefix said (stream_sent version depth stream)
    pub short : length said < length (stream_sent version depth stream)
