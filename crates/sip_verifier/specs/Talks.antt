-- The order of bytes in a talk.
use Rattle.std.specs.Prelude.{ℕ, ◌-◌, ◌%◌, List, [], ◌∷◌, ◌++◌, length, map, take}
use Rattle.sip_ports.specs.declared.port.TalkEvent.{TalkEvent}
use Rattle.sip_vector.specs.declared.update.Update.{Update}
use Rattle.sip_vector.specs.Pieces.{cut}
use Rattle.sip_wire.specs.declared.message.Message.{Message}
use Rattle.sip_wire.specs.declared.message.Message.TheVariants as messages
use Rattle.sip_wire.specs.declared.version.Version.{Version}
use Rattle.sip_wire.specs.Versions.{number_of}
use Rattle.sip_wire.specs.Table.{most_rows}
use Rattle.sip_replies.specs.Talks.{sent}

-- updates in full frames, the last one the rest
abbrev pub update_frames : List Update → List Message
update_frames stream = map (λ us. messages.Updates (record { items = us })) (cut most_rows stream)

-- the updates that fill whole frames
abbrev pub whole_frames : List Update → List Update
whole_frames stream = take (length stream - length stream % most_rows) stream

-- the opening, and updates
abbrev pub opening_sent : Version → ℕ → List Update → List TalkEvent
opening_sent version depth stream =
    sent version (messages.Open (number_of version) depth ∷ update_frames stream)

-- the same, and the end of the stream
abbrev pub stream_sent : Version → ℕ → List Update → List TalkEvent
stream_sent version depth stream =
    opening_sent version depth stream ++ sent version (messages.EndStream ∷ [])

-- the farewell
abbrev pub bye_sent : Version → List TalkEvent
bye_sent version = sent version (messages.Bye ∷ [])
