-- What a past tells.
use Rattle.std.specs.Prelude.{List, [], ◌∷◌, ◌++◌}
use Rattle.sip_ports.specs.declared.port.TalkEvent.{TalkEvent}
use Rattle.sip_transcript.specs.declared.past.Past.{Past, Nothing, More'}

-- its events, the first first
abbrev pub events : Past → List TalkEvent
events Nothing = []
events (More' shape event before) = events before ++ event ∷ []
