-- What is written of a transcript, part by part: its listing, or the transcript in version 2.
use Rattle.std.specs.Prelude.{ℕ, List, ◌++◌, length}
use Rattle.std.specs.List.{flat_map}
use Rattle.sip_wire.specs.declared.message.Message.{Message}
use Rattle.sip_wire.specs.declared.version.Version.{Version}
use Rattle.sip_wire.specs.declared.version.Version.TheVariants.{Two}
use Rattle.sip_wire.specs.Spelling.{spelling}
use Rattle.sip_wire.specs.Transcript.{ask_bytes, head_bytes}
use Rattle.sip_transcript.specs.declared.rendering.Rendering.{Rendering}
use Rattle.sip_transcript.specs.declared.rendering.Rendering.TheVariants.{Listing, Wide}
use Rattle.sip_transcript.specs.Heads.{Ask}
use Rattle.sip_transcript.specs.Listings.{depth_line, frame_line, numbered, query_line}
use Rattle.sip_transcript.specs.Tales.{Tale}

-- of a depth, and of how many queries there are
abbrev pub front_text : Rendering → ℕ → ℕ → List ℕ
front_text Listing depth count = depth_line depth
front_text Wide depth count = head_bytes Two depth count

-- of a query with its challenges, by its number
abbrev pub ask_text : Rendering → ℕ → Ask → List ℕ
ask_text Listing number ask = query_line number ask
ask_text Wide number ask = ask_bytes Two ask.0 ask.1

-- of a head
abbrev pub head_text : Rendering → ℕ → List Ask → List ℕ
head_text to depth asks = front_text to depth (length asks) ++ numbered (ask_text to) 1 asks

-- of a message in a version
abbrev pub reply_text : Rendering → Version → Message → List ℕ
reply_text Listing version m = frame_line m (spelling version m)
reply_text Wide version m = spelling Two m

-- of a whole tale
abbrev pub rendered : Rendering → Tale → List ℕ
rendered to tale =
    head_text to tale.depth tale.asks ++ flat_map (reply_text to tale.version) tale.replies
