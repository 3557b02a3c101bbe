-- A transcript: its head, which is what it begins with and each query with its challenges, and the
-- replies.
use Rattle.std.specs.Prelude.{ℕ, List, [], ◌∷◌, ◌++◌, length}
use Rattle.std.specs.List.{flat_map}
use Rattle.sip_vector.specs.declared.query.Query.{Query}
use Rattle.sip_wire.specs.declared.message.Message.TheVariants as messages
use Rattle.sip_wire.specs.declared.version.Version.{Version}
use Rattle.sip_wire.specs.Versions.{number_of}
use Rattle.sip_wire.specs.Spelling.{in_bytes, spelling}

-- the text SIPT
abbrev pub magic : List ℕ
magic = 0x53 ∷ 0x49 ∷ 0x50 ∷ 0x54 ∷ []

-- what the head begins with: the version, the depth, and the number of queries
abbrev pub head_bytes : Version → ℕ → ℕ → List ℕ
head_bytes version depth queries = magic ++ number_of version ∷ depth ∷ queries ∷ []

-- a query: its frame, and its challenges, each in eight bytes
unfoldable pub ask_bytes : Version → Query → List ℕ → List ℕ
ask_bytes version query challenges =
    spelling version (messages.Query query) ++ flat_map (in_bytes 8) challenges

-- a transcript: its head, and the bytes that were received from the helper, in order
abbrev pub transcript : Version → ℕ → List (Query × List ℕ) → List ℕ → List ℕ
transcript version depth asks replies = head_bytes version depth (length asks)
    ++ flat_map (λ ask. ask_bytes version ask.0 ask.1) asks ++ replies
