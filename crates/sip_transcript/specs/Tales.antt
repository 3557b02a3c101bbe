-- What a transcript tells: a run, and what the helper said in it, as far as that can be read.
use Rattle.std.specs.Prelude.{◌≡◌, ℕ, zero, suc, ◌*◌, ◌-◌, All, IsTrue, List, [], ◌∷◌, length, drop}
use Rattle.std.specs.Prelude.{slice_index, Option, Some, None, Result, Ok, Err}
use Rattle.std.specs.List.{flat_map}
use Rattle.byteorder.specs.Endian.{big_number}
use Rattle.sip_vector.specs.declared.query.Query.{Query}
use Rattle.sip_wire.specs.declared.kind.Place.TheVariants.{ToHelper, ToVerifier}
use Rattle.sip_wire.specs.declared.message.Message.{Message}
use Rattle.sip_wire.specs.declared.message.Message.TheVariants as messages
use Rattle.sip_wire.specs.declared.message.WireFault.{WireFault}
use Rattle.sip_wire.specs.declared.version.Version.{Version}
use Rattle.sip_wire.specs.Reading.{read_frame}
use Rattle.sip_wire.specs.Spelling.{fits, kind_of, spelling}
use Rattle.sip_wire.specs.Table.{allows}
use Rattle.sip_wire.specs.Transcript.{transcript}
use Rattle.sip_wire.specs.Values.{InRange}
use Rattle.sip_transcript.specs.Fields.{asked_at, head_fault, version_of}
use Rattle.sip_transcript.specs.Heads.{Ask, IsRun}

-- The version and the depth of a run, its queries with their challenges, the messages of the helper
-- in order, and the bytes behind them: none, or bytes that begin with no whole frame to a verifier.
pub record Tale : Type 0 where
  pub version : Version
  pub depth : ℕ
  pub asks : List Ask
  pub replies : List Message
  pub rest : List ℕ

-- a message that a helper may send in a version
pub record IsReply (version : Version) (m : Message) : Type 0 where
  pub has_spelling : IsTrue (fits version m)
  pub allowed : IsTrue (allows ToVerifier (kind_of m))
  pub in_range : InRange m

-- bytes are the transcript of a run to its end, whose replies are these messages
pub record IsOfRun (bytes : List ℕ) : Type 0 where
  pub version : Version
  pub depth : ℕ
  pub asks : List Ask
  pub replies : List Message
  pub is_run : IsRun version depth asks
  pub are_replies : All (IsReply version) replies
  pub all : bytes ≡ transcript version depth asks (flat_map (spelling version) replies)

-- ---- the queries

-- so many numbers of eight bytes
unfoldable pub numbers_at : ℕ → List ℕ → List ℕ
numbers_at zero bytes = []
numbers_at (suc n) bytes = big_number 8 bytes ∷ numbers_at n (drop 8 bytes)

-- a query in front of bytes with so many challenges, and what is read behind them
abbrev pub ask_before : Version → ℕ → (List ℕ → List Ask × List ℕ) → List ℕ → Option Query
    → List Ask × List ℕ
ask_before version depth more bytes None = ([], bytes)
ask_before version depth more bytes (Some query) =
    let behind = drop (length (spelling version (messages.Query query))) bytes in
    let others = more (drop (8 * depth) behind) in
    ((query, numbers_at depth behind) ∷ others.0, others.1)

-- so many queries with their challenges, and what follows them
unfoldable pub asks_at : Version → ℕ → ℕ → List ℕ → List Ask × List ℕ
asks_at version depth zero bytes = ([], bytes)
asks_at version depth (suc n) bytes =
    ask_before version depth (asks_at version depth n) bytes
    (asked_at depth (read_frame version ToHelper bytes))

-- ---- the replies

-- a message in front of bytes, and what is read behind it
abbrev pub reply_before : (List ℕ → List Message × List ℕ) → List ℕ
    → Result (Message × List ℕ) WireFault → List Message × List ℕ
reply_before more bytes (Ok (m, rest)) = (m ∷ (more rest).0, (more rest).1)
reply_before more bytes (Err fault) = ([], bytes)

-- the messages to a verifier that bytes begin with, so many at most, and what follows them
unfoldable pub replies_at : Version → ℕ → List ℕ → List Message × List ℕ
replies_at version zero bytes = ([], bytes)
replies_at version (suc n) bytes =
    reply_before (replies_at version n) bytes (read_frame version ToVerifier bytes)

-- all of them: each has a byte at least
abbrev pub all_replies : Version → List ℕ → List Message × List ℕ
all_replies version bytes = replies_at version (length bytes) bytes

-- ---- the whole

-- what a transcript tells that begins with a head
abbrev pub tale_from : Version → ℕ → List Ask × List ℕ → Tale
tale_from version depth (asks, bytes) = record {
  version = version;
  depth = depth;
  asks = asks;
  replies = (all_replies version bytes).0;
  rest = (all_replies version bytes).1;
}

-- The same of its bytes. The three behind the magic say the version, the depth and how many
-- queries there are.
unfoldable pub tale_of : List ℕ → Tale
tale_of bytes =
    let version = version_of (slice_index bytes 4) in
    let depth = slice_index bytes 5 in
    tale_from version depth (asks_at version depth (slice_index bytes 6) (drop 7 bytes))

-- the place of what follows the replies, of so many bytes
abbrev pub rest_fault : ℕ → List ℕ → Option ℕ
rest_fault size [] = None
rest_fault size (byte ∷ rest) = Some (size - length (byte ∷ rest))

-- Where bytes stop being a transcript, if they do: where a field of the head is not there, or else
-- where the first frame begins that has no spelling to a verifier, or isn't whole.
unfoldable pub transcript_fault : List ℕ → Option ℕ
transcript_fault bytes = elim (head_fault bytes) [
  | Some at ↦ Some at
  | None ↦ rest_fault (length bytes) (tale_of bytes).rest
]

-- a text of what bytes tell, which is empty where the head is not there
unfoldable pub text_of : (Tale → List ℕ) → List ℕ → List ℕ
text_of text bytes = elim (head_fault bytes) [ Some at ↦ [] | None ↦ text (tale_of bytes) ]
