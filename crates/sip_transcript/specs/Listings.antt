-- The listing of a transcript, line by line.
use Rattle.std.specs.Prelude.{ℕ, suc, List, [], ◌∷◌, ◌++◌, codes, decimal, drop}
use Rattle.std.specs.List.{flat_map}
use Rattle.hex.specs.Hex.{encode_lower}
use Rattle.sip_vector.specs.declared.query.Query.{Query}
use Rattle.sip_wire.specs.declared.message.Message.{Message}
use Rattle.sip_wire.specs.declared.message.Message.TheVariants as messages
use Rattle.sip_wire.specs.Spelling.{in_bytes, spelling}
use Rattle.sip_verifier.specs.Reports.{query_word}
use Rattle.sip_transcript.specs.Heads.{Ask}
use Rattle.sip_transcript.specs.Tales.{Tale}

-- ---- the head

-- a challenge behind a space, in 16 digits
abbrev pub challenge_text : ℕ → List ℕ
challenge_text challenge = 32 ∷ encode_lower (in_bytes 8 challenge)

abbrev pub depth_line : ℕ → List ℕ
depth_line depth = codes "depth " ++ decimal depth ++ 10 ∷ []

-- what the line of a query begins with, which has a number
abbrev pub query_front : ℕ → Query → List ℕ
query_front number query =
    codes "query " ++ decimal number ++ codes " " ++ query_word query ++ codes " challenges"

-- the line of a query, with its number
abbrev pub query_line : ℕ → Ask → List ℕ
query_line number ask =
    query_front number ask.0 ++ flat_map challenge_text ask.1 ++ 10 ∷ []

-- what is written of several, which are numbered on
abbrev pub numbered : {T : Type 0} → (ℕ → T → List ℕ) → ℕ → List T → List ℕ
numbered text number [] = []
numbered text number (x ∷ xs) = text number x ++ numbered text (suc number) xs

-- ---- the replies

abbrev pub message_name : Message → List ℕ
message_name (messages.Open _ _) = codes "Open"
message_name (messages.Updates _) = codes "Updates"
message_name messages.EndStream = codes "EndStream"
message_name (messages.Query _) = codes "Query"
message_name (messages.Reveal _) = codes "Reveal"
message_name messages.Bye = codes "Bye"
message_name (messages.Claim _) = codes "Claim"
message_name (messages.Poly _ _ _) = codes "Poly"
message_name (messages.Entries _) = codes "Entries"
message_name (messages.Siblings _ _) = codes "Siblings"
message_name (messages.Leaves _) = codes "Leaves"
message_name (messages.Nodes _) = codes "Nodes"
message_name messages.LevelEnd = codes "LevelEnd"
message_name (messages.Refuse _) = codes "Refuse"
message_name (messages.AskLook _ _) = codes "AskLook"
message_name (messages.Found _ _) = codes "Found"
message_name messages.End = codes "End"
message_name (messages.AskMoment _ _) = codes "AskMoment"
message_name (messages.Held _) = codes "Held"
message_name (messages.Recall _) = codes "Recall"
message_name (messages.Marks _) = codes "Marks"
message_name (messages.Power _) = codes "Power"

-- a body in hexadecimal, and a dash for none
abbrev pub body_text : List ℕ → List ℕ
body_text [] = codes "-"
body_text (byte ∷ body) = encode_lower (byte ∷ body)

-- the line of a frame: its message's name, and the body behind the three bytes of its head
abbrev pub frame_line : Message → List ℕ → List ℕ
frame_line m frame =
    codes "frame " ++ message_name m ++ codes " " ++ body_text (drop 3 frame) ++ 10 ∷ []

-- ---- the whole

-- the depth, the queries from number 1 on, and the frames of the replies
abbrev pub listing : Tale → List ℕ
listing tale =
    depth_line tale.depth ++ numbered query_line 1 tale.asks
    ++ flat_map (λ m. frame_line m (spelling tale.version m)) tale.replies
