-- What reading a frame that is at hand answers, at each of its ends, and how many bytes are taken of
-- a frame that comes in pieces.
use Rattle.std.proofs.Common.{◌≡◌, ◌⊎◌, ℕ, ◌+◌, ◌-◌, ◌<◌, ◌≤◌, Some, Result, Ok, Err, List, ◌++◌, length, drop, inl, inr, refl, sym, ap, subst, ◌∙◌, arith, length-append}
use Rattle.std.specs.Prelude.{IsTrue}
use Rattle.std.proofs.lemmas.Bool.{cases_lt, le-ltb, lt-ltb}
use Rattle.sip_wire.specs.declared.kind.Kind.{Kind}
use Rattle.sip_wire.specs.declared.kind.Place.{Place}
use Rattle.sip_wire.specs.declared.version.Version.{Version}
use Rattle.sip_wire.specs.declared.message.Message.{Message}
use Rattle.sip_wire.specs.declared.message.WireFault.{WireFault}
use Rattle.sip_wire.specs.declared.message.WireFault.TheVariants as faults
use Rattle.sip_wire.specs.Table.{longest_frame, shape}
use Rattle.sip_wire.specs.Spelling.{body_fault, kind_fault, frame_fault, asked, ReadsBody}
use Rattle.sip_wire.specs.Reading.{read_frame}
use Rattle.sip_wire.specs.Decoding.{IsBytes, Head}
use Rattle.sip_wire.specs.AtHand.{Reads}
use Rattle.sip_wire.specs.Taking.{ShowsFault, room_for}
use Rattle.sip_wire.proofs.Answering.{whole_spelling}
use Rattle.sip_wire.specs.Faults.{IsOfBytes}
use Rattle.sip_wire.proofs.Whole.{past_length, past_head, of_body, spelled_back, asked_whole}
use Rattle.sip_wire.proofs.ReadingLaws.{asked-append, asked-least, asked-most, read_frame-closed, read_frame-fault}

-- a head asks for itself and its body
pub asked_of : (version : Version) (place : Place) (bytes : List ℕ) (kind : Kind) (len : ℕ) → Head version place bytes kind len → asked version place bytes ≡ 3 + len
asked_of version place bytes kind len is = asked_whole version place bytes kind is.its_kind is.allowed (rw (← is.its_length) is.has_length) ∙ ap (λ (n : ℕ). 3 + n) (sym is.its_length)

-- the fault of a whole frame is that of its body
fault_of : (version : Version) (place : Place) (bytes : List ℕ) (kind : Kind) (len : ℕ) → 3 ≤ length bytes → Head version place bytes kind len → length bytes ≡ 3 + len → frame_fault version place bytes ≡ body_fault (shape version kind) (drop 3 bytes)
fault_of version place bytes kind len three is all =
    past_length version place bytes three ∙ ap (λ o. kind_fault version place o bytes) is.its_kind ∙ past_head version place kind bytes is.allowed (rw (← is.its_length) is.has_length) (omega (arith, all, is.its_length))

-- as many bytes as the head asks for, where no more are there and not fewer
pub all_there : (version : Version) (place : Place) (bytes : List ℕ) (kind : Kind) (len : ℕ) → length bytes ≤ asked version place bytes → Head version place bytes kind len → 3 + len ≤ length bytes → length bytes ≡ 3 + len
all_there version place bytes kind len most is least = omega (arith, most, least, asked_of version place bytes kind len is)

-- they hold a body of a length that the kind has
pub body_there : (version : Version) (place : Place) (bytes : List ℕ) (kind : Kind) (len : ℕ) → Head version place bytes kind len → length bytes ≡ 3 + len → IsTrue ((shape version kind).has_length (length bytes - 3))
body_there version place bytes kind len is all = let same : length bytes - 3 ≡ len = omega (arith, all) in rw same is.has_length

-- fewer than three bytes are no whole frame
pub no_head_yet : (version : Version) (place : Place) (bytes : List ℕ) → length bytes < 3 → read_frame version place bytes ≡ Err faults.Closed
no_head_yet version place bytes less = read_frame-closed version place bytes (omega (arith, less, asked-least version place bytes))

-- and fewer than head and body are none
pub no_body_yet : (version : Version) (place : Place) (bytes : List ℕ) (kind : Kind) (len : ℕ) → Head version place bytes kind len → length bytes < 3 + len → read_frame version place bytes ≡ Err faults.Closed
no_body_yet version place bytes kind len is less = read_frame-closed version place bytes (omega (arith, less, asked_of version place bytes kind len is))

-- a whole frame is its message, or has the fault of its body
pub read_whole : (version : Version) (place : Place) (bytes : List ℕ) (kind : Kind) (len : ℕ) (r : Result Message WireFault) → 3 ≤ length bytes → Head version place bytes kind len → length bytes ≡ 3 + len → IsBytes bytes
    → ReadsBody version kind (drop 3 bytes) r → Reads version place bytes r
read_whole version place bytes kind len (Ok m) three is all fit read =
    let spelled = spelled_back version place bytes kind m fit (all ∙ ap (λ (n : ℕ). 3 + n) is.its_length) is.its_kind is.allowed read.0 read.1 in
    record { has_spelling = spelled.0; allowed = spelled.1; in_range = read.2; spelled = spelled.2; read = whole_spelling version place bytes m spelled.0 spelled.1 read.2 spelled.2 }
read_whole version place bytes kind len (Err f) three is all fit read =
    read_frame-fault version place bytes f (fault_of version place bytes kind len three is all ∙ read) (omega (arith, all, asked_of version place bytes kind len is))

-- a whole frame that is no message shows the fault of its body
pub body_shows : (version : Version) (place : Place) (bytes : List ℕ) (kind : Kind) (len : ℕ) (f : WireFault) → 3 ≤ length bytes → Head version place bytes kind len → length bytes ≡ 3 + len → IsBytes bytes
    → ReadsBody version kind (drop 3 bytes) (Err f) → ShowsFault version place bytes f
body_shows version place bytes kind len f three is all fit read =
    record { shown = of_body (shape version kind) (drop 3 bytes) f read; read = read_whole version place bytes kind len (Err f) three is all fit read }

-- fewer than three bytes are fewer than a frame has
pub under_head : (version : Version) (place : Place) (bytes : List ℕ) → length bytes < 3 → length bytes < asked version place bytes
under_head version place bytes less = omega (arith, less, asked-least version place bytes)

-- and so are fewer than head and body
pub under_body : (version : Version) (place : Place) (bytes : List ℕ) (kind : Kind) (len : ℕ) → Head version place bytes kind len → length bytes < 3 + len → length bytes < asked version place bytes
under_body version place bytes kind len is less = omega (arith, less, asked_of version place bytes kind len is)

-- a body never has the fault of a frame that isn't whole
pub never_closed : (version : Version) (kind : Kind) (body : List ℕ) (f : WireFault) → body_fault (shape version kind) body ≡ Some f → f ≡ faults.Closed → ⊥
never_closed version kind body f read e = subst IsOfBytes e (of_body (shape version kind) body f read)

-- ---- bytes that are put behind each other

-- fewer than three bytes take what is missing of three
pub room_in_head : (version : Version) (place : Place) (bytes : List ℕ) (n : ℕ) → length bytes < 3 → n ≡ 3 - length bytes → n ≡ room_for version place bytes
room_in_head version place bytes n less is = is ∙ rw (lt-ltb (length bytes) 3 less) refl

-- three bytes or more take what is missing of the frame
pub room_in_body : (version : Version) (place : Place) (bytes : List ℕ) (n : ℕ) → 3 ≤ length bytes → n ≡ asked version place bytes - length bytes → n ≡ room_for version place bytes
room_in_body version place bytes n three is = is ∙ rw (le-ltb (length bytes) 3 three) refl

-- what is taken, by how much is there
taken_by : (version : Version) (place : Place) (bytes : List ℕ) (n : ℕ) → n ≤ room_for version place bytes
    → ((length bytes < 3) × (n ≤ 3 - length bytes)) ⊎ ((3 ≤ length bytes) × (n ≤ asked version place bytes - length bytes))
taken_by version place bytes n le =
    elim (cases_lt (length bytes) 3) [
      | inl less ↦ inl (less, rw (room_in_head version place bytes (3 - length bytes) less refl) le)
      | inr three ↦ inr (three, rw (room_in_body version place bytes (asked version place bytes - length bytes) three refl) le)
    ]

-- the longest frame has room for what is taken
pub room_fits : (version : Version) (place : Place) (bytes : List ℕ) (n : ℕ) → length bytes ≤ longest_frame → n ≤ room_for version place bytes → length bytes + n ≤ longest_frame
room_fits version place bytes n most le =
    elim (taken_by version place bytes n le) [
      | inl head ↦ omega (arith, head.0, head.1)
      | inr body ↦ omega (arith, body.0, body.1, most, asked-most version place bytes)
    ]

-- no more is taken than the frame has
pub put_within : (version : Version) (place : Place) (bytes more : List ℕ) → length more ≤ room_for version place bytes → length bytes ≤ asked version place bytes → length (bytes ++ more) ≤ asked version place (bytes ++ more)
put_within version place bytes more le within =
    elim (taken_by version place bytes (length more) le) [
      | inl head ↦ omega (arith, head.0, head.1, length-append bytes more, asked-least version place (bytes ++ more))
      | inr body ↦ omega (arith, body.0, body.1, within, length-append bytes more, asked-append version place bytes more body.0)
    ]
