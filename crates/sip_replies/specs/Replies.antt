-- Replies as bytes, by any protocol: what they state, their first fault, when they are accepted.
use Rattle.std.specs.Prelude.{◌≡◌, ◌≢◌, ◌≤◌, ◌<◌, ◌⊎◌, min, ℕ, zero, suc, ◌+◌, ◌==◌, Bool, true}
use Rattle.std.specs.Prelude.{◌&&◌, List, [], ◌∷◌, ◌++◌, length, drop, flat_map, Some, None, Result}
use Rattle.std.specs.Prelude.{Ok, Err, is_ok, IsTrue}
use Rattle.sip_ports.specs.declared.port.TalkEvent.{TalkEvent}
use Rattle.sip_ports.specs.declared.port.TalkEvent.TheVariants.{Ended}
use Rattle.sip_wire.specs.declared.kind.Place.{Place}
use Rattle.sip_wire.specs.declared.message.Message.{Message}
use Rattle.sip_wire.specs.declared.message.WireFault.{WireFault}
use Rattle.sip_wire.specs.declared.message.WireFault.TheVariants as faults
use Rattle.sip_wire.specs.declared.message.Reason.{Reason}
use Rattle.sip_wire.specs.declared.message.Reason.TheVariants as reasons
use Rattle.sip_wire.specs.declared.version.Version.{Version}
use Rattle.sip_wire.specs.Reading.{read_frame}
use Rattle.sip_vector.specs.Answers.{Answer}
use Rattle.sip_vector.specs.Steps.{◌>>=◌}
use Rattle.sip_replies.specs.declared.check.More.{More}
use Rattle.sip_replies.specs.declared.check.More.TheVariants as mores
use Rattle.sip_replies.specs.Protocols.{Rules, Protocol}

-- the reason that a frame's fault is
abbrev pub reason_of : WireFault → Reason
reason_of faults.BadKind = reasons.BadKind
reason_of faults.BadLength = reasons.BadLength
reason_of faults.BadCount = reasons.BadCount
reason_of faults.BadNumber = reasons.BadNumber
reason_of _ = reasons.Closed

-- ---- one frame

-- a fault, as the reason that it is
abbrev pub reasoned : {X : Type 0} → Result X WireFault → Result X Reason
reasoned (Ok x) = Ok x
reasoned (Err fault) = Err (reason_of fault)

-- the message at the front of the bytes, and what follows its frame; or why there is none
abbrev pub read_one : Version → Place → List ℕ → Result (Message × List ℕ) Reason
read_one version place bytes = reasoned (read_frame version place bytes)

-- ---- one reply

-- nothing stands behind the last frame of a reply
abbrev pub at_end : {X : Type 0} → X → List ℕ → Result X Reason
at_end x [] = Ok x
at_end x (b ∷ bytes) = Err reasons.BadLength

-- what follows a frame: `then` reads on where the reply goes on
abbrev pub goes_on : {S : Type 0} → (S → List ℕ → Result S Reason) → List ℕ → More → S
    → Result S Reason
goes_on then rest mores.Due s = then s rest
goes_on then rest mores.Complete s = at_end s rest

abbrev pub step_says : {S : Type 0} → (S → List ℕ → Result S Reason) → List ℕ
    → Result (More × S) Reason → Result S Reason
step_says then rest (Err reason) = Err reason
step_says then rest (Ok x) = goes_on then rest x.0 x.1

abbrev pub frame_says : {S : Type 0} → Rules S → (S → List ℕ → Result S Reason) → S
    → Result (Message × List ℕ) WireFault → Result S Reason
frame_says R then s (Err fault) = Err (reason_of fault)
frame_says R then s (Ok frame) = step_says then frame.1 (R.step s frame.0)

-- a reply from a frame on; it has at most n more frames
unfoldable pub read_from : {S : Type 0} → Rules S → ℕ → S → List ℕ → Result S Reason
read_from R zero s bytes = Err reasons.Closed
read_from R (suc n) s bytes =
    frame_says R (read_from R n) s (read_frame R.version (R.place s) bytes)

-- what a whole reply states, behind what was stated before it
abbrev pub read_reply : {S : Type 0} → Rules S → S → List ℕ → Result S Reason
read_reply R s bytes = read_from R (length bytes) s bytes

-- ---- all replies

-- their bytes, one after another
abbrev pub joined : List (List ℕ) → List ℕ
joined replies = flat_map (λ b. b) replies

-- the number of the reply, or d for the tests after the last one, and why it fails
pub record Fault : Type 0 where
  pub round : ℕ
  pub reason : Reason

abbrev pub in_round : {X : Type 0} → ℕ → Result X Reason → Result X Fault
in_round j (Ok x) = Ok x
in_round j (Err reason) = Err (record { round = j; reason = reason })

-- the next challenge, where there is one
abbrev pub learnt : {S : Type 0} → Rules S → List ℕ → S → S
learnt R [] s = s
learnt R (r ∷ rs) s = R.learn s r

-- the replies from j on, the challenges behind them being rs
unfoldable pub run_from : {S : Type 0} → Rules S → ℕ → List ℕ → S → List (List ℕ) → Result S Fault
run_from R j rs s [] = Ok s
run_from R j rs s (bytes ∷ more) =
    in_round j (read_reply R s bytes) >>= λ t. run_from R (j + 1) (drop 1 rs) (learnt R rs t) more

-- what replies state, or their first fault; a fault Closed says that a reply is not whole
abbrev pub run : {S : Type 0} → Rules S → List ℕ → List (List ℕ) → Result S Fault
run R rs replies = run_from R 0 rs R.start replies

-- the answer that all replies state, or the first fault: the one of a reply, or that of the tests
-- after the last one
abbrev pub verdict : {S : Type 0} → Protocol S → List ℕ → List (List ℕ) → Result Answer Fault
verdict P rs replies = run P.rules rs replies >>= λ s. in_round (length rs) (P.finish s)

-- the test that counts are about: there is a reply for each challenge, and no fault; or nothing is
-- asked
abbrev pub accepts : {S : Type 0} → Protocol S → List ℕ → List (List ℕ) → Bool
accepts P rs replies = elim P.unasked [
  | None ↦ (length replies == length rs) && is_ok (verdict P rs replies)
  | Some answer ↦ true
]

-- ---- replies that are still being taken

-- No reply has a fault, but that the last one may not be whole yet.
pub record IsUnfinished {S : Type 0} (R : Rules S) (rs : List ℕ) (replies : List (List ℕ))
    : Type 0 where
  pub few : length replies ≤ length rs
  pub passes : (fault : Fault) → run R rs replies ≡ Err fault
      → (fault.reason ≡ reasons.Closed) × (suc fault.round ≡ length replies)

-- fewer replies came than there are challenges, or the last one is not whole
abbrev pub IsMissing : {S : Type 0} → Rules S → List ℕ → List (List ℕ) → Type 0
IsMissing R rs replies =
    (length replies < length rs) ⊎ ((fault : Fault) × (run R rs replies ≡ Err fault))

-- the link's end may have been found behind bytes that are read so: then they are not whole
abbrev pub MayEnd : Type 0 → List TalkEvent → Type 0
MayEnd IsOpen ended = (ended ≡ []) ⊎ ((ended ≡ Ended ∷ []) × IsOpen)

-- What came of the last reply was not judged. The replies before it are whole and have no fault,
-- and no byte less of it ends it or shows a fault. The link's end may have been found behind it.
pub record IsUnjudged {S : Type 0} (P : Protocol S) (rs : List ℕ) (replies : List (List ℕ))
    (ended : List TalkEvent) : Type 0 where
  pub asked : P.unasked ≡ None
  pub earlier : List (List ℕ)
  pub last : List ℕ
  pub taken : replies ≡ earlier ++ last ∷ []
  pub few : length earlier < length rs
  pub passed : IsTrue (is_ok (run P.rules rs earlier))
  pub shortest : (front : List ℕ) (byte : ℕ) → last ≡ front ++ byte ∷ []
      → run P.rules rs (earlier ++ front ∷ [])
      ≡ Err (record { round = length earlier; reason = reasons.Closed })
  pub may_end : MayEnd (run P.rules rs replies
      ≡ Err (record { round = length earlier; reason = reasons.Closed })) ended

-- The replies taken have this first fault, and no byte less shows it. The last of them is the reply
-- of its round; a fault Closed is shown by the end of the link behind them.
pub record IsFaulty {S : Type 0} (P : Protocol S) (rs : List ℕ) (replies : List (List ℕ))
    (fault : Fault) : Type 0 where
  pub asked : P.unasked ≡ None
  pub taken : length replies ≡ min (suc fault.round) (length rs)
  pub found : verdict P rs replies ≡ Err fault
  pub shortest : (earlier : List (List ℕ)) (front : List ℕ) (byte : ℕ)
      → replies ≡ earlier ++ (front ++ byte ∷ []) ∷ [] → fault.reason ≢ reasons.Closed
      → run P.rules rs (earlier ++ front ∷ [])
      ≡ Err (record { round = length earlier; reason = reasons.Closed })

-- There is a reply for each challenge, and this answer is what they state.
pub record IsStated {S : Type 0} (P : Protocol S) (rs : List ℕ) (replies : List (List ℕ))
    (answer : Answer) : Type 0 where
  pub all : length replies ≡ length rs
  pub found : verdict P rs replies ≡ Ok answer

-- The replies are accepted with this answer. Where nothing is asked there are none, and the answer
-- is the one that is known.
abbrev pub IsAccepted : {S : Type 0} → Protocol S → List ℕ → List (List ℕ) → Answer → Type 0
IsAccepted P rs replies answer = elim P.unasked [
  | None ↦ IsStated P rs replies answer
  | Some known ↦ (replies ≡ []) × (answer ≡ known)
]
