-- A later reply is one frame of siblings, and what it states does not rest on what was stated before.
use Rattle.std.proofs.Common.{◌≡◌, ℕ, true, Result, Ok, Err, List, [], ◌∷◌, ◌++◌, refl, sym, ap, ◌∙◌}
use Rattle.sip_vector.specs.declared.update.Entry.{Entry}
use Rattle.sip_vector.specs.Steps.{◌>>=◌}
use Rattle.sip_wire.specs.declared.kind.Place.TheVariants as places
use Rattle.sip_wire.specs.declared.message.Message.{Message}
use Rattle.sip_wire.specs.declared.message.Message.TheVariants as messages
use Rattle.sip_wire.specs.declared.message.Reason.{Reason}
use Rattle.sip_wire.specs.declared.message.Reason.TheVariants as reasons
use Rattle.sip_wire.specs.declared.message.WireFault.{WireFault}
use Rattle.sip_wire.specs.declared.version.Version.{Version}
use Rattle.sip_wire.specs.Reading.{read_frame}
use Rattle.sip_replies.specs.declared.check.More.TheVariants as mores
use Rattle.sip_replies.specs.Replies as general
use Rattle.sip_replies.specs.Replies.{reason_of, at_end, read_reply}
use Rattle.sip_replies.proofs.Reading.{read_reply-frame}
use Rattle.sip_replies.proofs.Passing.{step_passed, at_end_is}
use Rattle.sip_subvec.specs.AcceptsSub.{Siblings, Stated}
use Rattle.sip_subvec.specs.Protocol.{at_level, sub_step, sub_rules}
use Rattle.sip_subvec.specs.Replies.{are_asked, asked_siblings}
use Rattle.sip_subvec.proofs.Passing.{siblings_passed}

-- what a message and what follows it say
abbrev message_says : ℕ → ℕ → List ℕ → Message → Result Siblings Reason
message_says lo hi rest (messages.Siblings left right) =
    asked_siblings lo hi (record { left = left; right = right }) >>= λ s. at_end s rest
message_says lo hi rest (messages.Refuse code) = Err (reasons.Refused code)
message_says lo hi rest _ = Err reasons.BadKind

-- what a frame and what follows it say
abbrev frame_says : ℕ → ℕ → Result (Message × List ℕ) WireFault → Result Siblings Reason
frame_says lo hi (Err fault) = Err (reason_of fault)
frame_says lo hi (Ok frame) = message_says lo hi frame.1 frame.0

-- the siblings that a later reply states, for an interval of its level
pub later_reply : Version → ℕ → ℕ → List ℕ → Result Siblings Reason
later_reply version lo hi bytes = frame_says lo hi (read_frame version places.Siblings bytes)

-- ---- by the protocol

-- what was stated, with siblings behind it
abbrev pub with_siblings : Stated → Siblings → Stated
with_siblings s x = record s { siblings = s.siblings ++ x ∷ [] }

abbrev pub known : List Entry → Siblings → List Siblings → Stated
known es x xs = record { entries = es; siblings = x ∷ xs }

-- nothing stands behind the siblings
ended : (s : Stated) (x : Siblings) (rest : List ℕ)
    → at_end (with_siblings s x) rest ≡ (at_end x rest >>= λ y. Ok (with_siblings s y))
ended s x [] = refl
ended s x (b ∷ rest) = refl

siblings_step : (f : Stated → List ℕ → Result Stated Reason) (s : Stated) (rest : List ℕ)
    (r : Result Siblings Reason)
    → general.step_says f rest (r >>= λ x. Ok (mores.Complete, with_siblings s x))
    ≡ ((r >>= λ x. at_end x rest) >>= λ y. Ok (with_siblings s y))
siblings_step f s rest (Ok x) = ended s x rest
siblings_step f s rest (Err reason) = refl

module _ (lo hi : ℕ) (es : List Entry) (x : Siblings) (xs : List Siblings) where
  -- one message
  step : (f : Stated → List ℕ → Result Stated Reason) (rest : List ℕ) (m : Message)
      → general.step_says f rest (sub_step lo hi (known es x xs) m)
      ≡ (message_says (at_level (x ∷ xs) lo) (at_level (x ∷ xs) hi) rest m
      >>= λ y. Ok (with_siblings (known es x xs) y))
  step f rest (messages.Entries rows) = refl
  step f rest (messages.Siblings left right) =
      siblings_step f (known es x xs) rest
      (asked_siblings (at_level (x ∷ xs) lo) (at_level (x ∷ xs) hi)
      (record { left = left; right = right }))
  step f rest (messages.Refuse code) = refl
  step f rest (messages.Open version depth) = refl
  step f rest (messages.Updates us) = refl
  step f rest messages.EndStream = refl
  step f rest (messages.Query q) = refl
  step f rest (messages.Reveal r) = refl
  step f rest messages.Bye = refl
  step f rest (messages.Claim v) = refl
  step f rest (messages.Poly a b c) = refl
  step f rest (messages.Leaves v) = refl
  step f rest (messages.Nodes v) = refl
  step f rest messages.LevelEnd = refl
  step f rest (messages.AskLook code item) = refl
  step f rest (messages.Found flag index) = refl
  step f rest messages.End = refl
  step f rest (messages.AskMoment side degree) = refl
  step f rest (messages.Held held) = refl
  step f rest (messages.Recall count) = refl
  step f rest (messages.Marks v) = refl
  step f rest (messages.Power v) = refl

  -- one frame
  frame : (version : Version) (f : Stated → List ℕ → Result Stated Reason)
      (r : Result (Message × List ℕ) WireFault)
      → general.frame_says (sub_rules version lo hi) f (known es x xs) r
      ≡ (frame_says (at_level (x ∷ xs) lo) (at_level (x ∷ xs) hi) r
      >>= λ y. Ok (with_siblings (known es x xs) y))
  frame version f (Err fault) = refl
  frame version f (Ok y) = step f y.1 y.0

  -- a later reply adds its siblings to what was stated
  pub later_whole : (version : Version) (bytes : List ℕ)
      → read_reply (sub_rules version lo hi) (known es x xs) bytes
      ≡ (later_reply version (at_level (x ∷ xs) lo) (at_level (x ∷ xs) hi) bytes
      >>= λ y. Ok (with_siblings (known es x xs) y))
  unfolding later_reply
  later_whole version bytes =
      read_reply-frame (sub_rules version lo hi) (known es x xs) bytes
      ∙ frame version (read_reply (sub_rules version lo hi)) (read_frame version places.Siblings bytes)

-- ---- its siblings are those that are asked for

message_asked : (lo hi : ℕ) (rest : List ℕ) (m : Message) (s : Siblings)
    → message_says lo hi rest m ≡ Ok s → are_asked lo hi s ≡ true
message_asked lo hi rest (messages.Siblings left right) s h =
    let t = step_passed (asked_siblings lo hi (record { left = left; right = right })) (λ y. at_end y rest) s h in
    let asked = siblings_passed lo hi (record { left = left; right = right }) t.x t.first in
    ap (are_asked lo hi) (sym (at_end_is t.x s rest t.then)) ∙ asked.0
message_asked lo hi rest (messages.Entries v) s h = absurd (cc)
message_asked lo hi rest (messages.Refuse code) s h = absurd (cc)
message_asked lo hi rest (messages.Open version depth) s h = absurd (cc)
message_asked lo hi rest (messages.Updates us) s h = absurd (cc)
message_asked lo hi rest messages.EndStream s h = absurd (cc)
message_asked lo hi rest (messages.Query q) s h = absurd (cc)
message_asked lo hi rest (messages.Reveal r) s h = absurd (cc)
message_asked lo hi rest messages.Bye s h = absurd (cc)
message_asked lo hi rest (messages.Claim v) s h = absurd (cc)
message_asked lo hi rest (messages.Poly a b c) s h = absurd (cc)
message_asked lo hi rest (messages.Leaves v) s h = absurd (cc)
message_asked lo hi rest (messages.Nodes v) s h = absurd (cc)
message_asked lo hi rest messages.LevelEnd s h = absurd (cc)
message_asked lo hi rest (messages.AskLook code item) s h = absurd (cc)
message_asked lo hi rest (messages.Found flag index) s h = absurd (cc)
message_asked lo hi rest messages.End s h = absurd (cc)
message_asked lo hi rest (messages.AskMoment side degree) s h = absurd (cc)
message_asked lo hi rest (messages.Held held) s h = absurd (cc)
message_asked lo hi rest (messages.Recall count) s h = absurd (cc)
message_asked lo hi rest (messages.Marks v) s h = absurd (cc)
message_asked lo hi rest (messages.Power v) s h = absurd (cc)

frame_asked : (lo hi : ℕ) (r : Result (Message × List ℕ) WireFault) (s : Siblings)
    → frame_says lo hi r ≡ Ok s → are_asked lo hi s ≡ true
frame_asked lo hi (Err fault) s h = absurd (cc)
frame_asked lo hi (Ok frame) s h = message_asked lo hi frame.1 frame.0 s h

pub later_reply-asked : (version : Version) (lo hi : ℕ) (bytes : List ℕ) (s : Siblings)
    → later_reply version lo hi bytes ≡ Ok s → are_asked lo hi s ≡ true
unfolding later_reply
later_reply-asked version lo hi bytes s e =
    frame_asked lo hi (read_frame version places.Siblings bytes) s e
