-- A front of a reply that is read whole has no fault but that more is to come, and a whole reply
-- has too many bytes with one more.
use Rattle.std.proofs.Common.{◌≡◌, ◌≢◌, ◌⊎◌, ℕ, zero, suc, ◌≤◌, Result, Ok, Err, List, [], ◌∷◌, ◌++◌, length, inl, inr, refl, sym, ap, ◌∙◌, arith}
use Rattle.sip_wire.specs.declared.message.Message.{Message}
use Rattle.sip_wire.specs.declared.message.Reason.{Reason}
use Rattle.sip_wire.specs.declared.message.Reason.TheVariants as reasons
use Rattle.sip_wire.specs.declared.message.WireFault.{WireFault}
use Rattle.sip_wire.specs.declared.message.WireFault.TheVariants as faults
use Rattle.sip_replies.specs.declared.check.More.{More}
use Rattle.sip_replies.specs.declared.check.More.TheVariants as mores
use Rattle.sip_wire.specs.Reading.{read_frame}
use Rattle.sip_replies.specs.Protocols.{Rules}
use Rattle.sip_replies.specs.Replies.{reason_of, at_end, goes_on, step_says, read_reply}
use Rattle.sip_wire.proofs.ReadingLaws.{read_frame-shrinks, read_frame-append, read_frame-append_fault}
use Rattle.sip_replies.proofs.Reading.{read_reply-fault, read_reply-step}

-- an answer and the one with more bytes behind: a fault but Closed stays, and what was whole has
-- too many bytes
pub record Grows {X : Type 0} (less more : Result X Reason) : Type 0 where
  pub stays : (reason : Reason) → less ≡ Err reason → reason ≢ reasons.Closed → more ≡ Err reason
  pub full : (x : X) → less ≡ Ok x → more ≡ Err reasons.BadLength

-- nothing is said of what has more to come
pub grows_closed : {X : Type 0} (more : Result X Reason) → Grows (Err reasons.Closed) more
grows_closed more = record { stays = λ reason e other. absurd (other (let same : Err reason ≡ Err reasons.Closed = sym e in cc)); full = λ x e. absurd cc }

-- a fault that stays
pub grows_fault : {X : Type 0} (reason : Reason) → Grows {X = X} (Err reason) (Err reason)
grows_fault reason = record { stays = λ other e no. e; full = λ x e. absurd cc }

-- what is whole at its last byte
pub grows_end : {X : Type 0} (x : X) (rest : List ℕ) (byte : ℕ) (more : List ℕ) → Grows (at_end x rest) (at_end x (rest ++ byte ∷ more))
grows_end x [] byte more = record { stays = λ reason e no. absurd cc; full = λ y e. refl }
grows_end x (b ∷ rest) byte more = record { stays = λ reason e no. e; full = λ y e. absurd cc }

-- a reason is the end of the link, or another one
pub closed_or_not : (reason : Reason) → (reason ≡ reasons.Closed) ⊎ (reason ≢ reasons.Closed)
closed_or_not reasons.Closed = inl refl
closed_or_not _ = inr (λ e. cc)

-- so a front of what is whole is not
pub front_of : {X : Type 0} (less more : Result X Reason) (x : X) → Grows less more → more ≡ Ok x → less ≡ Err reasons.Closed
front_of (Ok y) more x grows whole = absurd (let full = grows.full y refl in let both : Err reasons.BadLength ≡ Ok x = sym full ∙ whole in cc)
front_of (Err reason) more x grows whole = elim (closed_or_not reason) [
  | inl e ↦ ap (λ (r : Reason). Err r) e
  | inr other ↦ absurd (let stays = grows.stays reason refl other in let both : Err reason ≡ Ok x = sym stays ∙ whole in cc)
]

-- a fault of a frame is read as the end of the link, or is not that it closed
pub fault_or_not : (fault : WireFault) → (reason_of fault ≡ reasons.Closed) ⊎ (fault ≢ faults.Closed)
fault_or_not faults.Closed = inl refl
fault_or_not faults.PeerFault = inl refl
fault_or_not faults.OutOfMemory = inl refl
fault_or_not _ = inr (λ e. cc)

more_grows : {S : Type 0} (then : S → List ℕ → Result S Reason) (rest : List ℕ) (byte : ℕ) (more : List ℕ) (next : More) (t : S) → Grows (then t rest) (then t (rest ++ byte ∷ more)) → Grows (goes_on then rest next t) (goes_on then (rest ++ byte ∷ more) next t)
more_grows then rest byte more mores.Due t grows = grows
more_grows then rest byte more mores.Complete t grows = grows_end t rest byte more

step_grows : {S : Type 0} (then : S → List ℕ → Result S Reason) (rest : List ℕ) (byte : ℕ) (more : List ℕ) (r : Result (More × S) Reason) → ((t : S) → Grows (then t rest) (then t (rest ++ byte ∷ more))) → Grows (step_says then rest r) (step_says then (rest ++ byte ∷ more) r)
step_grows then rest byte more (Err reason) grows = grows_fault reason
step_grows then rest byte more (Ok x) grows = more_grows then rest byte more x.0 x.1 (grows x.1)

module _ {S : Type 0} (R : Rules S) (s : S) (bytes : List ℕ) (byte : ℕ) (more : List ℕ) where
  grows_by : (r : Result (Message × List ℕ) WireFault) → read_frame R.version (R.place s) bytes ≡ r
      → ((m : Message) (rest : List ℕ) → read_frame R.version (R.place s) bytes ≡ Ok (m, rest) → (t : S) → Grows (read_reply R t rest) (read_reply R t (rest ++ byte ∷ more)))
      → Grows (read_reply R s bytes) (read_reply R s (bytes ++ byte ∷ more))
  grows_by (Err fault) is later = elim (fault_or_not fault) [
    | inl closed ↦ rw (read_reply-fault R s bytes fault is, closed) (grows_closed _)
    | inr other ↦ rw (read_reply-fault R s bytes fault is, read_reply-fault R s (bytes ++ byte ∷ more) fault (read_frame-append_fault R.version (R.place s) bytes (byte ∷ more) fault is other)) (grows_fault (reason_of fault))
  ]
  grows_by (Ok frame) is later =
      rw (read_reply-step R s bytes frame.1 frame.0 (R.step s frame.0) is refl, read_reply-step R s (bytes ++ byte ∷ more) (frame.1 ++ byte ∷ more) frame.0 (R.step s frame.0) (read_frame-append R.version (R.place s) bytes (byte ∷ more) frame.0 frame.1 is) refl)
      (step_grows (read_reply R) frame.1 byte more (R.step s frame.0) (later frame.0 frame.1 is))

-- by how many bytes there are at most
pub grows : {S : Type 0} (R : Rules S) (n : ℕ) (s : S) (bytes : List ℕ) (byte : ℕ) (more : List ℕ) → length bytes ≤ n → Grows (read_reply R s bytes) (read_reply R s (bytes ++ byte ∷ more))
grows R zero s bytes byte more le = grows_by R s bytes byte more (read_frame R.version (R.place s) bytes) refl (λ m rest is t. absurd (omega (arith, read_frame-shrinks R.version (R.place s) bytes m rest is)))
grows R (suc n) s bytes byte more le = grows_by R s bytes byte more (read_frame R.version (R.place s) bytes) refl (λ m rest is t. grows R n t rest byte more (omega (arith, read_frame-shrinks R.version (R.place s) bytes m rest is)))

pub reply_front : {S : Type 0} (R : Rules S) (s : S) (front : List ℕ) (byte : ℕ) (more : List ℕ) (x : S) → read_reply R s (front ++ byte ∷ more) ≡ Ok x → read_reply R s front ≡ Err reasons.Closed
reply_front R s front byte more x whole = front_of (read_reply R s front) _ x (grows R (length front) s front byte more (omega arith)) whole

pub reply_full : {S : Type 0} (R : Rules S) (s : S) (bytes : List ℕ) (byte : ℕ) (more : List ℕ) (x : S) → read_reply R s bytes ≡ Ok x → read_reply R s (bytes ++ byte ∷ more) ≡ Err reasons.BadLength
reply_full R s bytes byte more x whole = (grows R (length bytes) s bytes byte more (omega arith)).full x whole
