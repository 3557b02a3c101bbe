-- Reading a reply frame by frame, whatever its protocol.
use Rattle.std.proofs.Common.{◌≡◌, ℕ, zero, suc, ◌+◌, ◌≤◌, Result, Ok, Err, List, [], ◌∷◌, length, refl, sym, ap, ◌∙◌, arith}
use Rattle.sip_wire.specs.declared.kind.Place.{Place}
use Rattle.sip_wire.specs.declared.version.Version.{Version}
use Rattle.sip_wire.specs.declared.message.WireFault.TheVariants as faults
use Rattle.sip_wire.specs.declared.message.Message.{Message}
use Rattle.sip_wire.specs.declared.message.Reason.{Reason}
use Rattle.sip_wire.specs.declared.message.Reason.TheVariants as reasons
use Rattle.sip_wire.specs.declared.message.WireFault.{WireFault}
use Rattle.sip_replies.specs.declared.check.More.{More}
use Rattle.sip_replies.specs.declared.check.More.TheVariants as mores
use Rattle.sip_wire.specs.Reading.{read_frame}
use Rattle.sip_replies.specs.Protocols.{Rules}
use Rattle.sip_replies.specs.Replies.{reason_of, goes_on, step_says, frame_says, read_from, read_reply}
use Rattle.sip_wire.proofs.ReadingLaws.{asked-least, read_frame-closed, read_frame-shrinks}

-- no bytes are no frame
pub no_frame : (version : Version) (place : Place) → read_frame version place [] ≡ Err faults.Closed
no_frame version place = read_frame-closed version place [] (omega (arith, asked-least version place []))

one_frame : {S : Type 0} (R : Rules S) (n : ℕ) (s : S) (bytes : List ℕ) → read_from R (suc n) s bytes ≡ frame_says R (read_from R n) s (read_frame R.version (R.place s) bytes)
unfolding read_from
one_frame R n s bytes = refl

no_bytes : {S : Type 0} (R : Rules S) (n : ℕ) (s : S) → read_from R n s [] ≡ Err reasons.Closed
unfolding read_from
no_bytes R zero s = refl
no_bytes R (suc n) s = ap (frame_says R (read_from R n) s) (no_frame R.version (R.place s))

same_more : {S : Type 0} (f g : S → List ℕ → Result S Reason) (rest : List ℕ) (more : More) (t : S) → f t rest ≡ g t rest → goes_on f rest more t ≡ goes_on g rest more t
same_more f g rest mores.Due t same = same
same_more f g rest mores.Complete t same = refl

same_step : {S : Type 0} (f g : S → List ℕ → Result S Reason) (rest : List ℕ) (r : Result (More × S) Reason) → ((t : S) → f t rest ≡ g t rest) → step_says f rest r ≡ step_says g rest r
same_step f g rest (Err reason) same = refl
same_step f g rest (Ok x) same = same_more f g rest x.0 x.1 (same x.1)

same_frame : {S : Type 0} (R : Rules S) (f g : S → List ℕ → Result S Reason) (s : S) (bytes : List ℕ) (r : Result (Message × List ℕ) WireFault) → read_frame R.version (R.place s) bytes ≡ r
    → ((t : S) (rest : List ℕ) → length rest + 3 ≤ length bytes → f t rest ≡ g t rest) → frame_says R f s r ≡ frame_says R g s r
same_frame R f g s bytes (Err fault) is same = refl
same_frame R f g s bytes (Ok frame) is same =
    same_step f g frame.1 (R.step s frame.0) (λ t. same t frame.1 (read_frame-shrinks R.version (R.place s) bytes frame.0 frame.1 is))

-- the number of frames doesn't matter, where it is enough
enough : {S : Type 0} (R : Rules S) (n m : ℕ) (s : S) (bytes : List ℕ) → length bytes ≤ n → length bytes ≤ m → read_from R n s bytes ≡ read_from R m s bytes
enough R n m s [] le_n le_m = no_bytes R n s ∙ sym (no_bytes R m s)
enough R zero m s (x ∷ bytes) le_n le_m = absurd (omega arith)
enough R (suc n) zero s (x ∷ bytes) le_n le_m = absurd (omega arith)
enough R (suc n) (suc m) s (x ∷ bytes) le_n le_m =
    one_frame R n s (x ∷ bytes)
    ∙ same_frame R (read_from R n) (read_from R m) s (x ∷ bytes) (read_frame R.version (R.place s) (x ∷ bytes)) refl (λ t rest le. enough R n m t rest (omega arith) (omega arith))
    ∙ sym (one_frame R m s (x ∷ bytes))

-- a reply is its first frame, and then the rest
pub read_reply-frame : {S : Type 0} (R : Rules S) (s : S) (bytes : List ℕ) → read_reply R s bytes ≡ frame_says R (read_reply R) s (read_frame R.version (R.place s) bytes)
read_reply-frame R s [] = no_bytes R 0 s ∙ sym (ap (frame_says R (read_reply R) s) (no_frame R.version (R.place s)))
read_reply-frame R s (x ∷ bytes) =
    one_frame R (length bytes) s (x ∷ bytes)
    ∙ same_frame R (read_from R (length bytes)) (read_reply R) s (x ∷ bytes) (read_frame R.version (R.place s) (x ∷ bytes)) refl (λ t rest le. enough R (length bytes) (length rest) t rest (omega arith) (omega arith))

-- a frame's fault is that of the reply
pub read_reply-fault : {S : Type 0} (R : Rules S) (s : S) (bytes : List ℕ) (fault : WireFault) → read_frame R.version (R.place s) bytes ≡ Err fault → read_reply R s bytes ≡ Err (reason_of fault)
read_reply-fault R s bytes fault is = read_reply-frame R s bytes ∙ ap (frame_says R (read_reply R) s) is

-- what the message at the front says, by its step
pub read_reply-step : {S : Type 0} (R : Rules S) (s : S) (bytes rest : List ℕ) (m : Message) (r : Result (More × S) Reason) → read_frame R.version (R.place s) bytes ≡ Ok (m, rest) → R.step s m ≡ r → read_reply R s bytes ≡ step_says (read_reply R) rest r
read_reply-step R s bytes rest m r is e = read_reply-frame R s bytes ∙ ap (frame_says R (read_reply R) s) is ∙ ap (step_says (read_reply R) rest) e

-- no bytes are not the whole reply
pub read_reply-nil : {S : Type 0} (R : Rules S) (s : S) → read_reply R s [] ≡ Err reasons.Closed
read_reply-nil R s = no_bytes R 0 s
