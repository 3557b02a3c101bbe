-- A reply that was read begins with a frame, and goes on by the step of its message.
use Rattle.std.proofs.Common.{◌≡◌, ℕ, List, Result, Ok, Err, refl, sym, subst, ◌∙◌}
use Rattle.sip_wire.specs.declared.message.Message.{Message}
use Rattle.sip_wire.specs.declared.message.WireFault.{WireFault}
use Rattle.sip_wire.specs.Decoding.{IsBytes, Spelled}
use Rattle.sip_wire.specs.Reading.{read_frame}
use Rattle.sip_wire.proofs.Bytes.{IsBytes-drop}
use Rattle.sip_wire.proofs.ReadingLaws.{read_frame-rest}
use Rattle.sip_wire.proofs.ReadsBack.{read_frame-message}
use Rattle.sip_replies.specs.Protocols.{Rules}
use Rattle.sip_replies.specs.Replies.{frame_says, read_reply, step_says}
use Rattle.sip_replies.proofs.Reading.{read_reply-frame}

pub record FirstFrame {S : Type 0} (R : Rules S) (s t : S) (bytes : List ℕ) : Type 0 where
  pub message : Message
  pub rest : List ℕ
  pub spelled : Spelled R.version (R.place s) bytes message rest
  pub are_bytes : IsBytes rest
  pub says : step_says (read_reply R) rest (R.step s message) ≡ Ok t

module _ {S : Type 0} (R : Rules S) (s t : S) (bytes : List ℕ) (fine : IsBytes bytes) where
  of_frame : (r : Result (Message × List ℕ) WireFault) → read_frame R.version (R.place s) bytes ≡ r
      → frame_says R (read_reply R) s r ≡ Ok t → FirstFrame R s t bytes
  of_frame (Err fault) is e = absurd cc
  of_frame (Ok frame) is e =
      let behind = read_frame-rest R.version (R.place s) bytes frame.0 frame.1 is in
      record {
        message = frame.0;
        rest = frame.1;
        spelled = read_frame-message R.version (R.place s) bytes frame.0 frame.1 fine is;
        are_bytes = subst (λ (l : List ℕ). IsBytes l) (sym behind.1) (IsBytes-drop _ bytes fine);
        says = e;
      }

  pub first_frame : read_reply R s bytes ≡ Ok t → FirstFrame R s t bytes
  first_frame e = of_frame (read_frame R.version (R.place s) bytes) refl (sym (read_reply-frame R s bytes) ∙ e)
