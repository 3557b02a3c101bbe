-- What a reply to a query for a sum states, by its bytes alone.
use Rattle.std.proofs.Common.{◌≡◌, ℕ, Bool, true, false, eqb, Some, Result, Ok, Err, List, [], ℤ, pos, refl, sym, ◌∙◌}
use Rattle.sip_field.specs.Residue.{residue}
use Rattle.sip_vector.specs.Steps.{◌>>=◌, needs}
use Rattle.sip_wire.specs.declared.kind.Place.TheVariants as places
use Rattle.sip_wire.specs.declared.message.Message.{Message}
use Rattle.sip_wire.specs.declared.message.Message.TheVariants as messages
use Rattle.sip_wire.specs.declared.message.Reason.{Reason}
use Rattle.sip_wire.specs.declared.message.Reason.TheVariants as reasons
use Rattle.sip_wire.specs.declared.message.WireFault.{WireFault}
use Rattle.sip_wire.specs.declared.version.Version.{Version}
use Rattle.sip_wire.specs.Reading.{read_frame}
use Rattle.sip_replies.specs.declared.check.More.{More}
use Rattle.sip_replies.specs.declared.check.More.TheVariants as mores
use Rattle.sip_replies.specs.Protocols.{Rules}
use Rattle.sip_replies.specs.Replies.{step_says, frame_says, read_reply}
use Rattle.sip_replies.proofs.Reading.{read_reply-frame}
use Rattle.sip_sums.specs.AcceptsSum.{Coefficients, sum_of_ends}
use Rattle.sip_sums.specs.Checking.{zero_polynomial}
use Rattle.sip_sums.specs.Protocol.{SumState, sum_step, sum_rules}
use Rattle.sip_replies.proofs.Passing.{at_end_is}

-- a claim, what the next polynomial has to add up to, and the last one
abbrev pub known : ℤ → ℕ → Coefficients → SumState
known claim expected c = record { claim = Some claim; expected = expected; last = c }

-- ---- what bytes say

message_polynomial : Message → Coefficients
message_polynomial (messages.Poly a b c) = record { c0 = a; c1 = b; c2 = c }
message_polynomial _ = zero_polynomial

frame_polynomial : Result (Message × List ℕ) WireFault → Coefficients
frame_polynomial (Ok frame) = message_polynomial frame.0
frame_polynomial (Err _) = zero_polynomial

-- the polynomial at the front
pub polynomial_in : Version → List ℕ → Coefficients
polynomial_in version bytes = frame_polynomial (read_frame version places.Poly bytes)

-- a claim, or 0 for what is none
unfoldable pub message_claim : Message → ℤ
message_claim (messages.Claim claim) = claim
message_claim _ = pos 0

unfoldable pub frame_claim : Result (Message × List ℕ) WireFault → ℤ
frame_claim (Ok frame) = message_claim frame.0
frame_claim (Err _) = pos 0

-- the claim at the front
unfoldable pub claim_in : Version → List ℕ → ℤ
claim_in version bytes = frame_claim (read_frame version places.Claim bytes)

-- and what stands behind it
unfoldable pub behind : Result (Message × List ℕ) WireFault → List ℕ
behind (Ok frame) = frame.1
behind (Err _) = []

-- the polynomial there
pub first_polynomial_in : Version → List ℕ → Coefficients
first_polynomial_in version bytes = polynomial_in version (behind (read_frame version places.Claim bytes))

-- ---- a polynomial

-- This is known once a polynomial came that adds up to what was expected.
pub record Adds (p : ℕ) (claim : ℤ) (expected : ℕ) (c : Coefficients) (t : SumState) : Type 0 where
  pub is : known claim expected c ≡ t
  pub adds : eqb (sum_of_ends p c) expected ≡ true

abbrev pub as_complete : ℤ → ℕ → Coefficients → Result (Unit {0}) Reason → Result (More × SumState) Reason
as_complete claim expected c r = r >>= λ _. Ok (mores.Complete, known claim expected c)

module _ (version : Version) (p : ℕ) where
  abbrev R : Rules SumState
  R = sum_rules version p

  abbrev Next : Type 0
  Next = SumState → List ℕ → Result SumState Reason

  module _ (claim : ℤ) (expected : ℕ) (last : Coefficients) where
    by_test : (next : Next) (rest : List ℕ) (c : Coefficients) (t : SumState) (test : Bool) → eqb (sum_of_ends p c) expected ≡ test
        → step_says next rest (as_complete claim expected c (needs test reasons.Sum)) ≡ Ok t → Adds p claim expected c t
    by_test next rest c t true is h = record { is = at_end_is (known claim expected c) t rest h; adds = is }
    by_test next rest c t false is h = absurd (cc)

    by_message : (next : Next) (rest : List ℕ) (m : Message) (t : SumState) → step_says next rest (sum_step p (known claim expected last) m) ≡ Ok t → Adds p claim expected (message_polynomial m) t
    unfolding message_polynomial
    by_message next rest (messages.Poly a b c) t h =
        let its : Coefficients = record { c0 = a; c1 = b; c2 = c } in
        by_test next rest its t (eqb (sum_of_ends p its) expected) refl h
    by_message next rest _ t h = absurd (cc)

    by_frame : (next : Next) (r : Result (Message × List ℕ) WireFault) (t : SumState) → frame_says R next (known claim expected last) r ≡ Ok t → Adds p claim expected (frame_polynomial r) t
    unfolding frame_polynomial
    by_frame next (Err fault) t h = absurd (cc)
    by_frame next (Ok frame) t h = by_message next frame.1 frame.0 t h

    -- what a later reply states
    pub later_adds : (bytes : List ℕ) (t : SumState) → read_reply R (known claim expected last) bytes ≡ Ok t → Adds p claim expected (polynomial_in version bytes) t
    unfolding polynomial_in
    later_adds bytes t h =
        by_frame (read_reply R) (read_frame version places.Poly bytes) t (sym (read_reply-frame R (known claim expected last) bytes) ∙ h)

  -- ---- a claim, and a polynomial

  first_message : (rest : List ℕ) (m : Message) (t : SumState) → step_says (read_reply R) rest (sum_step p R.start m) ≡ Ok t → Adds p (message_claim m) (residue p (message_claim m)) (polynomial_in version rest) t
  unfolding message_claim
  first_message rest (messages.Claim v) t h = later_adds v (residue p v) zero_polynomial rest t h
  first_message rest _ t h = absurd (cc)

  first_frame : (r : Result (Message × List ℕ) WireFault) (t : SumState) → frame_says R (read_reply R) R.start r ≡ Ok t → Adds p (frame_claim r) (residue p (frame_claim r)) (polynomial_in version (behind r)) t
  unfolding frame_claim behind
  first_frame (Err fault) t h = absurd (cc)
  first_frame (Ok frame) t h = first_message frame.1 frame.0 t h

  -- what reply 0 states
  pub first_adds : (bytes : List ℕ) (t : SumState) → read_reply R R.start bytes ≡ Ok t
      → Adds p (claim_in version bytes) (residue p (claim_in version bytes)) (first_polynomial_in version bytes) t
  unfolding claim_in first_polynomial_in
  first_adds bytes t h =
      first_frame (read_frame version places.Claim bytes) t (sym (read_reply-frame R R.start bytes) ∙ h)
