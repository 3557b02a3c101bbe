-- What a reply to a question for a moment states, by its bytes alone.
use Rattle.std.proofs.Common.{◌≡◌, ℕ, ◌+◌, Bool, true, false, eqb, Some, Result, Ok, Err, List, [], length, ℤ, refl, sym, ◌∙◌}
use Rattle.std.proofs.lemmas.Bool.{and_from}
use Rattle.sip_field.specs.Residue.{residue}
use Rattle.sip_vector.specs.Steps.{◌>>=◌, needs}
use Rattle.sip_wire.specs.declared.kind.Place.TheVariants as places
use Rattle.sip_wire.specs.declared.message.Message.{Message}
use Rattle.sip_wire.specs.declared.message.Message.TheVariants as messages
use Rattle.sip_wire.specs.declared.message.Reason.{Reason}
use Rattle.sip_wire.specs.declared.message.Reason.TheVariants as reasons
use Rattle.sip_wire.specs.declared.message.WireFault.{WireFault}
use Rattle.sip_wire.specs.declared.version.Version.{Version}
use Rattle.sip_wire.specs.Reading.{read_frame}
use Rattle.sip_counts.specs.Rounds.{is_expected, sum_of_ends}
use Rattle.sip_replies.specs.declared.check.More.{More}
use Rattle.sip_replies.specs.declared.check.More.TheVariants as mores
use Rattle.sip_replies.specs.Protocols.{Rules}
use Rattle.sip_replies.specs.Replies.{step_says, frame_says, read_reply}
use Rattle.sip_replies.proofs.Reading.{read_reply-frame}
use Rattle.sip_replies.proofs.Passing.{at_end_is}
use Rattle.sip_sums.proofs.ReadSums.{behind, claim_in, frame_claim, message_claim}
use Rattle.sip_moments.specs.Protocol.{MomentState, moment_step, moment_rules}

-- a claim, what the next polynomial has to add up to, and the last one
abbrev pub known : ℤ → ℕ → List ℕ → MomentState
known claim expected c = record { claim = Some claim; expected = expected; last = c }

-- ---- what bytes say

message_polynomial : Message → List ℕ
message_polynomial (messages.Power v) = v.items
message_polynomial _ = []

frame_polynomial : Result (Message × List ℕ) WireFault → List ℕ
frame_polynomial (Ok frame) = message_polynomial frame.0
frame_polynomial (Err _) = []

-- the polynomial of degree k at the front
pub polynomial_in : Version → ℕ → List ℕ → List ℕ
polynomial_in version k bytes = frame_polynomial (read_frame version (places.Power k) bytes)

-- the polynomial behind a claim
pub first_polynomial_in : Version → ℕ → List ℕ → List ℕ
first_polynomial_in version k bytes =
    polynomial_in version k (behind (read_frame version places.Claim bytes))

-- ---- a polynomial

-- This is known once a polynomial came that has the degree and adds up to what was expected.
pub record Adds (p k : ℕ) (claim : ℤ) (expected : ℕ) (c : List ℕ) (t : MomentState) : Type 0 where
  pub is : known claim expected c ≡ t
  pub adds : is_expected p k expected c ≡ true

-- what a polynomial says, by its two tests
abbrev pub tested_step : Bool → Bool → MomentState → Result (More × MomentState) Reason
tested_step long adds s =
    needs long reasons.BadLength
    >>= λ _. needs adds reasons.Sum
    >>= λ _. Ok (mores.Complete, s)

module _ (version : Version) (p k : ℕ) where
  abbrev R : Rules MomentState
  R = moment_rules version p k

  abbrev Next : Type 0
  Next = MomentState → List ℕ → Result MomentState Reason

  module _ (claim : ℤ) (expected : ℕ) (last : List ℕ) where
    by_tests : (next : Next) (rest : List ℕ) (c : List ℕ) (t : MomentState) (long adds : Bool)
        → eqb (length c) (k + 1) ≡ long → eqb (sum_of_ends p c) expected ≡ adds
        → step_says next rest (tested_step long adds (known claim expected c)) ≡ Ok t
        → Adds p k claim expected c t
    by_tests next rest c t true true so is h = record {
      is = at_end_is (known claim expected c) t rest h;
      adds = and_from (eqb (length c) (k + 1)) (eqb (sum_of_ends p c) expected) so is;
    }
    by_tests next rest c t true false so is h = absurd (cc)
    by_tests next rest c t false adds so is h = absurd (cc)

    by_message : (next : Next) (rest : List ℕ) (m : Message) (t : MomentState)
        → step_says next rest (moment_step p k (known claim expected last) m) ≡ Ok t
        → Adds p k claim expected (message_polynomial m) t
    unfolding message_polynomial
    by_message next rest (messages.Power v) t h =
        by_tests next rest v.items t (eqb (length v.items) (k + 1))
        (eqb (sum_of_ends p v.items) expected) refl refl h
    by_message next rest _ t h = absurd (cc)

    by_frame : (next : Next) (r : Result (Message × List ℕ) WireFault) (t : MomentState)
        → frame_says R next (known claim expected last) r ≡ Ok t
        → Adds p k claim expected (frame_polynomial r) t
    unfolding frame_polynomial
    by_frame next (Err fault) t h = absurd (cc)
    by_frame next (Ok frame) t h = by_message next frame.1 frame.0 t h

    -- what a later reply states
    pub later_adds : (bytes : List ℕ) (t : MomentState)
        → read_reply R (known claim expected last) bytes ≡ Ok t
        → Adds p k claim expected (polynomial_in version k bytes) t
    unfolding polynomial_in
    later_adds bytes t h =
        by_frame (read_reply R) (read_frame version (places.Power k) bytes) t
        (sym (read_reply-frame R (known claim expected last) bytes) ∙ h)

  -- ---- a claim, and a polynomial

  first_message : (rest : List ℕ) (m : Message) (t : MomentState)
      → step_says (read_reply R) rest (moment_step p k R.start m) ≡ Ok t
      → Adds p k (message_claim m) (residue p (message_claim m)) (polynomial_in version k rest) t
  unfolding message_claim
  first_message rest (messages.Claim v) t h = later_adds v (residue p v) [] rest t h
  first_message rest _ t h = absurd (cc)

  first_frame : (r : Result (Message × List ℕ) WireFault) (t : MomentState)
      → frame_says R (read_reply R) R.start r ≡ Ok t
      → Adds p k (frame_claim r) (residue p (frame_claim r)) (polynomial_in version k (behind r)) t
  unfolding frame_claim behind
  first_frame (Err fault) t h = absurd (cc)
  first_frame (Ok frame) t h = first_message frame.1 frame.0 t h

  -- what reply 0 states
  pub first_adds : (bytes : List ℕ) (t : MomentState) → read_reply R R.start bytes ≡ Ok t
      → Adds p k (claim_in version bytes) (residue p (claim_in version bytes))
      (first_polynomial_in version k bytes) t
  unfolding claim_in first_polynomial_in
  first_adds bytes t h =
      first_frame (read_frame version places.Claim bytes) t
      (sym (read_reply-frame R R.start bytes) ∙ h)
