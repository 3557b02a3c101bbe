-- What a refusal is to whoever reads replies, and which replies are fronts of others.
use Rattle.std.proofs.Common.{◌≡◌, ◌≢◌, ◌⊎◌, ℕ, ◌+◌, ◌≤◌, IsTrue, List, [], ◌∷◌, ◌++◌, length, drop, Result, Ok, Err, inl, inr, refl, sym, ap, ◌∙◌, append-nil, arith, length-append, lit≤}
use Rattle.sip_vector.specs.Steps.{◌>>=◌}
use Rattle.sip_wire.specs.declared.kind.Kind.TheVariants as kinds
use Rattle.sip_wire.specs.declared.message.Message.TheVariants as messages
use Rattle.sip_wire.specs.declared.message.Reason.{Reason}
use Rattle.sip_wire.specs.declared.message.Reason.TheVariants as reasons
use Rattle.sip_wire.specs.declared.message.WireFault.TheVariants as faults
use Rattle.sip_wire.specs.declared.version.Version.{Version}
use Rattle.sip_wire.specs.Reading.{read_frame}
use Rattle.sip_wire.specs.Spelling.{fits, spelling}
use Rattle.sip_wire.specs.Table.{allows}
use Rattle.sip_wire.proofs.ReadingLaws.{asked-spelling, length-spelling, read_frame-short, read_frame-spelling}
use Rattle.sip_replies.specs.Protocols.{Rules}
use Rattle.sip_replies.specs.Replies.{in_round, frame_says, learnt, read_from, read_reply, run_from}
use Rattle.sip_helper.specs.KindRows.{want_of_memory}
use Rattle.sip_helper.proofs.Hearing.{refusal_fits}
use Rattle.sip_duel.proofs.RevealLemmas.{run_cons}

-- the frame of a refusal for want of memory
abbrev pub refusal_frame : Version → List ℕ
refusal_frame v = spelling v (messages.Refuse want_of_memory)

-- of two fronts of the same bytes one is a front of the other
pub two_fronts : (a u b w : List ℕ) → a ++ u ≡ b ++ w → ((more : List ℕ) × (b ≡ a ++ more)) ⊎ ((more : List ℕ) × (a ≡ b ++ more))
two_fronts [] u b w e = inl (b, refl)
two_fronts (x ∷ a) u [] w e = inr (x ∷ a, refl)
two_fronts (x ∷ a) u (y ∷ b) w e =
    let tails : a ++ u ≡ b ++ w = cc in
    let heads : x ≡ y = cc in
    elim (two_fronts a u b w tails) [
      | inl m ↦ inl (m.0, ap (λ l. y ∷ l) m.1 ∙ ap (λ h. h ∷ (a ++ m.0)) (sym heads))
      | inr m ↦ inr (m.0, ap (λ l. x ∷ l) m.1 ∙ ap (λ h. h ∷ (b ++ m.0)) heads)
    ]

module _ {S : Type 0} (R : Rules S) (s : S) where
  read_by_frame : (bytes : List ℕ) (byte : ℕ) → read_reply R s (byte ∷ bytes) ≡ frame_says R (read_from R (length bytes)) s (read_frame R.version (R.place s) (byte ∷ bytes))
  unfolding read_from
  read_by_frame bytes byte = refl

  read_nothing : read_reply R s [] ≡ Err reasons.Closed
  unfolding read_from
  read_nothing = refl

  pub read_closed : (bytes : List ℕ) → read_frame R.version (R.place s) bytes ≡ Err faults.Closed → read_reply R s bytes ≡ Err reasons.Closed
  read_closed [] e = read_nothing
  read_closed (b ∷ bytes) e = read_by_frame bytes b ∙ ap (frame_says R (read_from R (length bytes)) s) e

  pub read_refused : (code : ℕ) (bytes rest : List ℕ) → R.step s (messages.Refuse code) ≡ Err (reasons.Refused code) → bytes ≢ [] → read_frame R.version (R.place s) bytes ≡ Ok (messages.Refuse code, rest) → read_reply R s bytes ≡ Err (reasons.Refused code)
  read_refused code [] rest step some e = absurd (some refl)
  read_refused code (b ∷ bytes) rest step some e =
      read_by_frame bytes b ∙ ap (frame_says R (read_from R (length bytes)) s) e ∙ ap (Rattle.sip_replies.specs.Replies.step_says (read_from R (length bytes)) rest) step

  -- bytes that agree with a refusal are read as it, or are a front of it
  pub reads_refusal : (b u w : List ℕ) → R.step s (messages.Refuse want_of_memory) ≡ Err (reasons.Refused want_of_memory) → IsTrue (allows (R.place s) kinds.Refuse) → b ++ u ≡ refusal_frame R.version ++ w
      → (read_reply R s b ≡ Err (reasons.Refused want_of_memory)) ⊎ ((read_reply R s b ≡ Err reasons.Closed) × (b ≢ refusal_frame R.version))
  reads_refusal b u w step may agree = by_fronts (two_fronts b u (refusal_frame R.version) w agree)
    where
      has : IsTrue (fits R.version (messages.Refuse want_of_memory))
      has = refusal_fits R.version want_of_memory (lit≤ tt) (lit≤ tt)

      behind : (more : List ℕ) → b ≡ refusal_frame R.version ++ more → read_reply R s b ≡ Err (reasons.Refused want_of_memory)
      behind more e = read_refused want_of_memory b more step
          (λ none. absurd (omega (arith, ap (λ (l : List ℕ). length l) (sym e ∙ none), length-append (refusal_frame R.version) more, length-spelling R.version (messages.Refuse want_of_memory))))
          (ap (read_frame R.version (R.place s)) e ∙ read_frame-spelling R.version (R.place s) (messages.Refuse want_of_memory) more has may tt)

      by_fronts : ((more : List ℕ) × (refusal_frame R.version ≡ b ++ more)) ⊎ ((more : List ℕ) × (b ≡ refusal_frame R.version ++ more))
          → (read_reply R s b ≡ Err (reasons.Refused want_of_memory)) ⊎ ((read_reply R s b ≡ Err reasons.Closed) × (b ≢ refusal_frame R.version))
      by_fronts (inl ([], e)) = inl (behind [] (sym (e ∙ append-nil b) ∙ sym (append-nil (refusal_frame R.version))))
      by_fronts (inl (c ∷ cs, e)) =
          let size = ap (Rattle.sip_wire.specs.Spelling.asked R.version (R.place s)) (sym e ∙ sym (append-nil (refusal_frame R.version))) ∙ asked-spelling R.version (R.place s) (messages.Refuse want_of_memory) [] has may in
          inr (
            read_closed b (read_frame-short R.version (R.place s) b (c ∷ cs) (λ no_more. cc) (omega (arith, size, ap (λ (l : List ℕ). length l) e))),
            λ same. absurd (omega (arith, ap (λ (l : List ℕ). length l) (same ∙ e), length-append b (c ∷ cs))),
          )
      by_fronts (inr (more, e)) = inl (behind more e)

-- a fault of the first reply is that of all
pub first_fault : {S : Type 0} (R : Rules S) (rs : List ℕ) (s : S) (b : List ℕ) (bs : List (List ℕ)) (reason : Reason) → read_reply R s b ≡ Err reason → run_from R 0 rs s (b ∷ bs) ≡ Err (record { round = 0; reason = reason })
first_fault R rs s b bs reason e = run_cons R 0 rs s b bs ∙ ap (λ r. in_round 0 r >>= λ t. run_from R 1 (drop 1 rs) (learnt R rs t) bs) e

-- the first of whole replies are whole
pub front_run : {S : Type 0} (R : Rules S) (j : ℕ) (rs : List ℕ) (s : S) (xs ys : List (List ℕ)) (t : S) → run_from R j rs s (xs ++ ys) ≡ Ok t → (x : S) × (run_from R j rs s xs ≡ Ok x)
unfolding run_from
front_run R j rs s [] ys t e = (s, refl)
front_run {S} R j rs s (b ∷ xs) ys t e = by_read (λ x f. front_run R (j + 1) (drop 1 rs) (learnt R rs x) xs ys t f) (read_reply R s b) refl (sym (run_cons R j rs s b (xs ++ ys)) ∙ e)
  where
    by_read : ((x : S) → run_from R (j + 1) (drop 1 rs) (learnt R rs x) (xs ++ ys) ≡ Ok t → (y : S) × (run_from R (j + 1) (drop 1 rs) (learnt R rs x) xs ≡ Ok y)) → (r : Result S Reason) → read_reply R s b ≡ r
        → (in_round j r >>= λ x. run_from R (j + 1) (drop 1 rs) (learnt R rs x) (xs ++ ys)) ≡ Ok t → (y : S) × (run_from R j rs s (b ∷ xs) ≡ Ok y)
    by_read on (Ok x) is f = let y = on x f in (y.0, run_cons R j rs s b xs ∙ ap (λ r. in_round j r >>= λ z. run_from R (j + 1) (drop 1 rs) (learnt R rs z) xs) is ∙ y.1)
    by_read on (Err reason) is f = absurd cc
