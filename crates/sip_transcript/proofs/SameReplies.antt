-- Replies that were taken up to their verdict: where the bytes of two such lists agree, and what
-- follows them, the replies are the same. Whatever the protocol.
use Rattle.std.proofs.Common.{◌≡◌, ◌≢◌, ◌⊎◌, ℕ, suc, ◌+◌, ◌≤◌, Result, Ok, Err, List, [], ◌∷◌, ◌++◌, length, drop, inl, inr, refl, sym, ap, ◌∙◌, arith, append_assoc, append-nil}
use Rattle.std.proofs.lemmas.List.{append_cancel_left, nil_from_length}
use Rattle.sip_vector.specs.Steps.{◌>>=◌}
use Rattle.sip_wire.specs.declared.message.Reason.{Reason}
use Rattle.sip_wire.specs.declared.message.Reason.TheVariants as reasons
use Rattle.sip_replies.specs.LawProofs.Refusals.{same_err}
use Rattle.sip_replies.specs.Protocols.{Rules}
use Rattle.sip_replies.specs.Replies.{Fault, in_round, joined, learnt, read_reply, run_from}
use Rattle.sip_replies.proofs.Agreeing.{IsShortest, alone, both_split, only_one, run-cons, same_lists, two_fronts}
use Rattle.sip_replies.proofs.Ends.{last_of}
use Rattle.sip_replies.proofs.Fronts.{Grows, closed_or_not, grows, reply_front}

-- ---- what is not whole yet

pub ok_or_err : {X : Type 0} (r : Result X Reason)
    → ((x : X) × (r ≡ Ok x)) ⊎ ((reason : Reason) × (r ≡ Err reason))
ok_or_err (Ok x) = inl (x, refl)
ok_or_err (Err reason) = inr (reason, refl)

pub ok_no_err : {X : Type 0} (x : X) (b : Reason) → ◌≡◌ {A = Result X Reason} (Ok x) (Err b) → ⊥
ok_no_err x b e = cc

-- whether more is to come
pub is_closed : {X : Type 0} (r : Result X Reason)
    → (r ≡ Err reasons.Closed) ⊎ (r ≢ Err reasons.Closed)
is_closed (Ok x) = inr (λ e. ok_no_err x reasons.Closed e)
is_closed (Err reason) = elim (closed_or_not reason) [
  | inl e ↦ inl (ap (λ (r : Reason). Err r) e)
  | inr other ↦ inr (λ e. other (same_err reason reasons.Closed e))
]

-- where more is to come behind more bytes, more was to come before
closed_less : {X : Type 0} (less more : Result X Reason) → Grows less more
    → more ≡ Err reasons.Closed → less ≡ Err reasons.Closed
closed_less (Ok x) more g e = absurd (let full = g.full x refl in let both = same_err reasons.BadLength reasons.Closed (sym full ∙ e) in cc)
closed_less (Err reason) more g e = elim (closed_or_not reason) [
  | inl is ↦ ap (λ (r : Reason). Err r) is
  | inr other ↦ absurd (other (same_err reason reasons.Closed (sym (g.stays reason refl other) ∙ e)))
]

pub fewer_closed : {S : Type 0} (R : Rules S) (s : S) (front more : List ℕ)
    → read_reply R s (front ++ more) ≡ Err reasons.Closed → read_reply R s front ≡ Err reasons.Closed
fewer_closed R s front [] e = ap (read_reply R s) (sym (append-nil front)) ∙ e
fewer_closed R s front (c ∷ cs) e =
    closed_less (read_reply R s front) (read_reply R s (front ++ c ∷ cs)) (grows R (length front) s front c cs (omega arith)) e

-- ---- one reply

-- A reply, and what follows it. Where more is to come nothing follows; else more was to come before its last byte.
pub record IsCutAt {X : Type 0} (read : List ℕ → Result X Reason) (reply behind : List ℕ) : Type 0 where
  pub closed : read reply ≡ Err reasons.Closed → behind ≡ []
  pub front : (front : List ℕ) (byte : ℕ) (more : List ℕ) → reply ≡ front ++ byte ∷ more
      → read reply ≢ Err reasons.Closed → read front ≡ Err reasons.Closed

module _ {X : Type 0} (read : List ℕ → Result X Reason)
    (fewer : (front more : List ℕ) → read (front ++ more) ≡ Err reasons.Closed → read front ≡ Err reasons.Closed)
  where
    -- none is a front of another
    no_longer : (r u s v : List ℕ) (c : ℕ) (cs : List ℕ) → IsCutAt read r u → IsCutAt read s v
        → s ≡ r ++ c ∷ cs → r ++ u ≡ s ++ v → ⊥
    no_longer r u s v c cs p q is e =
        let first : read r ≡ Err reasons.Closed = elim (is_closed (read s)) [
          | inl closed ↦ fewer r (c ∷ cs) (ap read (sym is) ∙ closed)
          | inr else_is ↦ q.front r c cs is else_is
        ] in
        let none : u ≡ [] = p.closed first in
        let some : u ≡ (c ∷ cs) ++ v = append_cancel_left r u ((c ∷ cs) ++ v) (e ∙ ap (λ (l : List ℕ). l ++ v) is ∙ append_assoc r (c ∷ cs) v) in cc

    pub same_cut : (r u s v : List ℕ) → IsCutAt read r u → IsCutAt read s v → r ++ u ≡ s ++ v
        → (r ≡ s) × (u ≡ v)
    same_cut r u s v p q e =
        let same : r ≡ s = elim (two_fronts r u s v e) [
          | inl m ↦ one m.0 m.1
          | inr m ↦ other m.0 m.1
        ] in
        (same, append_cancel_left r u v (e ∙ ap (λ (l : List ℕ). l ++ v) (sym same)))
      where
        one : (more : List ℕ) → s ≡ r ++ more → r ≡ s
        one [] is = sym (is ∙ append-nil r)
        one (c ∷ cs) is = absurd (no_longer r u s v c cs p q is e)

        other : (more : List ℕ) → r ≡ s ++ more → r ≡ s
        other [] is = is ∙ append-nil s
        other (c ∷ cs) is = absurd (no_longer s v r u c cs q p is (sym e))

-- ---- all replies

-- Replies from j on, of n in all, and what follows them. They are all of them, or the last one shows
-- a fault, as no byte less does; that it is not whole is shown by the end alone.
pub record IsCut {S : Type 0} (R : Rules S) (n j : ℕ) (block : List ℕ) (s : S) (replies : List (List ℕ)) (behind : List ℕ) : Type 0 where
  pub few : j + length replies ≤ n
  pub all : (t : S) → run_from R j block s replies ≡ Ok t → j + length replies ≡ n
  pub last : (fault : Fault) → run_from R j block s replies ≡ Err fault → j + length replies ≤ suc fault.round
  pub closed : (fault : Fault) → run_from R j block s replies ≡ Err fault → fault.reason ≡ reasons.Closed → behind ≡ []
  pub shortest : (fault : Fault) → run_from R j block s replies ≡ Err fault → fault.reason ≢ reasons.Closed
      → IsShortest (λ l f. run_from R j block s l ≡ Err f) replies

pub run-nil : {S : Type 0} (R : Rules S) (j : ℕ) (block : List ℕ) (s : S) → run_from R j block s [] ≡ Ok s
unfolding run_from
run-nil R j block s = refl

module _ {S : Type 0} (R : Rules S) (n j : ℕ) (block : List ℕ) (s : S) where
  -- behind a whole reply the others are read
  pub run_on : (h : List ℕ) (x : S) (hs : List (List ℕ)) → read_reply R s h ≡ Ok x
      → run_from R j block s (h ∷ hs) ≡ run_from R (j + 1) (drop 1 block) (learnt R block x) hs
  run_on h x hs is = run-cons R j block s h hs ∙ ap (λ (r : Result S Reason). in_round j r >>= λ t. run_from R (j + 1) (drop 1 block) (learnt R block t) hs) is

  pub run_stops : (h : List ℕ) (reason : Reason) (hs : List (List ℕ)) → read_reply R s h ≡ Err reason
      → run_from R j block s (h ∷ hs) ≡ Err (record { round = j; reason = reason })
  run_stops h reason hs is = run-cons R j block s h hs ∙ ap (λ (r : Result S Reason). in_round j r >>= λ t. run_from R (j + 1) (drop 1 block) (learnt R block t) hs) is

  module _ (h : List ℕ) (hs : List (List ℕ)) (b : List ℕ) (cut : IsCut R n j block s (h ∷ hs) b) where
    pub none_behind : (reason : Reason) → read_reply R s h ≡ Err reason → hs ≡ []
    none_behind reason is =
        let last = cut.last (record { round = j; reason = reason }) (run_stops h reason hs is) in
        nil_from_length hs (omega (arith, last))

    whole_cut : (x : S) → read_reply R s h ≡ Ok x → IsCutAt (read_reply R s) h (joined hs ++ b)
    whole_cut x is = record {
      closed = λ e. absurd (ok_no_err x reasons.Closed (sym is ∙ e));
      front = λ front byte more e else_is. reply_front R s front byte more x (ap (read_reply R s) (sym e) ∙ is);
    }

    fault_cut : (reason : Reason) → read_reply R s h ≡ Err reason → IsCutAt (read_reply R s) h (joined hs ++ b)
    fault_cut reason is =
        let none = none_behind reason is in
        let fault : Fault = record { round = j; reason = reason } in
        let run = run_stops h reason hs is in record {
          closed = λ e. ap (λ (l : List (List ℕ)). joined l ++ b) none ∙ cut.closed fault run (same_err reason reasons.Closed (sym is ∙ e));
          front = λ front byte more e else_is.
              let last = last_of byte more in
              let split : h ≡ (front ++ last.0) ++ last.1 ∷ [] = e ∙ ap (λ (l : List ℕ). front ++ l) last.2 ∙ sym (append_assoc front last.0 (last.1 ∷ [])) in
              let t = cut.shortest fault run (λ same. else_is (is ∙ ap (λ (r : Reason). Err r) same)) [] (front ++ last.0) last.1 (only_one h hs (front ++ last.0) last.1 none split) in
              fewer_closed R s front last.0 (alone R j block s (front ++ last.0) t.0 t.1 ∙ ap (λ (r : Reason). Err r) t.2);
        }

    pub first_cut : IsCutAt (read_reply R s) h (joined hs ++ b)
    first_cut = elim (ok_or_err (read_reply R s h)) [
      | inl m ↦ whole_cut m.0 m.1
      | inr m ↦ fault_cut m.0 m.1
    ]

    pub rest_cut : (x : S) → read_reply R s h ≡ Ok x → IsCut R n (j + 1) (drop 1 block) (learnt R block x) hs b
    rest_cut x is = let on = run_on h x hs is in record {
      few = let few = cut.few in omega (arith, few);
      all = λ t e. let all = cut.all t (on ∙ e) in omega (arith, all);
      last = λ f e. let last = cut.last f (on ∙ e) in omega (arith, last);
      closed = λ f e same. cut.closed f (on ∙ e) same;
      shortest = λ f e other earlier front byte is_at.
          let t = cut.shortest f (on ∙ e) other (h ∷ earlier) front byte (ap (λ (l : List (List ℕ)). h ∷ l) is_at) in
          (t.0, sym (run_on h x (earlier ++ front ∷ []) is) ∙ t.1, t.2);
    }

pub same_replies : {S : Type 0} (R : Rules S) (n j : ℕ) (block : List ℕ) (s : S) (hs rs : List (List ℕ)) (b a : List ℕ) → IsCut R n j block s hs b → IsCut R n j block s rs a
    → joined hs ++ b ≡ joined rs ++ a → (hs ≡ rs) × (b ≡ a)
same_replies R n j block s [] [] b a p q e = (refl, e)
same_replies R n j block s [] (r ∷ rs) b a p q e = absurd (let all = p.all s (run-nil R j block s) in let few = q.few in omega (arith, all, few))
same_replies R n j block s (h ∷ hs) [] b a p q e = absurd (let all = q.all s (run-nil R j block s) in let few = p.few in omega (arith, all, few))
same_replies R n j block s (h ∷ hs) (r ∷ rs) b a p q e =
    let one = same_cut (read_reply R s) (fewer_closed R s) h (joined hs ++ b) r (joined rs ++ a) (first_cut R n j block s h hs b p) (first_cut R n j block s r rs a q) (both_split h hs b r rs a e) in
    elim (ok_or_err (read_reply R s h)) [
      | inl m ↦
          let rest = same_replies R n (j + 1) (drop 1 block) (learnt R block m.0) hs rs b a (rest_cut R n j block s h hs b p m.0 m.1)
          (rest_cut R n j block s r rs a q m.0 (ap (read_reply R s) (sym one.0) ∙ m.1)) one.1 in
          (same_lists h r hs rs one.0 rest.0, rest.1)
      | inr m ↦
          let nil = none_behind R n j block s h hs b p m.0 m.1 in
          let none = none_behind R n j block s r rs a q m.0 (ap (read_reply R s) (sym one.0) ∙ m.1) in
          (same_lists h r hs rs one.0 (nil ∙ sym none), ap (λ (l : List (List ℕ)). joined l ++ b) (sym nil) ∙ one.1 ∙ ap (λ (l : List (List ℕ)). joined l ++ a) none)
    ]
