-- Whole replies whose bytes, one after another, agree are the same replies; and bytes that agree
-- with whole replies show no fault but that of the end of the link. Whatever the protocol.
use Rattle.std.proofs.Common.{◌≡◌, ◌≢◌, ◌⊎◌, ℕ, suc, ◌+◌, ◌≤◌, Result, Ok, Err, List, [], ◌∷◌, ◌++◌, length, drop, inl, inr, refl, sym, ap, ◌∙◌, arith, append_assoc, append-nil}
use Rattle.std.proofs.lemmas.List.{append_cancel_left, nil_from_length}
use Rattle.sip_vector.specs.Steps.{◌>>=◌}
use Rattle.sip_wire.specs.declared.message.Reason.{Reason}
use Rattle.sip_wire.specs.declared.message.Reason.TheVariants as reasons
use Rattle.sip_replies.specs.Protocols.{Rules}
use Rattle.sip_replies.specs.Replies.{Fault, in_round, joined, learnt, read_reply, run_from}
use Rattle.sip_replies.proofs.Ends.{last_of}
use Rattle.sip_replies.proofs.Fronts.{reply_front, reply_full}

-- ---- reading one reply

-- a front of what is whole is not, and what is whole has too many bytes with one more
pub record IsReader {X : Type 0} (read : List ℕ → Result X Reason) : Type 0 where
  pub front : (front : List ℕ) (byte : ℕ) (more : List ℕ) (x : X) → read (front ++ byte ∷ more) ≡ Ok x → read front ≡ Err reasons.Closed
  pub full : (bytes : List ℕ) (byte : ℕ) (more : List ℕ) (x : X) → read bytes ≡ Ok x → read (bytes ++ byte ∷ more) ≡ Err reasons.BadLength

pub reads : {S : Type 0} (R : Rules S) (s : S) → IsReader (read_reply R s)
reads R s = record { front = reply_front R s; full = reply_full R s }

-- of two fronts of the same bytes one is a front of the other
pub two_fronts : (a u b v : List ℕ) → a ++ u ≡ b ++ v → ((more : List ℕ) × (b ≡ a ++ more)) ⊎ ((more : List ℕ) × (a ≡ b ++ more))
two_fronts [] u b v e = inl (b, refl)
two_fronts (x ∷ a) u [] v e = inr (x ∷ a, refl)
two_fronts (x ∷ a) u (y ∷ b) v e =
    let tails : a ++ u ≡ b ++ v = cc in
    let heads : x ≡ y = cc in
    elim (two_fronts a u b v tails) [
      | inl m ↦ inl (m.0, ap (λ l. y ∷ l) m.1 ∙ ap (λ h. h ∷ (a ++ m.0)) (sym heads))
      | inr m ↦ inr (m.0, ap (λ l. x ∷ l) m.1 ∙ ap (λ h. h ∷ (b ++ m.0)) heads)
    ]

module _ {X : Type 0} (read : List ℕ → Result X Reason) (reads : IsReader read) where
  pub ok_not_err : (bytes : List ℕ) (x : X) (reason : Reason) → read bytes ≡ Ok x → read bytes ≡ Err reason → ⊥
  ok_not_err bytes x reason e f = let both : ◌≡◌ {A = Result X Reason} (Ok x) (Err reason) = sym e ∙ f in cc

  pub same_reason : (bytes : List ℕ) (a b : Reason) → read bytes ≡ Err a → read bytes ≡ Err b → a ≡ b
  same_reason bytes a b e f = let both : ◌≡◌ {A = Result X Reason} (Err a) (Err b) = sym e ∙ f in cc

  -- a whole reply that is a front of another is that one
  pub whole_front : (a more b : List ℕ) (x y : X) → read a ≡ Ok x → read b ≡ Ok y → b ≡ a ++ more → a ≡ b
  whole_front a [] b x y first second is = sym (is ∙ append-nil a)
  whole_front a (c ∷ cs) b x y first second is = absurd (ok_not_err b y reasons.BadLength second (ap read is ∙ reads.full a c cs x first))

  pub one_same : (a u b v : List ℕ) (x y : X) → read a ≡ Ok x → read b ≡ Ok y → a ++ u ≡ b ++ v → (a ≡ b) × (u ≡ v)
  one_same a u b v x y first second e =
      let same : a ≡ b = elim (two_fronts a u b v e) [
        | inl m ↦ whole_front a m.0 b x y first second m.1
        | inr m ↦ sym (whole_front b m.0 a y x second first m.1)
      ] in
      (same, append_cancel_left a u v (e ∙ ap (λ l. l ++ v) (sym same)))

  module _ (whole reply : List ℕ) (x : X) (reason : Reason) (first : read whole ≡ Ok x) (fault : read reply ≡ Err reason) (other : reason ≢ reasons.Closed)
      (shortest : (front : List ℕ) (byte : ℕ) → reply ≡ front ++ byte ∷ [] → read front ≡ Err reasons.Closed) where
    -- a fault is not shown by the bytes of a whole reply and one more, and no more by still more of
    -- them
    beyond : (init : List ℕ) (byte : ℕ) → reply ≡ whole ++ (init ++ byte ∷ []) → ⊥
    beyond [] byte is = ok_not_err whole x reasons.Closed first (shortest whole byte is)
    beyond (i ∷ init) byte is =
        let closed = shortest (whole ++ i ∷ init) byte (is ∙ sym (append_assoc whole (i ∷ init) (byte ∷ []))) in
        let long = same_reason (whole ++ i ∷ init) reasons.BadLength reasons.Closed (reads.full whole i init x first) closed in cc

    longer : (more : List ℕ) → reply ≡ whole ++ more → ⊥
    longer [] is = ok_not_err whole x reason first (ap read (sym (is ∙ append-nil whole)) ∙ fault)
    longer (c ∷ cs) is = let last = last_of c cs in beyond last.0 last.1 (is ∙ ap (λ l. whole ++ l) last.2)

    shorter : (more : List ℕ) → whole ≡ reply ++ more → ⊥
    shorter [] is = ok_not_err whole x reason first (ap read (is ∙ append-nil reply) ∙ fault)
    shorter (c ∷ cs) is = other (same_reason reply reason reasons.Closed fault (reads.front reply c cs x (ap read (sym is) ∙ first)))

    no_fault : (u v : List ℕ) → whole ++ u ≡ reply ++ v → ⊥
    no_fault u v e = elim (two_fronts whole u reply v e) [
      | inl m ↦ longer m.0 m.1
      | inr m ↦ shorter m.0 m.1
    ]

-- ---- one reply and the others

pub run-cons : {S : Type 0} (R : Rules S) (j : ℕ) (rs : List ℕ) (s : S) (r : List ℕ) (more : List (List ℕ)) → run_from R j rs s (r ∷ more) ≡ (in_round j (read_reply R s r) >>= λ t. run_from R (j + 1) (drop 1 rs) (learnt R rs t) more)
unfolding run_from
run-cons R j rs s r more = refl

run-none : {S : Type 0} (R : Rules S) (j : ℕ) (rs : List ℕ) (s : S) (fault : Fault) → run_from R j rs s [] ≡ Err fault → ⊥
unfolding run_from
run-none R j rs s fault e = absurd cc

pub both_ok : {X Y : Type 0} (j : ℕ) (r : Result X Reason) (f : X → Result Y Fault) (y : Y) → (in_round j r >>= f) ≡ Ok y → (x : X) × (r ≡ Ok x) × (f x ≡ Ok y)
both_ok j (Ok x) f y e = (x, refl, e)
both_ok j (Err reason) f y e = absurd cc

pub both_err : {X Y : Type 0} (j : ℕ) (r : Result X Reason) (f : X → Result Y Fault) (fault : Fault) → (in_round j r >>= f) ≡ Err fault
    → ((x : X) × (r ≡ Ok x) × (f x ≡ Err fault)) ⊎ ((reason : Reason) × (r ≡ Err reason) × (fault ≡ record { round = j; reason = reason }))
both_err j (Ok x) f fault e = inl (x, refl, e)
both_err j (Err reason) f fault e = inr (reason, refl, let same : ◌≡◌ {A = Fault} (record { round = j; reason = reason }) fault = cc in sym same)

split : (r : List ℕ) (rs : List (List ℕ)) (a : List ℕ) → joined (r ∷ rs) ++ a ≡ r ++ (joined rs ++ a)
split r rs a = append_assoc r (joined rs) a

pub both_split : (h : List ℕ) (hs : List (List ℕ)) (b r : List ℕ) (rs : List (List ℕ)) (a : List ℕ) → joined (h ∷ hs) ++ b ≡ joined (r ∷ rs) ++ a → h ++ (joined hs ++ b) ≡ r ++ (joined rs ++ a)
both_split h hs b r rs a e = sym (split h hs b) ∙ e ∙ split r rs a

pub same_lists : (h r : List ℕ) (hs rs : List (List ℕ)) → h ≡ r → hs ≡ rs → h ∷ hs ≡ r ∷ rs
same_lists h r hs rs e f = cc

pub same_ok : {X : Type 0} (x y : X) → ◌≡◌ {A = Result X Reason} (Ok x) (Ok y) → x ≡ y
same_ok x y e = cc

-- whole replies whose bytes agree are the same, and then what follows them
pub run_same : {S : Type 0} (R : Rules S) (j : ℕ) (block : List ℕ) (s : S) (hs rs : List (List ℕ)) (b a : List ℕ) (t u : S) → run_from R j block s hs ≡ Ok t → run_from R j block s rs ≡ Ok u → length rs ≡ length hs → joined hs ++ b ≡ joined rs ++ a → (hs ≡ rs) × (b ≡ a)
run_same R j block s [] [] b a t u first second count e = (refl, e)
run_same R j block s [] (r ∷ rs) b a t u first second count e = absurd (omega arith)
run_same R j block s (h ∷ hs) [] b a t u first second count e = absurd (omega arith)
run_same R j block s (h ∷ hs) (r ∷ rs) b a t u first second count e =
    let p = both_ok j (read_reply R s h) (λ x. run_from R (j + 1) (drop 1 block) (learnt R block x) hs) t (sym (run-cons R j block s h hs) ∙ first) in
    let q = both_ok j (read_reply R s r) (λ x. run_from R (j + 1) (drop 1 block) (learnt R block x) rs) u (sym (run-cons R j block s r rs) ∙ second) in
    let one = one_same (read_reply R s) (reads R s) h (joined hs ++ b) r (joined rs ++ a) p.0 q.0 p.1 q.1 (both_split h hs b r rs a e) in
    let state : p.0 ≡ q.0 = same_ok p.0 q.0 (sym p.1 ∙ ap (read_reply R s) one.0 ∙ q.1) in
    let rest = run_same R (j + 1) (drop 1 block) (learnt R block p.0) hs rs b a t u p.2 (ap (λ x. run_from R (j + 1) (drop 1 block) (learnt R block x) rs) state ∙ q.2) (omega arith) one.1 in
    (same_lists h r hs rs one.0 rest.0, rest.1)

-- no byte less of the last reply shows a fault but the end
abbrev pub IsShortest : (List (List ℕ) → Fault → Type 0) → List (List ℕ) → Type 0
IsShortest fails rs = (earlier : List (List ℕ)) (front : List ℕ) (byte : ℕ) → rs ≡ earlier ++ (front ++ byte ∷ []) ∷ [] → (fault : Fault) × fails (earlier ++ front ∷ []) fault × (fault.reason ≡ reasons.Closed)

pub only_one : (r : List ℕ) (rs : List (List ℕ)) (front : List ℕ) (byte : ℕ) → rs ≡ [] → r ≡ front ++ byte ∷ [] → r ∷ rs ≡ (front ++ byte ∷ []) ∷ []
only_one r rs front byte none is = cc

pub alone : {S : Type 0} (R : Rules S) (j : ℕ) (block : List ℕ) (s : S) (front : List ℕ) (fault : Fault) → run_from R j block s (front ∷ []) ≡ Err fault → read_reply R s front ≡ Err fault.reason
alone R j block s front fault e =
    elim (both_err j (read_reply R s front) (λ x. run_from R (j + 1) (drop 1 block) (learnt R block x) []) fault (sym (run-cons R j block s front []) ∙ e)) [
      | inl m ↦ absurd (run-none R (j + 1) (drop 1 block) (learnt R block m.0) fault m.2)
      | inr m ↦ m.1 ∙ ap (λ (f : Fault). Err f.reason) (sym m.2)
    ]

module _ {S : Type 0} (R : Rules S) (j : ℕ) (block : List ℕ) (s : S) (h : List ℕ) (hs : List (List ℕ)) (b r : List ℕ) (rs : List (List ℕ)) (a : List ℕ) (fault : Fault) (x : S) (first : read_reply R s h ≡ Ok x) (e : joined (h ∷ hs) ++ b ≡ joined (r ∷ rs) ++ a) (other : fault.reason ≢ reasons.Closed)
    (shortest : IsShortest (λ l f. run_from R j block s l ≡ Err f) (r ∷ rs)) where
  here : (reason : Reason) → read_reply R s r ≡ Err reason → fault ≡ record { round = j; reason = reason } → rs ≡ [] → ⊥
  here reason is same none =
      no_fault (read_reply R s) (reads R s) h r x reason first is (λ closed. other (ap (λ (f : Fault). f.reason) same ∙ closed))
      (λ front byte last. let t = shortest [] front byte (only_one r rs front byte none last) in alone R j block s front t.0 t.1 ∙ ap (λ (y : Reason). Err y) t.2)
      (joined hs ++ b) (joined rs ++ a) (both_split h hs b r rs a e)

  later : (y : S) → read_reply R s r ≡ Ok y → IsShortest (λ l f. run_from R (j + 1) (drop 1 block) (learnt R block y) l ≡ Err f) rs
  later y is = λ earlier front byte last.
      let t = shortest (r ∷ earlier) front byte (ap (λ (l : List (List ℕ)). r ∷ l) last) in
      let parts = both_err j (read_reply R s r) (λ x. run_from R (j + 1) (drop 1 block) (learnt R block x) (earlier ++ front ∷ [])) t.0 (sym (run-cons R j block s r (earlier ++ front ∷ [])) ∙ t.1) in
      elim parts [
        | inl m ↦ (t.0, ap (λ z. run_from R (j + 1) (drop 1 block) (learnt R block z) (earlier ++ front ∷ [])) (same_ok y m.0 (sym is ∙ m.1)) ∙ m.2, t.2)
        | inr m ↦ absurd (ok_not_err (read_reply R s) (reads R s) r y m.0 is m.1)
      ]

-- bytes that agree with whole replies have no fault in the last of them, but that of the end of the
-- link
pub run_fault : {S : Type 0} (R : Rules S) (j : ℕ) (block : List ℕ) (s : S) (hs rs : List (List ℕ)) (b a : List ℕ) (t : S) (fault : Fault) → run_from R j block s hs ≡ Ok t → run_from R j block s rs ≡ Err fault → length rs ≤ length hs → j + length rs ≤ suc fault.round
    → fault.reason ≢ reasons.Closed → IsShortest (λ l f. run_from R j block s l ≡ Err f) rs → joined hs ++ b ≡ joined rs ++ a → ⊥
run_fault R j block s hs [] b a t fault first second count last other shortest e = run-none R j block s fault second
run_fault R j block s [] (r ∷ rs) b a t fault first second count last other shortest e = absurd (omega arith)
run_fault R j block s (h ∷ hs) (r ∷ rs) b a t fault first second count last other shortest e =
    let p = both_ok j (read_reply R s h) (λ x. run_from R (j + 1) (drop 1 block) (learnt R block x) hs) t (sym (run-cons R j block s h hs) ∙ first) in
    let parts = both_err j (read_reply R s r) (λ x. run_from R (j + 1) (drop 1 block) (learnt R block x) rs) fault (sym (run-cons R j block s r rs) ∙ second) in
    elim parts [
      | inl m ↦
          let one = one_same (read_reply R s) (reads R s) h (joined hs ++ b) r (joined rs ++ a) p.0 m.0 p.1 m.1 (both_split h hs b r rs a e) in
          let state : p.0 ≡ m.0 = same_ok p.0 m.0 (sym p.1 ∙ ap (read_reply R s) one.0 ∙ m.1) in
          run_fault R (j + 1) (drop 1 block) (learnt R block m.0) hs rs b a t fault (ap (λ x. run_from R (j + 1) (drop 1 block) (learnt R block x) hs) (sym state) ∙ p.2) m.2 (omega arith) (omega arith) other
          (later R j block s h hs b r rs a fault p.0 p.1 e other shortest m.0 m.1) one.1
      | inr m ↦
          let none : rs ≡ [] = nil_from_length rs (omega (arith, ap (λ (f : Fault). f.round) m.2)) in
          here R j block s h hs b r rs a fault p.0 p.1 e other shortest m.0 m.1 m.2 none
    ]
