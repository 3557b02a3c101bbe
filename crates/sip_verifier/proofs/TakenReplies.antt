-- Replies that were taken, whatever became of them: all before the last are whole, and the last one
-- is whole, or not whole, or no byte less of it shows its fault.
use Rattle.std.proofs.Common.{◌≡◌, ◌≢◌, inl, inr, ℕ, ◌+◌, ◌<◌, ◌≤◌, Result, Ok, Err, List, [], ◌∷◌, ◌++◌, length, drop, refl, sym, ap, subst, ◌∙◌, arith, length-append}
use Rattle.std.specs.Prelude.{IsTrue, is_ok}
use Rattle.sip_ports.specs.declared.port.TalkEvent.{TalkEvent}
use Rattle.sip_vector.specs.Answers.{Answer}
use Rattle.sip_vector.specs.Steps.{◌>>=◌}
use Rattle.sip_wire.specs.declared.message.Reason.{Reason}
use Rattle.sip_wire.specs.declared.message.Reason.TheVariants as reasons
use Rattle.sip_replies.specs.Protocols.{Rules, Protocol}
use Rattle.sip_replies.specs.Replies.{Fault, IsFaulty, IsStated, IsUnfinished, IsUnjudged, in_round, learnt, read_reply, run, run_from}
use Rattle.sip_replies.proofs.Ends.{last_of, snoc_same}
use Rattle.sip_replies.proofs.Fronts.{closed_or_not}
use Rattle.sip_replies.proofs.Passing.{run_none, run_step}
use Rattle.sip_replies.proofs.Reading.{read_reply-nil}
use Rattle.sip_replies.proofs.Running.{run-fault, run-whole}
use Rattle.sip_replies.proofs.Turns.{same_fault}

-- ---- one reply

-- a reply that came: whole, or not whole, or with a fault that no byte less shows
pub data IsTaken {S : Type 0} (R : Rules S) (t : S) (bytes : List ℕ) : Type 0 where
  came_whole : (u : S) → read_reply R t bytes ≡ Ok u → IsTaken R t bytes
  came_open : read_reply R t bytes ≡ Err reasons.Closed → IsTaken R t bytes
  came_faulty : (front : List ℕ) (byte : ℕ) → bytes ≡ front ++ byte ∷ []
      → read_reply R t front ≡ Err reasons.Closed → IsTaken R t bytes

-- the replies before the last led to a state, and the last one came there
pub record Ends {S : Type 0} (R : Rules S) (rs : List ℕ) (earlier : List (List ℕ)) (bytes : List ℕ) : Type 0 where
  pub state : S
  pub passed : run R rs earlier ≡ Ok state
  pub taken : IsTaken R state bytes

pub record AreTaken {S : Type 0} (R : Rules S) (rs : List ℕ) (replies : List (List ℕ)) : Type 0 where
  pub few : length replies ≤ length rs
  pub ends : (earlier : List (List ℕ)) (bytes : List ℕ) → replies ≡ earlier ++ bytes ∷ [] → Ends R rs earlier bytes

-- ---- a fault of the replies before

module _ {S : Type 0} (R : Rules S) where
  -- a fault stays with more replies behind it, and lies among those that have it
  abbrev Stays : ℕ → List ℕ → S → List (List ℕ) → List (List ℕ) → Fault → Type 0
  Stays j rs s earlier more f = (run_from R j rs s (earlier ++ more) ≡ Err f) × (f.round < j + length earlier)

  one_stays : (j : ℕ) (rs : List ℕ) (s : S) (bytes : List ℕ) (earlier more : List (List ℕ)) (f : Fault) (r : Result S Reason) → read_reply R s bytes ≡ r
      → ((u : S) → run_from R (j + 1) (drop 1 rs) (learnt R rs u) earlier ≡ Err f → Stays (j + 1) (drop 1 rs) (learnt R rs u) earlier more f)
      → run_from R j rs s (bytes ∷ earlier) ≡ Err f → Stays j rs s (bytes ∷ earlier) more f
  one_stays j rs s bytes earlier more f (Err reason) is next e =
      let same : record { round = j; reason = reason } ≡ f = same_fault {X = S} (record { round = j; reason = reason }) f (sym (run_step R j rs s bytes earlier (Err reason) is) ∙ e) in
      let round : j ≡ f.round = ap (λ (x : Fault). x.round) same in
      (run_step R j rs s bytes (earlier ++ more) (Err reason) is ∙ ap (λ (x : Fault). Err x) same, omega (arith, round))
  one_stays j rs s bytes earlier more f (Ok u) is next e =
      let later = next u (sym (run_step R j rs s bytes earlier (Ok u) is) ∙ e) in
      (run_step R j rs s bytes (earlier ++ more) (Ok u) is ∙ later.0, omega (arith, later.1))

  stays : (j : ℕ) (rs : List ℕ) (s : S) (earlier more : List (List ℕ)) (f : Fault) → run_from R j rs s earlier ≡ Err f → Stays j rs s earlier more f
  stays j rs s [] more f e = absurd (let both : Ok s ≡ Err f = sym (run_none R j rs s) ∙ e in cc)
  stays j rs s (bytes ∷ earlier) more f e =
      one_stays j rs s bytes earlier more f (read_reply R s bytes) refl (λ u. stays (j + 1) (drop 1 rs) (learnt R rs u) earlier more f) e

  -- a reply whose bytes have no fault but that more is to come
  read_closed : (rs : List ℕ) (earlier : List (List ℕ)) (t : S) (front : List ℕ) → run R rs earlier ≡ Ok t
      → run R rs (earlier ++ front ∷ []) ≡ Err (record { round = length earlier; reason = reasons.Closed })
      → (r : Result S Reason) → read_reply R t front ≡ r → read_reply R t front ≡ Err reasons.Closed
  read_closed rs earlier t front passed e (Ok u) is = absurd (let both = sym (run-whole R rs earlier t passed front u is) ∙ e in cc)
  read_closed rs earlier t front passed e (Err reason) is =
      let same = same_fault {X = S} (record { round = length earlier; reason = reason }) (record { round = length earlier; reason = reasons.Closed }) (sym (run-fault R rs earlier t passed front reason is) ∙ e) in
      is ∙ ap (λ (x : Fault). Err x.reason) same

  module _ (rs : List ℕ) (replies earlier : List (List ℕ)) (bytes : List ℕ) (split : replies ≡ earlier ++ bytes ∷ []) where
    count : length replies ≡ length earlier + 1
    count = ap length split ∙ length-append earlier (bytes ∷ [])

    -- where no fault lies before the last reply, those before it passed
    ends_at : ((f : Fault) → run R rs replies ≡ Err f → length replies ≤ f.round + 1)
        → ((t : S) → run R rs earlier ≡ Ok t → IsTaken R t bytes) → (r : Result S Fault) → run R rs earlier ≡ r → Ends R rs earlier bytes
    ends_at at_last taken (Ok t) e = record { state = t; passed = e; taken = taken t e }
    ends_at at_last taken (Err f) e =
        let more = stays 0 rs R.start earlier (bytes ∷ []) f e in
        absurd (omega (arith, count, more.1, at_last f (ap (run R rs) split ∙ more.0)))

    -- the last one is whole, or it has the replies' fault
    last_reply : (t : S) → run R rs earlier ≡ Ok t → (r : Result S Reason) → read_reply R t bytes ≡ r
        → ((reason : Reason) → run R rs replies ≡ Err (record { round = length earlier; reason = reason }) → IsTaken R t bytes) → IsTaken R t bytes
    last_reply t passed (Ok u) is by_fault = came_whole u is
    last_reply t passed (Err reason) is by_fault = by_fault reason (ap (run R rs) split ∙ run-fault R rs earlier t passed bytes reason is)

-- ---- the states of replies

module _ {S : Type 0} (R : Rules S) (rs : List ℕ) (replies : List (List ℕ)) where
  -- replies without a fault, but that the last one may not be whole
  pub unfinished_taken : IsUnfinished R rs replies → AreTaken R rs replies
  unfinished_taken u = record {
    few = u.few;
    ends = λ earlier bytes split.
        ends_at R rs replies earlier bytes split (λ f e. omega (arith, (u.passes f e).1))
        (λ t passed. last_reply R rs replies earlier bytes split t passed (read_reply R t bytes) refl
        (λ reason e. came_open (read_closed R rs earlier t bytes passed
        (sym (ap (run R rs) split) ∙ e ∙ ap (λ (x : Reason). Err (record { round = length earlier; reason = x })) (u.passes (record { round = length earlier; reason = reason }) e).0)
        (read_reply R t bytes) refl)))
        (run R rs earlier) refl;
  }

  -- replies that were read without a fault
  pub whole_taken : (t : S) → length replies ≤ length rs → run R rs replies ≡ Ok t → AreTaken R rs replies
  whole_taken t few is = unfinished_taken (record { few = few; passes = λ f e. absurd (let both : Ok t ≡ Err f = sym is ∙ e in cc) })

module _ {S : Type 0} (P : Protocol S) (rs : List ℕ) (replies : List (List ℕ)) where
  -- replies that are accepted
  stated : (answer : Answer) (few : length replies ≤ length rs) (r : Result S Fault) → run P.rules rs replies ≡ r
      → ◌≡◌ {A = Result Answer Fault} (r >>= λ s. in_round (length rs) (P.finish s)) (Ok answer) → AreTaken P.rules rs replies
  stated answer few (Ok t) e found = whole_taken P.rules rs replies t few e
  stated answer few (Err f) e found = absurd cc

  pub stated_taken : (answer : Answer) → IsStated P rs replies answer → AreTaken P.rules rs replies
  stated_taken answer s = stated answer (omega (arith, s.all)) (run P.rules rs replies) refl s.found

  -- replies whose last one was not judged
  module _ (ended : List TalkEvent) (u : IsUnjudged P rs replies ended) where
    unjudged_reply : (t : S) → run P.rules rs u.earlier ≡ Ok t → (bytes : List ℕ) → u.last ≡ bytes → IsTaken P.rules t u.last
    unjudged_reply t passed [] e = came_open (ap (read_reply P.rules t) e ∙ read_reply-nil P.rules t)
    unjudged_reply t passed (b ∷ bytes) e =
        let x = last_of b bytes in
        came_faulty x.0 x.1 (e ∙ x.2) (read_closed P.rules rs u.earlier t x.0 passed (u.shortest x.0 x.1 (e ∙ x.2)) (read_reply P.rules t x.0) refl)

    unjudged_ends : (r : Result S Fault) → run P.rules rs u.earlier ≡ r → IsTrue (is_ok r) → Ends P.rules rs u.earlier u.last
    unjudged_ends (Ok t) e ok = record { state = t; passed = e; taken = unjudged_reply t e u.last refl }
    unjudged_ends (Err f) e ok = absurd cc

    pub unjudged_taken : AreTaken P.rules rs replies
    unjudged_taken = record {
      few = omega (arith, ap length u.taken, length-append u.earlier (u.last ∷ []), u.few);
      ends = λ earlier bytes split.
          let same = snoc_same u.earlier earlier u.last bytes (sym u.taken ∙ split) in
          subst (λ (e : List (List ℕ)). Ends P.rules rs e bytes) same.0
          (subst (Ends P.rules rs u.earlier) same.1 (unjudged_ends (run P.rules rs u.earlier) refl u.passed));
    }

  -- replies with a fault
  module _ (fault : Fault) (f : IsFaulty P rs replies fault) where
    few_faulty : length replies ≤ length rs
    few_faulty = omega (arith, f.taken)

    faulty_reply : (earlier : List (List ℕ)) (bytes : List ℕ) (split : replies ≡ earlier ++ bytes ∷ []) (t : S) → run P.rules rs earlier ≡ Ok t
        → fault.reason ≢ reasons.Closed → (same : List ℕ) → bytes ≡ same → IsTaken P.rules t bytes
    faulty_reply earlier bytes split t passed other [] e = came_open (ap (read_reply P.rules t) e ∙ read_reply-nil P.rules t)
    faulty_reply earlier bytes split t passed other (b ∷ more) e =
        let x = last_of b more in
        came_faulty x.0 x.1 (e ∙ x.2) (read_closed P.rules rs earlier t x.0 passed
        (f.shortest earlier x.0 x.1 (split ∙ ap (λ (l : List ℕ). earlier ++ l ∷ []) (e ∙ x.2)) other) (read_reply P.rules t x.0) refl)

    by_run : (r : Result S Fault) → run P.rules rs replies ≡ r
        → ◌≡◌ {A = Result Answer Fault} (r >>= λ s. in_round (length rs) (P.finish s)) (Err fault) → AreTaken P.rules rs replies
    by_run (Ok t) e found = whole_taken P.rules rs replies t few_faulty e
    by_run (Err g) e found =
        let same : g ≡ fault = same_fault {X = Answer} g fault found in
        let only : (h : Fault) → run P.rules rs replies ≡ Err h → h ≡ fault = λ h is. same_fault {X = S} h g (sym is ∙ e) ∙ same in
        record {
          few = few_faulty;
          ends = λ earlier bytes split.
              ends_at P.rules rs replies earlier bytes split (λ h is. omega (arith, f.taken, ap (λ (x : Fault). x.round) (only h is)))
              (λ t passed. last_reply P.rules rs replies earlier bytes split t passed (read_reply P.rules t bytes) refl
              (λ reason is. let its = ap (λ (x : Fault). x.reason) (only (record { round = length earlier; reason = reason }) is) in
              elim (closed_or_not fault.reason) [
                | inl closed ↦ came_open (read_closed P.rules rs earlier t bytes passed
                    (sym (ap (run P.rules rs) split) ∙ is ∙ ap (λ (x : Reason). Err (record { round = length earlier; reason = x })) (its ∙ closed))
                    (read_reply P.rules t bytes) refl)
                | inr other ↦ faulty_reply earlier bytes split t passed other bytes refl
              ]))
              (run P.rules rs earlier) refl;
        }

    pub faulty_taken : AreTaken P.rules rs replies
    faulty_taken = by_run (run P.rules rs replies) refl f.found
