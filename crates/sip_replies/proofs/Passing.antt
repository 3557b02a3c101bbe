-- What passed a test, what comes of a step that passed, and replies one after another.
use Rattle.std.proofs.Common.{◌≡◌, ℕ, ◌+◌, Bool, true, false, Result, Ok, Err, List, [], ◌∷◌, drop, refl, ap}
use Rattle.sip_vector.specs.Steps.{◌>>=◌, needs}
use Rattle.sip_wire.specs.declared.message.Reason.{Reason}
use Rattle.sip_replies.specs.Protocols.{Rules}
use Rattle.sip_replies.specs.Replies.{Fault, at_end, in_round, learnt, read_reply, run_from}

-- ---- steps

-- what a step that passed went through
pub record Passed {A B E : Type 0} (r : Result A E) (f : A → Result B E) (y : B) : Type 0 where
  pub x : A
  pub first : r ≡ Ok x
  pub then : f x ≡ Ok y

-- a step that passed had a value, and what followed it passed
pub step_passed : {A B E : Type 0} (r : Result A E) (f : A → Result B E) (y : B) → (r >>= f) ≡ Ok y → Passed r f y
step_passed (Ok x) f y e = record { x = x; first = refl; then = e }
step_passed (Err reason) f y e = absurd (cc)

-- a test that passed is true
pub test_passed : {B E : Type 0} (test : Bool) (reason : E) (f : Unit {0} → Result B E) (y : B) → (needs test reason >>= f) ≡ Ok y → (test ≡ true) × (f tt ≡ Ok y)
test_passed true reason f y e = (refl, e)
test_passed false reason f y e = absurd (cc)

-- values that passed as one are the same
pub same_ok : {A E : Type 0} (x y : A) → ◌≡◌ {A = Result A E} (Ok x) (Ok y) → x ≡ y
same_ok x y e = cc

-- where a reply ends with its bytes, nothing follows, and it states what was read
pub at_end_parts : {X : Type 0} (x y : X) (rest : List ℕ) → at_end x rest ≡ Ok y
    → (rest ≡ []) × (x ≡ y)
at_end_parts x y [] e = (refl, same_ok {E = Reason} x y e)
at_end_parts x y (b ∷ rest) e = absurd (cc)

pub at_end_is : {X : Type 0} (x y : X) (rest : List ℕ) → at_end x rest ≡ Ok y → x ≡ y
at_end_is x y rest e = (at_end_parts x y rest e).1

-- a value that passed
abbrev ok_of : {X : Type 0} → X → Result X Reason
ok_of x = Ok x

-- a round that passed is a reply that did
pub round_passed : {X : Type 0} (j : ℕ) (r : Result X Reason) (x : X) → in_round j r ≡ Ok x → r ≡ Ok x
round_passed {X} j (Ok y) x e = ap (λ (k : X). ok_of k) (same_ok {E = Fault} y x e)
round_passed j (Err reason) x e = absurd (cc)

-- ---- replies

module _ {S : Type 0} (R : Rules S) where
  -- one reply that was read so, or refused, and those behind it
  pub run_step : (j : ℕ) (rs : List ℕ) (s : S) (bytes : List ℕ) (more : List (List ℕ)) (r : Result S Reason) → read_reply R s bytes ≡ r
      → run_from R j rs s (bytes ∷ more) ≡ (in_round j r >>= λ t. run_from R (j + 1) (drop 1 rs) (learnt R rs t) more)
  unfolding run_from
  run_step j rs s bytes more r is =
      ap (λ (x : Result S Reason). in_round j x >>= λ t. run_from R (j + 1) (drop 1 rs) (learnt R rs t) more) is

  pub run_is : (j : ℕ) (rs : List ℕ) (s : S) (bytes : List ℕ) (more : List (List ℕ)) (t : S) → read_reply R s bytes ≡ Ok t
      → run_from R j rs s (bytes ∷ more) ≡ run_from R (j + 1) (drop 1 rs) (learnt R rs t) more
  run_is j rs s bytes more t is = run_step j rs s bytes more (ok_of t) is

  -- no replies lead nowhere
  pub run_none : (j : ℕ) (rs : List ℕ) (s : S) → run_from R j rs s [] ≡ Ok s
  unfolding run_from
  run_none j rs s = refl

  -- what one reply states, and where those behind it lead
  pub record RunParts (j : ℕ) (rs : List ℕ) (s : S) (bytes : List ℕ) (more : List (List ℕ)) (t : S) : Type 0 where
    pub next : S
    pub first : read_reply R s bytes ≡ Ok next
    pub rest : run_from R (j + 1) (drop 1 rs) (learnt R rs next) more ≡ Ok t

  -- replies that passed did so one by one
  pub run_parts : (j : ℕ) (rs : List ℕ) (s : S) (bytes : List ℕ) (more : List (List ℕ)) (t : S) → run_from R j rs s (bytes ∷ more) ≡ Ok t → RunParts j rs s bytes more t
  unfolding run_from
  run_parts j rs s bytes more t e =
      let a = step_passed {B = S} {E = Fault} (in_round j (read_reply R s bytes)) (λ u. run_from R (j + 1) (drop 1 rs) (learnt R rs u) more) t e in
      record { next = a.x; first = round_passed j (read_reply R s bytes) a.x a.first; rest = a.then }
