-- Replies whose bytes agree with honest ones: where they are accepted they are those, and they have no fault but that of the end of
-- the link. Whatever the protocol, where the honest ones are accepted.
use Rattle.std.proofs.Common.{◌≡◌, ◌≢◌, ℕ, Result, Ok, Err, List, ◌++◌, length, refl, sym, ap, ◌∙◌, arith}
use Rattle.sip_vector.specs.Answers.{Answer}
use Rattle.sip_vector.specs.Steps.{◌>>=◌}
use Rattle.sip_wire.specs.declared.message.Reason.{Reason}
use Rattle.sip_wire.specs.declared.message.Reason.TheVariants as reasons
use Rattle.sip_replies.specs.Protocols.{Protocol}
use Rattle.sip_replies.specs.Replies.{Fault, in_round, run, verdict, IsFaulty, IsStated, joined}
use Rattle.sip_replies.proofs.Agreeing.{run_same, run_fault}

-- ---- verdicts

same_ok : {E X : Type 0} (a b : X) → ◌≡◌ {A = Result X E} (Ok a) (Ok b) → a ≡ b
same_ok a b e = cc

ok_first : {S X : Type 0} (r : Result S Fault) (f : S → Result X Fault) (x : X) → (r >>= f) ≡ Ok x
    → (s : S) × (r ≡ Ok s)
ok_first (Ok s) f x e = (s, refl)
ok_first (Err fault) f x e = absurd cc

fault_round : {X : Type 0} (round : ℕ) (r : Result X Reason) (fault : Fault)
    → in_round round r ≡ Err fault → fault.round ≡ round
fault_round round (Ok x) fault e = absurd cc
fault_round round (Err reason) fault e = let same : fault
    ≡ record { round = round; reason = reason } = cc in ap (λ (f : Fault). f.round) same

module _ {S : Type 0} (P : Protocol S) (block : List ℕ) where
  -- where a verdict is an answer, all replies are whole
  states : (replies : List (List ℕ)) (answer : Answer) → verdict P block replies ≡ Ok answer
      → (s : S) × (run P.rules block replies ≡ Ok s)
  states replies answer e = ok_first {X = Answer} (run P.rules block replies)
      (λ s. in_round (length block) (P.finish s)) answer e

  -- where all replies are whole, a verdict that is a fault comes after the last one
  fault_last : (replies : List (List ℕ)) (s : S) (fault : Fault) → run P.rules block replies ≡ Ok s
      → verdict P block replies ≡ Err fault → fault.round ≡ length block
  fault_last replies s fault is e = fault_round (length block)
      (P.finish s) fault (sym (ap (λ (r : Result S Fault). r >>= λ x. in_round (length block)
      (P.finish x)) is) ∙ e)

  -- a fault of a reply is the verdict
  fault_first : (replies : List (List ℕ)) (fault : Fault) → run P.rules block replies ≡ Err fault
      → verdict P block replies ≡ Err fault
  fault_first replies fault is = ap (λ (r : Result S Fault). r >>= λ x. in_round (length block)
      (P.finish x)) is

  -- ---- honest replies, and others

  module _ (honest : List (List ℕ)) (truth : Answer) (own : IsStated P block honest truth)
      (replies : List (List ℕ)) (b a : List ℕ) (agree : joined honest ++ b ≡ joined replies ++ a)
    where
      -- whole replies are the honest ones
      whole_honest : (s : S) → run P.rules block replies ≡ Ok s → length replies ≡ length block
          → (honest ≡ replies) × (b ≡ a)
      whole_honest s is all =
          let its = states honest truth own.found in
          run_same P.rules 0 block P.rules.start honest replies b a its.0 s its.1 is
          (all ∙ sym own.all) agree

      pub stated_honest : (answer : Answer) → IsStated P block replies answer
          → (b ≡ a) × (answer ≡ truth)
      stated_honest answer stated =
          let its = states replies answer stated.found in
          let same = whole_honest its.0 its.1 stated.all in (
            same.1,
            same_ok {E = Fault} answer truth
                (sym stated.found ∙ ap (verdict P block) (sym same.0) ∙ own.found),
          )

      module _ (fault : Fault) (faulty : IsFaulty P block replies fault)
          (other : fault.reason ≢ reasons.Closed) where
        -- the fault would be that of the tests after the last reply
        no_last_fault : (s : S) → run P.rules block replies ≡ Ok s → ⊥
        no_last_fault s is =
            let last = fault_last replies s fault is faulty.found in
            let same = whole_honest s is (omega (arith, last, faulty.taken)) in
            let both : ◌≡◌ {A = Result Answer Fault} (Ok truth) (Err fault) = sym own.found
            ∙ ap (verdict P block) same.0 ∙ faulty.found in cc

        -- or that of the last reply
        no_reply_fault : (f : Fault) → run P.rules block replies ≡ Err f → ⊥
        no_reply_fault f is =
            let found : ◌≡◌ {A = Result Answer Fault} (Err f)
            (Err fault) = sym (fault_first replies f is) ∙ faulty.found in
            let same : f ≡ fault = cc in
            let its = states honest truth own.found in
            run_fault P.rules 0 block P.rules.start honest replies b a its.0 fault its.1
            (is ∙ ap (λ (g : Fault). Err g) same) (omega (arith, faulty.taken, own.all))
            (omega (arith, faulty.taken)) other
            (λ earlier front byte e. (
              record { round = length earlier; reason = reasons.Closed },
              faulty.shortest earlier front byte e other,
              refl,
            )) agree

        by_run : (r : Result S Fault) → run P.rules block replies ≡ r → ⊥
        by_run (Ok s) is = no_last_fault s is
        by_run (Err f) is = no_reply_fault f is

        pub none_faulty : ⊥
        none_faulty = by_run (run P.rules block replies) refl
