-- Replies one by one: what one reply more makes of those before it.
use Rattle.std.proofs.Common.{◌≡◌, ℕ, suc, ◌+◌, Result, Ok, Err, List, [], ◌∷◌, ◌++◌, length, drop, refl, sym, ap, ◌∙◌, arith}
use Rattle.std.proofs.Math.Seq.{drop-nil}
use Rattle.sip_vector.specs.Steps.{◌>>=◌}
use Rattle.sip_wire.specs.declared.message.Reason.{Reason}
use Rattle.sip_replies.specs.Protocols.{Rules}
use Rattle.sip_replies.specs.Replies.{Fault, in_round, learnt, read_reply, run_from, run}

run_from-is : {S : Type 0} (R : Rules S) (j : ℕ) (rs : List ℕ) (s : S) (bytes : List ℕ) (more : List (List ℕ)) (r : Result S Reason) → read_reply R s bytes ≡ r
    → run_from R j rs s (bytes ∷ more) ≡ (in_round j r >>= λ t. run_from R (j + 1) (drop 1 rs) (learnt R rs t) more)
unfolding run_from
run_from-is R j rs s bytes more r is = ap (λ (x : Result _ Reason). in_round j x >>= λ t. run_from R (j + 1) (drop 1 rs) (learnt R rs t) more) is

-- the state behind one more reply
behind : {S : Type 0} → Rules S → ℕ → List ℕ → Result S Reason → Result S Fault
behind R j rs r = in_round j r >>= λ u. Ok (learnt R rs u)

same_state : {S : Type 0} (s t : S) → ◌≡◌ {A = Result S Fault} (Ok s) (Ok t) → s ≡ t
same_state s t e = cc

drop_one : (n : ℕ) (rs : List ℕ) → drop n (drop 1 rs) ≡ drop (suc n) rs
drop_one n [] = drop-nil n ∙ sym (drop-nil (suc n))
drop_one n (r ∷ rs) = refl

next_by : {S : Type 0} (R : Rules S) (j : ℕ) (rs : List ℕ) (s : S) (x : List ℕ) (xs : List (List ℕ)) (t : S) (bytes : List ℕ) (r : Result S Reason)
    → ((u : S) → run_from R (j + 1) (drop 1 rs) u xs ≡ Ok t → run_from R (j + 1) (drop 1 rs) u (xs ++ bytes ∷ []) ≡ behind R ((j + 1) + length xs) (drop (length xs) (drop 1 rs)) r)
    → (r0 : Result S Reason) → read_reply R s x ≡ r0 → run_from R j rs s (x ∷ xs) ≡ Ok t → run_from R j rs s (x ∷ (xs ++ bytes ∷ [])) ≡ behind R (j + suc (length xs)) (drop (suc (length xs)) rs) r
next_by R j rs s x xs t bytes r later (Err reason) e passed = absurd (let both = sym (run_from-is R j rs s x xs (Err reason) e) ∙ passed in cc)
next_by R j rs s x xs t bytes r later (Ok u) e passed =
    let count : (j + 1) + length xs ≡ j + suc (length xs) = omega arith in
    run_from-is R j rs s x (xs ++ bytes ∷ []) (Ok u) e
    ∙ later (learnt R rs u) (sym (run_from-is R j rs s x xs (Ok u) e) ∙ passed)
    ∙ ap (λ (k : ℕ). behind R k (drop (length xs) (drop 1 rs)) r) count
    ∙ ap (λ (l : List ℕ). behind R (j + suc (length xs)) l r) (drop_one (length xs) rs)

run_from-next : {S : Type 0} (R : Rules S) (j : ℕ) (rs : List ℕ) (s : S) (replies : List (List ℕ)) (t : S) (bytes : List ℕ) (r : Result S Reason) → run_from R j rs s replies ≡ Ok t → read_reply R t bytes ≡ r
    → run_from R j rs s (replies ++ bytes ∷ []) ≡ behind R (j + length replies) (drop (length replies) rs) r
unfolding run_from behind
run_from-next R j rs s [] t bytes r passed is =
    let same = same_state s t passed in
    let count : j ≡ j + 0 = omega arith in
    run_from-is R j rs s bytes [] r (ap (λ x. read_reply R x bytes) same ∙ is) ∙ ap (λ (k : ℕ). behind R k rs r) count
run_from-next R j rs s (x ∷ xs) t bytes r passed is =
    next_by R j rs s x xs t bytes r (λ u before. run_from-next R (j + 1) (drop 1 rs) u xs t bytes r before is) (read_reply R s x) refl passed

module _ {S : Type 0} (R : Rules S) (block : List ℕ) (replies : List (List ℕ)) (t : S) (passed : run R block replies ≡ Ok t) (bytes : List ℕ) where
  -- it has a fault
  pub run-fault : (reason : Reason) → read_reply R t bytes ≡ Err reason → run R block (replies ++ bytes ∷ []) ≡ Err (record { round = length replies; reason = reason })
  unfolding behind
  run-fault reason is =
      let count : 0 + length replies ≡ length replies = omega arith in
      run_from-next R 0 block R.start replies t bytes (Err reason) passed is ∙ ap (λ (k : ℕ). behind R k (drop (length replies) block) (Err reason)) count

  -- it is whole
  pub run-whole : (u : S) → read_reply R t bytes ≡ Ok u → run R block (replies ++ bytes ∷ []) ≡ Ok (learnt R (drop (length replies) block) u)
  unfolding behind
  run-whole u is = run_from-next R 0 block R.start replies t bytes (Ok u) passed is

-- no replies lead nowhere
pub run-none : {S : Type 0} (R : Rules S) (block : List ℕ) → run R block [] ≡ Ok R.start
unfolding run_from
run-none R block = refl
