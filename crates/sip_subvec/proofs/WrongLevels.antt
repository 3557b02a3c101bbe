-- Levels that are stated wrong stay wrong for all but one challenge.
use Rattle.std.proofs.Common.{◌≡◌, ℕ, zero, suc, ◌+◌, ◌*◌, ◌-◌, ◌/◌, ◌%◌, ◌<◌, ◌≤◌, ◌^◌, Bool, true, false, eqb, cond, ◌&&◌, Option, List, [], ◌∷◌, ◌++◌, length, take, drop, refl, ap, sym, ◌∙◌, arith, inl, inr, length-append, length-take, length-drop, append_assoc}
use Rattle.std.specs.Prelude.{is_some, is_none, option_to_list, fold, zip}
use Rattle.std.proofs.Math.Nat.{pow-suc}
use Rattle.std.proofs.lemmas.Bool.{cases_Bool, and_parts, and_from, and_left, both_ways, false_from_ne_true}
use Rattle.std.proofs.lemmas.List.{take_all}
use Rattle.sip_field.specs.Prime.{IsPrime}
use Rattle.sip_vector.specs.Trees.{up}
use Rattle.sip_vector.proofs.TreeUpdates.{length-up}
use Rattle.sip_counts.specs.Counts.{count_below}
use Rattle.sip_counts.specs.Strategies.{replies}
use Rattle.sip_counts.proofs.Sums.{count_below-grows, count_below-none}
use Rattle.sip_counts.proofs.Talks.{replies-more}
use Rattle.sip_subvec.specs.AcceptsSub.{Siblings, widened, next_level}
use Rattle.sip_subvec.specs.Replies.{are_asked}
use Rattle.sip_subvec.specs.Counting.{are_all_asked}
use Rattle.sip_subvec.proofs.WeightedFolds.{by_some, by_none}
use Rattle.sip_subvec.proofs.Stretches.{agree, window, agree-inside, few_ups, window-up}

-- After these challenges the siblings of each level so far are those asked for, and the known level agrees with the true one.
unfoldable pub agrees : ℕ → (List ℕ → Siblings) → ℕ → ℕ → List ℕ → List ℕ → List ℕ → Bool
agrees p siblings lo hi known level [] = agree p known (window level lo hi)
agrees p siblings lo hi known level (x ∷ v) =
    are_asked lo hi (siblings []) && agrees p (λ w. siblings (x ∷ w)) (lo / 2) (hi / 2) (up p (widened known (siblings [])) x) (up p level x) v

-- ---- lengths

by_test : (b : Bool) (o : Option ℕ) → (cond b (is_some o) (is_none o)) ≡ true → length (option_to_list o) ≡ cond b 1 0
by_test true o h = by_some o h
by_test false o h = by_none o h

asked_lengths : (lo hi : ℕ) (s : Siblings) → are_asked lo hi s ≡ true → (length (option_to_list s.left) ≡ lo % 2) × (length (option_to_list s.right) ≡ 1 - hi % 2)
asked_lengths lo hi s h =
    let both = and_parts (cond (eqb (lo % 2) 1) (is_some s.left) (is_none s.left)) (cond (eqb (hi % 2) 0) (is_some s.right) (is_none s.right)) h in
    let left = by_test (eqb (lo % 2) 1) s.left both.0 in
    let right = by_test (eqb (hi % 2) 0) s.right both.1 in
    (left ∙ odd lo, right ∙ even hi)
  where
    odd : (n : ℕ) → cond (eqb (n % 2) 1) 1 0 ≡ n % 2
    odd n = grind (arith)

    even : (n : ℕ) → cond (eqb (n % 2) 0) 1 0 ≡ 1 - n % 2
    even n = grind (arith)

widened-length : (lo hi : ℕ) (s : Siblings) (known : List ℕ) → lo ≤ hi → length known ≡ hi + 1 - lo → are_asked lo hi s ≡ true → length (widened known s) ≡ 2 * (hi / 2 + 1 - lo / 2)
widened-length lo hi s known le len h =
    let w = asked_lengths lo hi s h in
    rw (length-append, length-append) (omega arith)

pairs-length : (lo hi m : ℕ) (level : List ℕ) → lo ≤ hi → hi < 2 * m → length level ≡ 2 * m → length (take (2 * (hi / 2 + 1 - lo / 2)) (drop (2 * (lo / 2)) level)) ≡ 2 * (hi / 2 + 1 - lo / 2)
pairs-length lo hi m level le lt len = simp (length-take, length-drop) (omega arith)

-- ---- one step

-- a wrong known level is right one level up for at most one challenge
first_step : (p : ℕ) → IsPrime p → (s : Siblings) (lo hi m : ℕ) (known level : List ℕ) → lo ≤ hi → hi < 2 * m → length level ≡ 2 * m → length known ≡ hi + 1 - lo → agree p known (window level lo hi) ≡ false → count_below p (λ x. are_asked lo hi s && agree p (up p (widened known s) x) (window (up p level x) (lo / 2) (hi / 2))) ≤ 1
first_step p prime s lo hi m known level le lt len_level len_known wrong =
    let n : ℕ = hi / 2 + 1 - lo / 2 in
    let pairs : List ℕ = take (2 * n) (drop (2 * (lo / 2)) level) in
    elim (cases_Bool (are_asked lo hi s)) [
      | inr e ↦ omega (arith, count_below-none p (λ x. are_asked lo hi s && agree p (up p (widened known s) x) (window (up p level x) (lo / 2) (hi / 2))) (λ x _. and_left (are_asked lo hi s) (agree p (up p (widened known s) x) (window (up p level x) (lo / 2) (hi / 2))) e))
      | inl e ↦
          let w = asked_lengths lo hi s e in
          let parts : widened known s ≡ option_to_list s.left ++ (known ++ option_to_list s.right) = append_assoc (option_to_list s.left) known (option_to_list s.right) in
          let differ : agree p (widened known s) pairs ≡ false = false_from_ne_true (agree p (widened known s) pairs)
          (λ k. both_ways (agree p known (window level lo hi)) wrong
          (agree-inside p (2 * (lo / 2)) (2 * n) lo hi (option_to_list s.left) known (option_to_list s.right) level (omega arith) len_known (omega arith) (rw parts at k))) in
          let few = few_ups p prime n (widened known s) pairs (widened-length lo hi s known le len_known e) (pairs-length lo hi m level le lt len_level) differ in
          let grows = count_below-grows p (λ x. are_asked lo hi s && agree p (up p (widened known s) x) (window (up p level x) (lo / 2) (hi / 2))) (λ x. agree p (up p (widened known s) x) (up p pairs x))
          (λ x _ k. rw window-up at ((and_parts (are_asked lo hi s) (agree p (up p (widened known s) x) (window (up p level x) (lo / 2) (hi / 2))) k).1)) in
          omega arith
    ]

-- after any challenges a known level that is wrong stays wrong for all but one next challenge
pub agrees-step : (p : ℕ) → IsPrime p → (siblings : List ℕ → Siblings) (n lo hi : ℕ) (known level v : List ℕ) → lo ≤ hi → hi < 2 ^ n → length level ≡ 2 ^ n → length known ≡ hi + 1 - lo → length v < n → agrees p siblings lo hi known level v ≡ false → count_below p (λ x. agrees p siblings lo hi known level (v ++ x ∷ [])) ≤ 1
unfolding agrees
agrees-step p prime siblings zero lo hi known level v le lt len_level len_known short wrong = absurd (omega arith)
agrees-step p prime siblings (suc m) lo hi known level [] le lt len_level len_known short wrong =
    let double : 2 ^ suc m ≡ 2 * 2 ^ m = rw pow-suc (omega arith) in
    first_step p prime (siblings []) lo hi (2 ^ m) known level le (omega arith) (omega arith) len_known wrong
agrees-step p prime siblings (suc m) lo hi known level (y ∷ v) le lt len_level len_known short wrong =
    let double : 2 ^ suc m ≡ 2 * 2 ^ m = rw pow-suc (omega arith) in
    let s : Siblings = siblings [] in
    let later : List ℕ → Bool = agrees p (λ w. siblings (y ∷ w)) (lo / 2) (hi / 2) (up p (widened known s) y) (up p level y) in
    elim (cases_Bool (are_asked lo hi s)) [
      | inr e ↦ omega (arith, count_below-none p (λ x. are_asked lo hi s && later (v ++ x ∷ [])) (λ x _. and_left (are_asked lo hi s) (later (v ++ x ∷ [])) e))
      | inl e ↦
          let inner : later v ≡ false = rw e at wrong in
          let ih = agrees-step p prime (λ w. siblings (y ∷ w)) m (lo / 2) (hi / 2) (up p (widened known s) y) (up p level y) v (omega arith) (omega arith)
          (length-up p y level (2 ^ m) (omega arith))
          (length-up p y (widened known s) (hi / 2 + 1 - lo / 2) (widened-length lo hi s known le len_known e))
          (omega arith) inner in
          let grows = count_below-grows p (λ x. are_asked lo hi s && later (v ++ x ∷ [])) (λ x. later (v ++ x ∷ [])) (λ x _ k. (and_parts (are_asked lo hi s) (later (v ++ x ∷ [])) k).1) in
          omega arith
    ]

-- ---- what is accepted

window-all : (lo hi : ℕ) (level : List ℕ) → lo ≡ 0 → length level ≤ hi + 1 → window level lo hi ≡ level
window-all lo hi level e le = rw e (take_all (hi + 1 - 0) level (omega arith))

-- where the folds agree at the end, the known levels agree after all challenges
pub agrees_from_folds : (p : ℕ) (siblings : List ℕ → Siblings) (lo hi : ℕ) (known level r : List ℕ) → lo ≤ hi → hi < 2 ^ length r → length level ≡ 2 ^ length r → are_all_asked lo hi (replies siblings r) ≡ true
    → agree p (fold (next_level p) known (zip (replies siblings r) r)) (fold (up p) level r) ≡ true → agrees p siblings lo hi known level r ≡ true
unfolding agrees are_all_asked
agrees_from_folds p siblings lo hi known level [] le lt len asked h =
    let one : 2 ^ 0 ≡ 1 = refl in
    rw (window-all lo hi level (omega arith) (omega arith)) h
agrees_from_folds p siblings lo hi known level (x ∷ r) le lt len asked h =
    let double : 2 ^ suc (length r) ≡ 2 * 2 ^ length r = rw pow-suc (omega arith) in
    let s : Siblings = siblings [] in
    let all = sym (ap (are_all_asked lo hi) (replies-more siblings x r)) ∙ asked in
    let both = and_parts (are_asked lo hi s) (are_all_asked (lo / 2) (hi / 2) (replies (λ w. siblings (x ∷ w)) r)) all in
    let rest = sym (ap (λ (ss : List Siblings). agree p (fold (next_level p) known (zip ss (x ∷ r))) (fold (up p) level (x ∷ r))) (replies-more siblings x r)) ∙ h in
    and_from (are_asked lo hi s) (agrees p (λ w. siblings (x ∷ w)) (lo / 2) (hi / 2) (up p (widened known s) x) (up p level x) r) both.0
    (agrees_from_folds p (λ w. siblings (x ∷ w)) (lo / 2) (hi / 2) (up p (widened known s) x) (up p level x) r (omega arith) (omega arith) (length-up p x level (2 ^ length r) (omega arith)) both.1 rest)
