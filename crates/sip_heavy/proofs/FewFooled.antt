-- A strategy has a wrong list of leaves accepted at few vectors of challenges.
use Rattle.std.proofs.Common.{◌≡◌, ◌≢◌, ℕ, zero, suc, ◌-◌, ◌*◌, ◌<◌, ◌≤◌, ◌^◌, Bool, true, false, not, Option, Some, None, Result, Ok, Err, is_ok, List, [], ◌∷◌, length, ℤ, refl, ap, sym, subst, ◌∙◌, arith, inl, inr}
use Rattle.std.specs.Prelude.{◌==◌}
use Rattle.std.proofs.lemmas.Bool.{cases_Bool, and_parts, not-true, both_ways, false_from_ne_true}
use Rattle.sip_field.specs.Prime.{IsPrime}
use Rattle.sip_counts.specs.Counts.{counted}
use Rattle.sip_counts.specs.Strategies.{replies, all_there, is_wrong, takes_wrong}
use Rattle.sip_counts.proofs.Vectors.{counted-grows, counted-none}
use Rattle.sip_counts.proofs.Talks.{replies-more}
use Rattle.sip_vector.specs.Steps.{◌>>=◌}
use Rattle.sip_vector.specs.Trees.{Counted}
use Rattle.sip_replies.specs.Replies.{in_round}
use Rattle.sip_wire.specs.declared.message.Node.{Node}
use Rattle.sip_wire.specs.declared.message.Reason.{Reason}
use Rattle.sip_replies.proofs.SameEntries.{same_entries}
use Rattle.sip_heavy.specs.AcceptsHeavy.{HeavyQuestion, width, known_after, top_test, heavy_entries, leaves_of, verdict, accepts}
use Rattle.sip_heavy.specs.Counting.{LeavesStand, accepts_over, are_right_over, top_of}
use Rattle.sip_heavy.specs.Honest.{heavy_of}
use Rattle.sip_heavy.specs.Rising.{Rises}
use Rattle.sip_heavy.proofs.Levels.{received_rise, merged_none}
use Rattle.sip_heavy.specs.TrueNodes.{Spot}
use Rattle.sip_heavy.proofs.WrongLevels.{is_clear}
use Rattle.sip_heavy.proofs.ClearedLevels.{nodes_of, is_there, nodes_from_reply, clears, few_clear}
use Rattle.sip_heavy.proofs.AcceptedLevels.{first_there, accepted_clears}
use Rattle.sip_heavy.proofs.TrueLevels.{sum_of, true_level, top_hash, top_count}
use Rattle.sip_heavy.proofs.SaidLeaves.{heavy_from, heavy_are, heavy_within, leaves_tell, said_right, stand_counts, stand_length}

-- ---- where a wrong list is taken

pub ok_parts : {A B E : Type 0} (r : Result A E) (f : A → Result B E) → is_ok (r >>= f) ≡ true → (x : A) × ((r ≡ Ok x) × (is_ok (f x) ≡ true))
ok_parts (Ok x) f e = (x, (refl, e))
ok_parts (Err err) f e = absurd cc

pub round_ok : (j : ℕ) (r : Result (Unit {0}) Reason) (x : Unit {0}) → in_round j r ≡ Ok x → r ≡ Ok tt
round_ok j (Ok u) x e = refl
round_ok j (Err reason) x e = absurd cc

module _ (p : ℕ) (q : HeavyQuestion) (leaves : List Counted) (numbers : List ℤ) (strategy : List ℕ → Option (List Node)) (prime : IsPrime p) (long : length leaves ≡ 2 ^ q.depth) (stand : LeavesStand p q.form leaves numbers) (total : sum_of leaves ≡ q.total) (few : q.total < p) where
  abbrev d : ℕ
  d = q.depth

  abbrev t : ℕ
  t = q.at_least

  abbrev truth : ℕ → Spot
  truth = true_level p leaves

  abbrev wrongly : List ℕ → Bool
  wrongly = takes_wrong (accepts_over p q leaves) (are_right_over p q numbers) strategy

  abbrev cleared : List ℕ → Bool
  cleared = clears p q d 0 strategy truth (heavy_from t 0 numbers) []

  record Taken (r : List ℕ) : Type 0 where
    all : List (List Node)
    top : List Node
    there : all_there (replies strategy r) ≡ Some all
    known : known_after p q 0 [] r all ≡ Ok top
    ends : top_test q (top_of p leaves r).hash top ≡ Ok tt
    wrong : heavy_entries p q.form t (leaves_of all) ≢ heavy_of t numbers

  taken_at : (r : List ℕ) → wrongly r ≡ true → Taken r
  unfolding takes_wrong verdict
  taken_at r h = by_all (all_there (replies strategy r)) refl h
    where
      by_all : (o : Option (List (List Node))) → all_there (replies strategy r) ≡ o → is_wrong (accepts_over p q leaves r) (are_right_over p q numbers) o ≡ true → Taken r
      by_all None is k = absurd cc
      by_all (Some all) is k =
          let root : ℕ = (top_of p leaves r).hash in
          let both = and_parts (accepts p q root r all) (not (are_right_over p q numbers all)) k in
          let good = and_parts (length all == length r) (is_ok (verdict p q root r all)) both.0 in
          let known = ok_parts (known_after p q 0 [] r all) (λ top. in_round q.depth (top_test q root top) >>= λ _. Ok (heavy_entries p q.form t (leaves_of all))) good.1 in
          let ends = ok_parts (in_round q.depth (top_test q root known.0)) (λ _. Ok (heavy_entries p q.form t (leaves_of all))) known.1.1 in
          record {
            all = all;
            top = known.0;
            there = is;
            known = known.1.0;
            ends = round_ok q.depth (top_test q root known.0) ends.0 ends.1.0;
            wrong = λ same. both_ways (are_right_over p q numbers all) (not-true (are_right_over p q numbers all) both.1) ((same_entries (heavy_entries p q.form t (leaves_of all)) (heavy_of t numbers)).1 same);
          }

  -- what is taken has become clear
  taken_clears : (r : List ℕ) → length r ≡ d → wrongly r ≡ true → cleared r ≡ true
  taken_clears r e h =
      let w = taken_at r h in
      let size : length leaves ≡ 2 ^ length r = rw e long in
      let same : length numbers ≡ length leaves = stand_length p q.form leaves numbers stand in
      let are = stand_counts p q.form leaves numbers stand in
      accepted_clears p (top_of p leaves r).hash q d 0 strategy truth (heavy_from t 0 numbers) [] r w.all w.top e (omega arith) tt (heavy_within t (2 ^ d) 0 numbers (omega (arith, long, same))) w.there w.known w.ends
      (top_hash p leaves r size are) (top_count p leaves r size are ∙ total)

  -- without a challenge nothing is taken
  none_taken : (r : List ℕ) → length r ≡ 0 → Taken r → ⊥
  unfolding known_after
  none_taken (x ∷ r) e w = absurd (omega arith)
  none_taken [] e w =
      let nil : [] ≡ w.all = cc (w.there) in
      let known : known_after p q 0 [] [] [] ≡ Ok w.top = ap (known_after p q 0 [] []) nil ∙ w.known in
      let top : [] ≡ w.top = cc (known) in
      let ends : top_test q (top_of p leaves []).hash [] ≡ Ok tt = ap (top_test q (top_of p leaves []).hash) top ∙ w.ends in
      absurd (cc (ends))

  -- where it is clear from the start, the leaves are right
  right_leaves : (o : Option (List Node)) (received : List Node) → o ≡ Some received → (nodes : Option (List Node)) → nodes_of q 0 [] o ≡ nodes → is_there (is_clear p truth (heavy_from t 0 numbers)) nodes ≡ true
      → heavy_entries p q.form t received ≡ heavy_of t numbers
  right_leaves o received is None e start = absurd cc
  right_leaves o received is (Some nodes) e start =
      let w = nodes_from_reply q 0 [] o nodes e in
      let there : w.0 ≡ received = let k : Some w.0 ≡ Some received = sym w.1.0 ∙ is in cc (k) in
      let taken = received_rise q 0 [] [] 0 w.0 w.0 (λ i _. omega arith) w.1.1.taken in
      let whole : nodes ≡ w.0 = sym w.1.1.same ∙ merged_none w.0 in
      let wide : width q 0 ≡ length numbers = ap (λ n. 2 ^ n) (let k : d - 0 ≡ d = omega arith in k) ∙ sym long ∙ sym (stand_length p q.form leaves numbers stand) in
      let clear : is_clear p truth (heavy_from t 0 numbers) w.0 ≡ true = ap (is_clear p truth (heavy_from t 0 numbers)) (sym whole) ∙ start in
      ap (heavy_entries p q.form t) (sym there) ∙ said_right p t q.form leaves numbers w.0 stand (subst (λ n. Rises 0 n w.0) wide taken.0) clear

  never_wrong : (n : ℕ) → d ≡ n → clears p q n 0 strategy truth (heavy_from t 0 numbers) [] [] ≡ true → (r : List ℕ) → length r ≡ d → Taken r → ⊥
  unfolding clears
  never_wrong zero same start r e w = none_taken r (e ∙ same) w
  never_wrong (suc m) same start [] e w = absurd (omega (arith, e, same))
  never_wrong (suc m) same start (x ∷ r) e w =
      let f = first_there (strategy []) (replies (λ v. strategy (x ∷ v)) r) w.all (ap all_there (sym (replies-more strategy x r)) ∙ w.there) in
      w.wrong (ap (λ all. heavy_entries p q.form t (leaves_of all)) f.same ∙ right_leaves (strategy []) f.received f.there (nodes_of q 0 [] (strategy [])) refl start)

  never : cleared [] ≡ true → (r : List ℕ) → length r ≡ d → wrongly r ≡ false
  never start r e = false_from_ne_true (wrongly r) (λ h. never_wrong d refl start r e (taken_at r h))

  -- so few vectors are counted
  pub few_fooled : counted p wrongly d ≤ 3 * d * p ^ (d - 1)
  few_fooled = elim (cases_Bool (cleared [])) [
    | inl start ↦ omega (arith, counted-none p d wrongly (never start))
    | inr wrong ↦
        let bound = few_clear p q prime few d strategy truth (heavy_from t 0 numbers) (heavy_are p t q.form truth 0 numbers (leaves_tell p q.form leaves numbers stand)) wrong in
        let grows = counted-grows p wrongly cleared d (λ v e _ h. taken_clears v e h) in
        omega arith
  ]
