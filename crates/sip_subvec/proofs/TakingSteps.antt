-- What a check has taken, after one call more.
use Rattle.std.proofs.Common.{◌≡◌, ℕ, suc, ◌+◌, ◌*◌, ◌/◌, ◌%◌, ◌^◌, ◌<◌, ◌≤◌, Bool, true, false, ◌&&◌, Option, Some, None, Result, Ok, Err, List, [], ◌∷◌, ◌++◌, length, refl, sym, ap, subst, ◌∙◌, arith, length-append, ◌-◌, inl, inr, not, cond, eqb}
use Rattle.std.specs.Prelude.{nat_lt, nat_le, ◌==◌, is_some, is_none}
use Rattle.std.specs.Option.{option_map}
use Rattle.std.specs.List.{list_all}
use Rattle.std.proofs.Math.Bool.{and-true}
use Rattle.std.proofs.Math.Nat.{mod-add-mod, pow-succ'}
use Rattle.std.proofs.lemmas.Bool.{and_parts, leb-true, ltb-true, cases_eq, ne_eqb}
use Rattle.std.proofs.lemmas.Bool.Decides.{nat_tests}
use Rattle.std.proofs.lemmas.List.Folds.{list_all-append}
use Rattle.std.proofs.lemmas.List.Sums.{sum_by-append}
use Rattle.sip_field.specs.Residue.{residue}
use Rattle.sip_vector.specs.Answers.{is_within}
use Rattle.sip_vector.specs.Steps.{◌>>=◌, needs}
use Rattle.sip_vector.specs.Weights.{weight_above}
use Rattle.sip_vector.specs.declared.update.Entry.{Entry}
use Rattle.sip_wire.specs.declared.message.Reason.{Reason}
use Rattle.sip_wire.specs.declared.message.Reason.TheVariants as reasons
use Rattle.sip_replies.specs.Rising.{is_above}
use Rattle.sip_subvec.specs.AcceptsSub.{Siblings, Stated, gives_root}
use Rattle.sip_subvec.specs.Replies.{most_entries, with_entries, are_asked, asked_siblings}
use Rattle.sip_subvec.specs.Checking.{Kept, HasTaken, nothing, AreAsked, AnswersAs, entry_test, entries_sum, level_sum, siblings_sum}
use Rattle.sip_subvec.proofs.Halvings.{whole, halved, halved_last}
use Rattle.sip_subvec.proofs.StatedSums.{root_is_sum}

-- ---- siblings of one level more

asked_more : (lo hi : ℕ) (ss : List Siblings) (s : Siblings) → AreAsked lo hi ss → are_asked (lo / 2 ^ length ss) (hi / 2 ^ length ss) s ≡ true → AreAsked lo hi (ss ++ s ∷ [])
asked_more lo hi [] s all asked = (rw (whole lo, whole hi) at asked, tt)
asked_more lo hi (t ∷ ss) s all asked =
    (all.0, asked_more (lo / 2) (hi / 2) ss s all.1 (rw (halved lo (length ss), halved hi (length ss)) at asked))

sum_more : (p : ℕ) (challenges : List ℕ) (level lo hi : ℕ) (ss : List Siblings) (s : Siblings)
    → siblings_sum p challenges level lo hi (ss ++ s ∷ []) ≡ siblings_sum p challenges level lo hi ss + level_sum p challenges (level + length ss) (lo / 2 ^ length ss) (hi / 2 ^ length ss) s
sum_more p challenges level lo hi [] s =
    let here : ℕ = level_sum p challenges level lo hi s in
    let place : level + 0 ≡ level = omega arith in
    let same : level_sum p challenges (level + 0) (lo / 2 ^ 0) (hi / 2 ^ 0) s ≡ here =
    ap (λ j. level_sum p challenges j (lo / 2 ^ 0) (hi / 2 ^ 0) s) place ∙ ap (λ a. level_sum p challenges level a (hi / 2 ^ 0) s) (whole lo) ∙ ap (λ a. level_sum p challenges level lo a s) (whole hi) in
    (let moved : here + 0 ≡ 0 + here = omega arith in moved) ∙ ap (λ k. 0 + k) (sym same)
sum_more p challenges level lo hi (t ∷ ss) s =
    let next : level + 1 + length ss ≡ level + suc (length ss) = omega arith in
    ap (λ k. level_sum p challenges level lo hi t + k) (sum_more p challenges (level + 1) (lo / 2) (hi / 2) ss s)
    ∙ rw (halved lo (length ss), halved hi (length ss), next) (omega arith)

-- ---- entries of one more

-- entries are tested one after another
with_entries-append : (lo hi : ℕ) (before es more : List Entry) → with_entries lo hi before (es ++ more) ≡ (with_entries lo hi before es >>= λ all. with_entries lo hi all more)
with_entries-append lo hi before [] more = refl
with_entries-append lo hi before (e ∷ es) more =
    by_tests (is_within lo hi e.index && list_all (λ b. nat_lt b.index e.index) before) (nat_lt (length before) most_entries) _ _ (with_entries-append lo hi (before ++ e ∷ []) es more)
  where
    by_tests : (order room : Bool) (r t : Result (List Entry) Reason) → t ≡ (r >>= λ all. with_entries lo hi all more)
        → (needs order reasons.BadOrder >>= λ _. needs room reasons.TooMany >>= λ _. t)
        ≡ ((needs order reasons.BadOrder >>= λ _. needs room reasons.TooMany >>= λ _. r) >>= λ all. with_entries lo hi all more)
    by_tests true true r t e = e
    by_tests true false r t e = refl
    by_tests false room r t e = refl

-- so they can be tested in pieces
pub in_pieces : (lo hi : ℕ) (before es more taken : List Entry) → with_entries lo hi before es ≡ Ok taken → with_entries lo hi before (es ++ more) ≡ with_entries lo hi taken more
in_pieces lo hi before es more taken is = with_entries-append lo hi before es more ∙ ap (λ (r : Result (List Entry) Reason). r >>= λ all. with_entries lo hi all more) is

pub first_piece : (lo hi : ℕ) (before es more : List Entry) (reason : Reason) → with_entries lo hi before es ≡ Err reason → with_entries lo hi before (es ++ more) ≡ Err reason
first_piece lo hi before es more reason is = with_entries-append lo hi before es more ∙ ap (λ (r : Result (List Entry) Reason). r >>= λ all. with_entries lo hi all more) is

two_tests : {X : Type 0} (order room : Bool) (x : X) → ◌≡◌ {A = Result X Reason} (needs order reasons.BadOrder >>= λ _. needs room reasons.TooMany >>= λ _. Ok x)
    ((needs order reasons.BadOrder >>= λ _. needs room reasons.TooMany) >>= λ _. Ok x)
two_tests true true x = refl
two_tests true false x = refl
two_tests false room x = refl

order_passed : (order room : Bool) → ◌≡◌ {A = Result (Unit {0}) Reason} (needs order reasons.BadOrder >>= λ _. needs room reasons.TooMany) (Ok tt) → order ≡ true
order_passed true room e = refl
order_passed false room e = absurd cc

-- behind the entry that was above the last one, its index is the last one
above_next : (last : Option ℕ) (j i : ℕ) → is_above last j ≡ true → (is_above last i && (nat_lt j i && true)) ≡ nat_lt j i
above_next None j i above = and-true (nat_lt j i)
above_next (Some last) j i above = ap (λ b. nat_lt last i && b) (and-true (nat_lt j i)) ∙ grind (arith, nat_tests)

-- what a check keeps, after an entry
abbrev pub with_entry : ℕ → Kept → Entry → Kept
with_entry p old e = record old { sum = (old.sum + residue p e.value * weight_above p old.challenges 0 e.index) % p; last = Some e.index; count = old.count + 1 }

-- and after the siblings of a level
abbrev pub with_siblings : ℕ → Kept → Siblings → Kept
with_siblings p old s = record old { sum = (old.sum + level_sum p old.challenges old.level old.lo old.hi s) % p; lo = old.lo / 2; hi = old.hi / 2; level = old.level + 1 }

module _ (p root lo hi : ℕ) (challenges : List ℕ) (s : Stated) (old : Kept) (taken : HasTaken p root lo hi challenges s old) where
  -- ---- an entry

  module _ (first : old.level ≡ 0) (e : Entry) where
    more : List Entry
    more = s.entries ++ e ∷ []

    as_given : (n k : ℕ) → k ≡ n / 2 ^ length s.siblings → k ≡ n
    as_given n k is =
        let none : length s.siblings ≡ 0 = sym taken.replies ∙ first in
        is ∙ ap (λ m. n / 2 ^ m) none ∙ whole n

    entry_says : with_entries lo hi s.entries (e ∷ []) ≡ (entry_test old e.index >>= λ _. Ok more)
    unfolding more
    entry_says =
        let order : (is_within lo hi e.index && list_all (λ b. nat_lt b.index e.index) s.entries) ≡ (is_within old.lo old.hi e.index && is_above old.last e.index) =
        rw (as_given lo old.lo taken.from_lo, as_given hi old.hi taken.to_hi) (ap (λ b. is_within lo hi e.index && b) (taken.last e.index)) in
        let room : nat_lt (length s.entries) most_entries ≡ nat_lt old.count most_entries = ap (λ k. nat_lt k most_entries) (sym taken.count) in
        ap (λ b. needs b reasons.BadOrder >>= λ _. needs (nat_lt (length s.entries) most_entries) reasons.TooMany >>= λ _. Ok (s.entries ++ e ∷ [])) order
        ∙ ap (λ b. needs (is_within old.lo old.hi e.index && is_above old.last e.index) reasons.BadOrder >>= λ _. needs b reasons.TooMany >>= λ _. Ok (s.entries ++ e ∷ [])) room
        ∙ two_tests (is_within old.lo old.hi e.index && is_above old.last e.index) (nat_lt old.count most_entries) (s.entries ++ e ∷ [])

    pub entry_refused : (HasMore : List Entry → Type 0) (new : Kept) (reason : Reason) → entry_test old e.index ≡ Err reason → new.spent ≡ true
        → AnswersAs (with_entries lo hi s.entries (e ∷ [])) HasMore new (Err reason)
    entry_refused HasMore new reason is spent =
        subst (λ (r : Result (List Entry) Reason). AnswersAs r HasMore new (Err reason)) (sym (entry_says ∙ ap (λ (t : Result (Unit {0}) Reason). t >>= λ _. Ok more) is)) (refl, spent)

    HasTaken-entry : entry_test old e.index ≡ Ok tt → HasTaken p root lo hi challenges (record s { entries = s.entries ++ e ∷ [] }) (with_entry p old e)
    unfolding more
    HasTaken-entry is =
        let says : with_entries lo hi s.entries (e ∷ []) ≡ Ok (s.entries ++ e ∷ []) = entry_says ∙ ap (λ (t : Result (Unit {0}) Reason). t >>= λ _. Ok (s.entries ++ e ∷ [])) is in
        let order = order_passed _ _ is in
        let above = and_parts (is_within old.lo old.hi e.index) (is_above old.last e.index) order in
        let term : ℕ = residue p e.value * weight_above p challenges 0 e.index in
        let others : ℕ = siblings_sum p challenges 0 lo hi s.siblings in
        record {
          whole = taken.whole;
          order = taken.order;
          at_challenges = taken.at_challenges;
          for_root = taken.for_root;
          from_lo = taken.from_lo;
          to_hi = taken.to_hi;
          replies = taken.replies;
          unspent = taken.unspent;
          passed = record {
            entries = with_entries-append lo hi [] s.entries (e ∷ []) ∙ ap (λ (r : Result (List Entry) Reason). r >>= λ all. with_entries lo hi all (e ∷ [])) taken.passed.entries ∙ says;
            siblings = taken.passed.siblings;
          };
          sum =
              ap (λ rs. (old.sum + residue p e.value * weight_above p rs 0 e.index) % p) taken.at_challenges
              ∙ ap (λ k. (k + term) % p) taken.sum ∙ mod-add-mod (entries_sum p challenges s.entries + others) p term
              ∙ ap (λ k. k % p) (omega (arith, sum_by-append (λ (x : Entry). residue p x.value * weight_above p challenges 0 x.index) s.entries (e ∷ [])));
          last = λ i.
              list_all-append (λ (x : Entry). nat_lt x.index i) s.entries (e ∷ [])
              ∙ ap (λ b. b && (nat_lt e.index i && true)) (taken.last i) ∙ above_next old.last e.index i above.1;
          count = omega (arith, taken.count, length-append s.entries (e ∷ []));
        }

    pub entry_taken : (sum : ℕ) → entry_test old e.index ≡ Ok tt → sum ≡ (old.sum + residue p e.value * weight_above p old.challenges 0 e.index) % p
        → AnswersAs (with_entries lo hi s.entries (e ∷ [])) (λ entries. HasTaken p root lo hi challenges (record s { entries = entries }) (record old { sum = sum; last = Some e.index; count = old.count + 1 })) (record old { sum = sum; last = Some e.index; count = old.count + 1 }) (Ok tt)
    unfolding more
    entry_taken sum is same =
        let new : Kept = record old { sum = sum; last = Some e.index; count = old.count + 1 } in
        let said : with_entries lo hi s.entries (e ∷ []) ≡ Ok (s.entries ++ e ∷ []) = entry_says ∙ ap (λ (t : Result (Unit {0}) Reason). t >>= λ _. Ok (s.entries ++ e ∷ [])) is in
        subst (λ (r : Result (List Entry) Reason). AnswersAs r (λ entries. HasTaken p root lo hi challenges (record s { entries = entries }) new) new (Ok tt)) (sym said)
        (refl, subst (λ (k : ℕ). HasTaken p root lo hi challenges (record s { entries = s.entries ++ e ∷ [] }) (record old { sum = k; last = Some e.index; count = old.count + 1 })) (sym same) (HasTaken-entry is))

  -- ---- siblings

  module _ (x : Siblings) where
    level_is : (b : Bool) → are_asked old.lo old.hi x ≡ b → are_asked (lo / 2 ^ length s.siblings) (hi / 2 ^ length s.siblings) x ≡ b
    level_is b is = rw (← taken.from_lo, ← taken.to_hi) is

    siblings_say : (level : ℕ) (b : Bool) → level ≡ old.level → are_asked old.lo old.hi x ≡ b → asked_siblings (lo / 2 ^ level) (hi / 2 ^ level) x ≡ (needs b reasons.BadFlags >>= λ _. Ok x)
    siblings_say level b at is =
        let here : level ≡ length s.siblings = at ∙ taken.replies in
        ap (λ j. asked_siblings (lo / 2 ^ j) (hi / 2 ^ j) x) here ∙ ap (λ t. needs t reasons.BadFlags >>= λ _. Ok x) (level_is b is)

    HasTaken-siblings : are_asked old.lo old.hi x ≡ true → HasTaken p root lo hi challenges (record s { siblings = s.siblings ++ x ∷ [] }) (with_siblings p old x)
    HasTaken-siblings asked =
        let size : length (s.siblings ++ x ∷ []) ≡ suc (length s.siblings) = omega (arith, length-append s.siblings (x ∷ [])) in
        let term : ℕ = level_sum p challenges (length s.siblings) (lo / 2 ^ length s.siblings) (hi / 2 ^ length s.siblings) x in
        let here : level_sum p old.challenges old.level old.lo old.hi x ≡ term = rw (taken.at_challenges, taken.replies, taken.from_lo, taken.to_hi) in
        let entries : ℕ = entries_sum p challenges s.entries in
        let all : ℕ = siblings_sum p challenges 0 lo hi s.siblings in
        let place : 0 + length s.siblings ≡ length s.siblings = omega arith in
        let grown : siblings_sum p challenges 0 lo hi (s.siblings ++ x ∷ []) ≡ all + term =
        sum_more p challenges 0 lo hi s.siblings x ∙ ap (λ j. all + level_sum p challenges j (lo / 2 ^ length s.siblings) (hi / 2 ^ length s.siblings) x) place in
        record {
          whole = taken.whole;
          order = taken.order;
          at_challenges = taken.at_challenges;
          for_root = taken.for_root;
          last = taken.last;
          count = taken.count;
          unspent = taken.unspent;
          passed = record { entries = taken.passed.entries; siblings = asked_more lo hi s.siblings x taken.passed.siblings (level_is true asked) };
          from_lo = ap (λ k. k / 2) taken.from_lo ∙ sym (halved_last lo (length s.siblings)) ∙ ap (λ k. lo / 2 ^ k) (sym size);
          to_hi = ap (λ k. k / 2) taken.to_hi ∙ sym (halved_last hi (length s.siblings)) ∙ ap (λ k. hi / 2 ^ k) (sym size);
          replies = omega (arith, size, taken.replies);
          sum =
              ap (λ k. (old.sum + k) % p) here ∙ ap (λ k. (k + term) % p) taken.sum ∙ mod-add-mod (entries + all) p term
              ∙ ap (λ k. k % p) (omega (arith, grown));
        }

    pub siblings_taken : (level sum : ℕ) → level ≡ old.level → are_asked old.lo old.hi x ≡ true → sum ≡ (old.sum + level_sum p old.challenges old.level old.lo old.hi x) % p
        → AnswersAs (asked_siblings (lo / 2 ^ level) (hi / 2 ^ level) x) (λ y. HasTaken p root lo hi challenges (record s { siblings = s.siblings ++ y ∷ [] }) (record old { sum = sum; lo = old.lo / 2; hi = old.hi / 2; level = old.level + 1 }))
        (record old { sum = sum; lo = old.lo / 2; hi = old.hi / 2; level = old.level + 1 }) (Ok tt)
    siblings_taken level sum at asked same =
        let new : Kept = record old { sum = sum; lo = old.lo / 2; hi = old.hi / 2; level = old.level + 1 } in
        subst (λ (r : Result Siblings Reason). AnswersAs r (λ y. HasTaken p root lo hi challenges (record s { siblings = s.siblings ++ y ∷ [] }) new) new (Ok tt)) (sym (siblings_say level true at asked))
        (refl, subst (λ (k : ℕ). HasTaken p root lo hi challenges (record s { siblings = s.siblings ++ x ∷ [] }) (record old { sum = k; lo = old.lo / 2; hi = old.hi / 2; level = old.level + 1 })) (sym same) (HasTaken-siblings asked))

  -- a challenge was revealed
  pub HasTaken-revealed : (revealed : ℕ) → HasTaken p root lo hi challenges s (record old { revealed = revealed })
  HasTaken-revealed revealed = record {
    whole = taken.whole;
    order = taken.order;
    passed = taken.passed;
    at_challenges = taken.at_challenges;
    for_root = taken.for_root;
    from_lo = taken.from_lo;
    to_hi = taken.to_hi;
    replies = taken.replies;
    sum = taken.sum;
    last = taken.last;
    count = taken.count;
    unspent = taken.unspent;
  }

  -- ---- the end

  pub root_says : 0 < p → old.level ≡ length old.challenges → gives_root p root lo hi challenges s ≡ (old.sum == old.root)
  root_says some ended =
      let all : length s.siblings ≡ length challenges = sym taken.replies ∙ ended ∙ ap length taken.at_challenges in
      root_is_sum p lo hi challenges some root s taken.order taken.whole all taken.passed ∙ rw (taken.sum, taken.for_root)

-- nothing was given yet
pub HasTaken-nothing : (p root lo hi : ℕ) (challenges : List ℕ) (check : Kept) → lo ≤ hi → hi < 2 ^ length challenges → check.challenges ≡ challenges → check.root ≡ root → check.lo ≡ lo → check.hi ≡ hi
    → check.level ≡ 0 → check.sum ≡ 0 % p → check.last ≡ None → check.count ≡ 0 → check.spent ≡ false → HasTaken p root lo hi challenges nothing check
HasTaken-nothing p root lo hi challenges check order within at for from to level sum last count unspent = record {
  whole = within;
  order = order;
  passed = record { entries = refl; siblings = tt };
  at_challenges = at;
  for_root = for;
  from_lo = from ∙ sym (whole lo);
  to_hi = to ∙ sym (whole hi);
  replies = level;
  sum = sum;
  last = λ i. ap (λ o. is_above o i) (sym last);
  count = count;
  unspent = unspent;
}

-- ---- what a call needs

-- an entry that passes is within the interval, and there is room for it
pub entry_passes : (check : Kept) (i : ℕ) (u : Unit {0}) → entry_test check i ≡ Ok u → (i ≤ check.hi) × (check.count < most_entries)
entry_passes check i u is =
    let tests = both (is_within check.lo check.hi i && is_above check.last i) (nat_lt check.count most_entries) u is in
    let within = and_parts (is_within check.lo check.hi i) (is_above check.last i) tests.0 in
    let ends = and_parts (nat_le check.lo i) (nat_le i check.hi) within.0 in
    (leb-true i check.hi ends.1, ltb-true check.count most_entries tests.1)
  where
    both : (order room : Bool) (v : Unit {0}) → ◌≡◌ {A = Result (Unit {0}) Reason} (needs order reasons.BadOrder >>= λ _. needs room reasons.TooMany) (Ok v) → (order ≡ true) × (room ≡ true)
    both true true v e = (refl, refl)
    both true false v e = absurd cc
    both false room v e = absurd cc

one_more : (n level : ℕ) → level < n → 2 ^ (n - level) ≡ 2 * 2 ^ (n - (level + 1))
one_more n level left =
    let next : n - level ≡ suc (n - (level + 1)) = omega arith in
    ap (λ k. 2 ^ k) next ∙ pow-succ' 2 (n - (level + 1))

-- the neighbour behind an even index
pub even_below : (hi n level : ℕ) → level < n → hi % 2 ≡ 0 → hi < 2 ^ (n - level) → hi + 1 < 2 ^ (n - level)
even_below hi n level left even below = omega (arith, one_more n level left)

-- an index one level further
pub half_below : (hi n level : ℕ) → level < n → hi < 2 ^ (n - level) → hi / 2 < 2 ^ (n - (level + 1))
half_below hi n level left below = omega (arith, one_more n level left)

-- siblings that are asked for stand beside the ends of the interval
pub left_asked : (lo hi : ℕ) (s : Siblings) → are_asked lo hi s ≡ true → is_some s.left ≡ true → lo % 2 ≡ 1
left_asked lo hi s asked here =
    let parts = and_parts (cond (eqb (lo % 2) 1) (is_some s.left) (is_none s.left)) (cond (eqb (hi % 2) 0) (is_some s.right) (is_none s.right)) asked in
    elim (cases_eq (lo % 2) 1) [
      | inl odd ↦ odd
      | inr off ↦ absurd (let none : is_none s.left ≡ true = rw (ne_eqb (lo % 2) 1 off) at parts.0 in let other : is_none s.left ≡ false = ap not here in cc)
    ]

pub right_asked : (lo hi : ℕ) (s : Siblings) → are_asked lo hi s ≡ true → is_some s.right ≡ true → hi % 2 ≡ 0
right_asked lo hi s asked here =
    let parts = and_parts (cond (eqb (lo % 2) 1) (is_some s.left) (is_none s.left)) (cond (eqb (hi % 2) 0) (is_some s.right) (is_none s.right)) asked in
    elim (cases_eq (hi % 2) 0) [
      | inl even ↦ even
      | inr off ↦ absurd (let none : is_none s.right ≡ true = rw (ne_eqb (hi % 2) 0 off) at parts.1 in let other : is_none s.right ≡ false = ap not here in cc)
    ]

pub some_number : {F : Type 0} (number : F → ℕ) (o : Option F) → is_some (option_map number o) ≡ is_some o
some_number number None = refl
some_number number (Some x) = refl
