-- Giving the entries of a frame to a check, one by one.
use Rattle.std.proofs.Common.{◌≡◌, ℕ, suc, ◌+◌, ◌<◌, ◌≤◌, Bool, true, false, ◌&&◌, Result, Ok, Err, List, [], ◌∷◌, ◌++◌, length, take, drop, get_or, ℤ, w64, to_z, of_z, refl, sym, ap, subst, ◌∙◌, arith, append_assoc, append-nil, length-append, length-take-le, take_all, drop-cons}
use Rattle.std.specs.Prelude.{nat_lt, set, IsErrAnd}
use Rattle.std.proofs.lemmas.Int.{to_z-of_z, fits_signed_from_abs}
use Rattle.std.specs.List.{list_all}
use Rattle.std.proofs.lemmas.List.{take_more, take-append-drop, take_more_set, length-set}
use Rattle.sip_vector.specs.declared.update.Entry.{Entry}
use Rattle.sip_vector.specs.Answers.{is_within}
use Rattle.sip_vector.specs.Steps.{◌>>=◌, needs}
use Rattle.sip_wire.specs.declared.message.Reason.{Reason}
use Rattle.sip_wire.specs.declared.message.Reason.TheVariants as reasons
use Rattle.sip_subvec.specs.Checking.{Kept, AnswersAs}
use Rattle.sip_subvec.specs.Replies.{most_entries, with_entries}
use Rattle.sip_replies.specs.LawProofs.Refusals.{same_err}
use Rattle.sip_subvec.proofs.StatedEntries.{rise-nil}
use Rattle.sip_subvec.proofs.RisingEntries.{entries-taken}
use Rattle.sip_subvec.proofs.TakingSteps.{in_pieces, first_piece}
use Rattle.sip_replies.specs.Talks.{ending}
use Rattle.sip_subvec.specs.Asking.{HasEntries, IsTakenValue, Gives, most_answer}
use Rattle.sip_subvec.proofs.RoomForEntries.{room_for}

-- ---- what a check answers

-- where a call of a check passed, the definition of its test gives something
pub answered_ok : {X : Type 0} (r : Result X Reason) (HasMore : X → Type 0) (check : Kept) (result : Result (Unit {0}) Reason) (u : Unit {0}) → AnswersAs r HasMore check result → result ≡ Ok u → (x : X) × (r ≡ Ok x) × HasMore x
answered_ok (Ok x) HasMore check result u answer is = (x, refl, answer.1)
answered_ok (Err reason) HasMore check result u answer is = let not = answer.0 in absurd cc

-- where it didn't pass, the reason is that of the definition
pub answered_err : {X : Type 0} (r : Result X Reason) (HasMore : X → Type 0) (check : Kept) (result : Result (Unit {0}) Reason) (reason : Reason) → AnswersAs r HasMore check result → result ≡ Err reason → r ≡ Err reason
answered_err (Ok x) HasMore check result reason answer is = let not = answer.0 in absurd cc
answered_err (Err other) HasMore check result reason answer is = let same = answer.0 in cc

-- ---- a fault of entries is not the end of the link

not_end : (lo hi : ℕ) (before es : List Entry) (reason : Reason) → with_entries lo hi before es ≡ Err reason → ending reason ≡ []
not_end lo hi before [] reason is = absurd cc
not_end lo hi before (e ∷ es) reason is =
    by_tests (is_within lo hi e.index && list_all (λ b. nat_lt b.index e.index) before) (nat_lt (length before) most_entries) (with_entries lo hi (before ++ e ∷ []) es) (not_end lo hi (before ++ e ∷ []) es reason) is
  where
    by_tests : (order room : Bool) (r : Result (List Entry) Reason) → (r ≡ Err reason → ending reason ≡ [])
        → (needs order reasons.BadOrder >>= λ _. needs room reasons.TooMany >>= λ _. r) ≡ Err reason → ending reason ≡ []
    by_tests true true r rest is = rest is
    by_tests true false r rest is = subst (λ (x : Reason). ending x ≡ []) (same_err {X = List Entry} reasons.TooMany reason is) refl
    by_tests false room r rest is = subst (λ (x : Reason). ending x ≡ []) (same_err {X = List Entry} reasons.BadOrder reason is) refl

-- ---- a check by its own root, interval and challenges

-- they are those where the call began
pub record IsOf (begun check : Kept) : Type 0 where
  pub root : check.root ≡ begun.root
  pub lo : check.lo ≡ begun.lo
  pub hi : check.hi ≡ begun.hi
  pub challenges : check.challenges ≡ begun.challenges

pub its_own : (begun : Kept) (es : List Entry) (check : Kept) → HasEntries begun es check → IsOf begun check
its_own begun es check held = record {
  root = held.for_root;
  lo = let e = held.from_lo in omega (arith, e);
  hi = let e = held.to_hi in omega (arith, e);
  challenges = held.at_challenges;
}

pub by_its_own : (begun : Kept) (es : List Entry) (check : Kept) → HasEntries begun es check → HasEntries check es check
by_its_own begun es check held =
    let own = its_own begun es check held in
    rw (← own.root, ← own.lo, ← own.hi, ← own.challenges) at held

pub Gives-from : (begun : Kept) (es : List Entry) (check : Kept) (before rows : List Entry) (new : Kept) (places : List Entry) (result : Result ℕ Reason) → HasEntries begun es check → Gives check before rows new places result → Gives begun before rows new places result
Gives-from begun es check before rows new places (Ok found) held gives = let own = its_own begun es check held in rw (own.root, own.lo, own.hi, own.challenges) at gives
Gives-from begun es check before rows new places (Err reason) held gives = let own = its_own begun es check held in rw (own.lo, own.hi) at gives

-- ---- one row more

-- so many rows were given to the check and written behind those before
pub record Giving (begun : Kept) (before rows : List Entry) (n i : ℕ) (check : Kept) (places : List Entry) : Type 0 where
  pub had : HasEntries begun before begun
  pub counted : length before ≡ n
  pub same : take (n + i) places ≡ before ++ take i rows
  pub held : HasEntries begun (before ++ take i rows) check
  pub within : n + i ≤ length places
  pub room : most_answer begun.lo begun.hi ≤ length places

pub Giving-none : (begun : Kept) (rows places : List Entry) (n : ℕ) → HasEntries begun (take n places) begun → n ≤ length places → most_answer begun.lo begun.hi ≤ length places → Giving begun (take n places) rows n 0 begun places
Giving-none begun rows places n held within room = record {
  had = held;
  counted = length-take-le n places within;
  same = let e : n + 0 ≡ n = omega arith in ap (λ (k : ℕ). take k places) e ∙ sym (append-nil (take n places));
  held = subst (λ (es : List Entry). HasEntries begun es begun) (sym (append-nil (take n places))) held;
  within = omega (arith, within);
  room = room;
}

module _ (begun : Kept) (before rows : List Entry) (n i : ℕ) (check : Kept) (places : List Entry) (giving : Giving begun before rows n i check places) where
  -- the rows so far passed
  pub passed : with_entries begun.lo begun.hi before (take i rows) ≡ Ok (before ++ take i rows)
  passed = sym (in_pieces begun.lo begun.hi [] before (take i rows) before giving.had.passed.entries) ∙ giving.held.passed.entries

  -- all rows passed
  pub Gives-all : i ≡ length rows → Gives begun before rows check places (Ok (n + length rows))
  Gives-all all =
      let whole : take i rows ≡ rows = take_all i rows (omega (arith, all)) in
      let same : take (n + length rows) places ≡ before ++ rows = ap (λ (k : ℕ). take (n + k) places) (sym all) ∙ giving.same ∙ ap (λ (l : List Entry). before ++ l) whole in (
        ap (with_entries begun.lo begun.hi before) (sym whole) ∙ passed ∙ ap (λ (l : List Entry). Ok (before ++ l)) whole ∙ ap (λ (l : List Entry). Ok l) (sym same),
        same,
        omega (arith, giving.within, all),
        subst (λ (es : List Entry). HasEntries begun es check) (ap (λ (l : List Entry). before ++ l) whole ∙ sym same) giving.held,
      )

  module _ (d : Entry) (less : i < length rows) (new : Kept) (result : Result (Unit {0}) Reason) (answer : AnswersAs (with_entries begun.lo begun.hi (before ++ take i rows) (get_or rows i d ∷ [])) (λ es. HasEntries begun es new) new result) where
    -- the row has a fault
    pub Gives-fault : (reason : Reason) (after : List Entry) (given : Result ℕ Reason) → result ≡ Err reason → IsErrAnd given (λ other. other ≡ reason) → Gives begun before rows new after given
    Gives-fault reason after (Ok x) is at = absurd at
    Gives-fault reason after (Err other) is at =
        let row = get_or rows i d in
        let rest = drop (suc i) rows in
        let cut : take i rows ++ row ∷ rest ≡ rows = ap (λ (l : List Entry). take i rows ++ l) (sym (drop-cons rows i d less)) ∙ take-append-drop i rows in
        let fault = answered_err (with_entries begun.lo begun.hi (before ++ take i rows) (row ∷ [])) (λ es. HasEntries begun es new) new result reason answer is in
        let said : with_entries begun.lo begun.hi before rows ≡ Err reason =
        ap (with_entries begun.lo begun.hi before) (sym cut)
        ∙ in_pieces begun.lo begun.hi before (take i rows) (row ∷ rest) (before ++ take i rows) passed
        ∙ first_piece begun.lo begun.hi (before ++ take i rows) (row ∷ []) rest reason fault in
        rw at (not_end begun.lo begun.hi (before ++ take i rows) (row ∷ []) reason fault, said)

    -- the row passed
    module _ (u : Unit {0}) (is : result ≡ Ok u) where
      one_more : before ++ take (i + 1) rows ≡ (before ++ take i rows) ++ get_or rows i d ∷ []
      one_more = ap (λ (l : List Entry). before ++ l) (take_more rows i d less) ∙ sym (append_assoc before (take i rows) (get_or rows i d ∷ []))

      held_more : HasEntries begun (before ++ take (i + 1) rows) new
      held_more =
          let so_far = before ++ take i rows in
          let row = get_or rows i d in
          let more = answered_ok (with_entries begun.lo begun.hi so_far (row ∷ [])) (λ es. HasEntries begun es new) new result u answer is in
          let rise = (entries-taken begun.lo begun.hi [] so_far so_far (rise-nil begun.lo begun.hi) giving.held.passed.entries).0 in
          let same : more.0 ≡ so_far ++ row ∷ [] = (entries-taken begun.lo begun.hi so_far (row ∷ []) more.0 rise more.1).1 in
          subst (λ (es : List Entry). HasEntries begun es new) (same ∙ sym one_more) more.2

      -- there is a place for it
      pub has_place : n + i < length places
      has_place =
          let few = room_for begun.lo begun.hi (before ++ take (i + 1) rows) held_more.passed.entries in
          omega (arith, few, giving.room, giving.counted, length-append before (take (i + 1) rows), length-take-le (i + 1) rows (omega (arith, less)))

      pub Giving-more : Giving begun before rows n (i + 1) new (set places (n + i) (get_or rows i d))
      Giving-more = record {
        had = giving.had;
        counted = giving.counted;
        same = let e : n + (i + 1) ≡ (n + i) + 1 = omega arith in
            ap (λ (k : ℕ). take k (set places (n + i) (get_or rows i d))) e ∙ take_more_set places (n + i) (get_or rows i d) has_place ∙ ap (λ (l : List Entry). l ++ get_or rows i d ∷ []) giving.same ∙ sym one_more;
        held = held_more;
        within = omega (arith, has_place, length-set places (n + i) (get_or rows i d));
        room = omega (arith, giving.room, length-set places (n + i) (get_or rows i d));
      }

-- ---- one row, as the code passes it

pub value_kept : (e : Entry) → IsTakenValue e → to_z w64 (of_z w64 e.value) ≡ e.value
value_kept e taken = to_z-of_z w64 e.value (fits_signed_from_abs w64 e.value (omega (arith, taken.1)))

pub row_answer : (begun : Kept) (es : List Entry) (e : Entry) (new : Kept) (result : Result (Unit {0}) Reason) → IsTakenValue e
    → AnswersAs (with_entries begun.lo begun.hi es (record { index = e.index; value = to_z w64 (of_z w64 e.value) } ∷ [])) (λ all. HasEntries begun all new) new result
    → AnswersAs (with_entries begun.lo begun.hi es (e ∷ [])) (λ all. HasEntries begun all new) new result
row_answer begun es e new result taken answer = subst (λ (v : ℤ). AnswersAs (with_entries begun.lo begun.hi es (record { index = e.index; value = v } ∷ [])) (λ all. HasEntries begun all new) new result) (value_kept e taken) answer

-- ---- a whole frame

-- rows that were given are counted
pub Gives-counts : (begun : Kept) (places rows : List Entry) (n : ℕ) (check : Kept) (after : List Entry) (found : ℕ) → n ≤ length places → 1 ≤ length rows → Gives begun (take n places) rows check after (Ok found) → n < found
Gives-counts begun places rows n check after found within some gives =
    let same = ap length gives.1 in
    omega (arith, some, same, length-append (take n places) rows, length-take-le n places within, length-take-le found after gives.2)
