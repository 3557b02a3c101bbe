-- What the check does with a frame is a step of the protocol.
use Rattle.std.proofs.Common.{◌≡◌, ℕ, ◌+◌, ◌-◌, ◌/◌, ◌<◌, ◌≤◌, true, false, Option, Result, Ok, Err, List, [], ◌∷◌, ◌++◌, length, take, refl, sym, ap, subst, ◌∙◌, arith, length-take-le}
use Rattle.std.specs.Prelude.{◌^◌, ◌&&◌, IsTrue, IsErrAnd, nat_le}
use Rattle.std.proofs.lemmas.Bool.Decides.{nat_tests}
use Rattle.arrayvec.specs.ArrayVec.{ArrayVec}
use Rattle.sip_field.specs.Moduli.{m61_modulus}
use Rattle.sip_vector.specs.declared.update.Entry.{Entry}
use Rattle.sip_vector.specs.Steps.{◌>>=◌}
use Rattle.sip_wire.specs.declared.kind.Kind.TheVariants as kinds
use Rattle.sip_wire.specs.declared.message.Message.TheVariants as messages
use Rattle.sip_wire.specs.declared.message.Reason.{Reason}
use Rattle.sip_wire.specs.declared.version.Version.{Version}
use Rattle.sip_wire.specs.Spelling.{fits, numbers}
use Rattle.sip_wire.specs.Table.{shape}
use Rattle.sip_wire.proofs.Shapes.{mark_of_fit}
use Rattle.sip_replies.specs.Checks.{Steps}
use Rattle.sip_replies.specs.declared.check.More.{More}
use Rattle.sip_replies.specs.declared.check.More.TheVariants as mores
use Rattle.sip_subvec.specs.AcceptsSub.{Siblings, Stated}
use Rattle.sip_subvec.specs.Asking.{Asking, SubStands, HasEntries, Gives, is_first_of, most_answer}
use Rattle.sip_subvec.specs.Checking.{Kept, HasTaken, AnswersAs}
use Rattle.sip_subvec.specs.Protocol.{SubAsked, entries_step, sub_step}
use Rattle.sip_subvec.specs.Replies.{most_entries, with_entries, asked_siblings}
use Rattle.sip_subvec.proofs.GivenEntries.{answered_ok, answered_err, its_own, by_its_own, Gives-from, Gives-counts}
use Rattle.sip_subvec.proofs.RoomForEntries.{room_for}

-- a call answered with this reason
err_is : (given : Result More Reason) (reason : Reason) → IsErrAnd given (λ other. other ≡ reason)
    → given ≡ Err reason
err_is (Ok x) reason at = absurd at
err_is (Err other) reason at = ap (λ (r : Reason). Err r) at

-- ---- siblings

module _ (asked : SubAsked) (s : Stated) (a : Asking) (new : Kept) (places : List Entry)
    (stands : SubStands asked s a places) (left right : Option ℕ)
    (result : Result (Unit {0}) Reason)
    (answers : (root lo hi : ℕ) (challenges : List ℕ) (t : Stated)
    → HasTaken m61_modulus root lo hi challenges t a.check
    → AnswersAs (asked_siblings (lo / 2 ^ a.check.level) (hi / 2 ^ a.check.level)
    (record { left = left; right = right })) (λ x. HasTaken m61_modulus root lo hi challenges
    (record t { siblings = t.siblings ++ x ∷ [] }) new) new result) where
  abbrev HasMore : Siblings → Type 0
  HasMore x = HasTaken m61_modulus asked.root asked.lo asked.hi asked.challenges
      (record s { siblings = s.siblings ++ x ∷ [] }) new

  abbrev test : Result Siblings Reason
  test = asked_siblings (asked.lo / 2 ^ a.check.level) (asked.hi / 2 ^ a.check.level)
      (record { left = left; right = right })

  abbrev after_test : Result Siblings Reason → Result (More × Stated) Reason
  after_test r = r >>= λ x. Ok (mores.Complete, record s { siblings = s.siblings ++ x ∷ [] })

  -- the check's level is the number of replies whose siblings were stated
  level_here : (n : ℕ) → n / 2 ^ length s.siblings ≡ n / 2 ^ a.check.level
  level_here n = ap (λ (k : ℕ). n / 2 ^ k) (sym stands.taken.replies)

  step_is : sub_step asked.lo asked.hi s (messages.Siblings left right) ≡ after_test test
  step_is =
      ap (λ (l : ℕ). after_test (asked_siblings l (asked.hi / 2 ^ length s.siblings)
      (record { left = left; right = right }))) (level_here asked.lo)
      ∙ ap (λ (h : ℕ). after_test (asked_siblings (asked.lo / 2 ^ a.check.level) h
      (record { left = left; right = right }))) (level_here asked.hi)

  not_first : (xs : List Siblings) (x : Siblings) → is_first_of (xs ++ x ∷ []) ≡ false
  not_first [] x = refl
  not_first (y ∷ ys) x = refl

  -- siblings that were not asked for
  pub siblings_refused : (Stands : Stated → Type 0) (reason : Reason) (given : Result More Reason)
      → result ≡ Err reason → IsErrAnd given (λ other. other ≡ reason)
      → Steps (sub_step asked.lo asked.hi s (messages.Siblings left right)) Stands given
  siblings_refused Stands reason given is at =
      let refused = answered_err test HasMore new result reason
      (answers asked.root asked.lo asked.hi asked.challenges s stands.taken) is in
      let step : sub_step asked.lo asked.hi s (messages.Siblings left right) ≡ Err reason =
      step_is ∙ ap after_test refused in
      subst (λ (r : Result (More × Stated) Reason). Steps r Stands given) (sym step)
      (err_is given reason at)

  -- siblings that complete a reply
  pub siblings_taken : (u : Unit {0}) → result ≡ Ok u
      → Steps (sub_step asked.lo asked.hi s (messages.Siblings left right))
      (λ t. SubStands asked t (record { check = new; is_first = false; found = a.found }) places)
      (Ok mores.Complete)
  siblings_taken u is =
      let passed = answered_ok test HasMore new result u
      (answers asked.root asked.lo asked.hi asked.challenges s stands.taken) is in
      let step : sub_step asked.lo asked.hi s (messages.Siblings left right)
      ≡ Ok (mores.Complete, record s { siblings = s.siblings ++ passed.0 ∷ [] }) =
      step_is ∙ ap after_test passed.1 in
      subst (λ (r : Result (More × Stated) Reason). Steps r
      (λ t. SubStands asked t
      (record { check = new; is_first = false; found = a.found }) places) (Ok mores.Complete))
      (sym step) (
        refl,
        record {
          field = stands.field;
          taken = passed.2;
          first = sym (not_first s.siblings passed.0);
          shown = stands.shown;
          within = stands.within;
          room = stands.room;
        },
      )

-- ---- entries

module _ (asked : SubAsked) (s : Stated) (a : Asking) (places : List Entry)
    (stands : SubStands asked s a places) (first : a.is_first ≡ true) where
  -- the check with the query's own root, interval and challenges
  begun : Kept
  begun = record a.check {
    root = asked.root;
    lo = asked.lo;
    hi = asked.hi;
    challenges = asked.challenges;
  }

  no_siblings : s.siblings ≡ []
  no_siblings = by_list s.siblings (sym stands.first ∙ first)
    where
      by_list : (xs : List Siblings) → is_first_of xs ≡ true → xs ≡ []
      by_list [] e = refl
      by_list (x ∷ xs) e = absurd cc

  held : HasEntries begun (take a.found places) a.check
  unfolding begun
  held = rw (no_siblings, ← stands.shown) at stands.taken

  pub own_entries : HasEntries a.check (take a.found places) a.check
  own_entries = by_its_own begun (take a.found places) a.check held

  -- no entries beyond the most that an answer has
  pub few_found : a.found ≤ most_entries
  unfolding begun
  few_found =
      let few = room_for asked.lo asked.hi (take a.found places) held.passed.entries in
      let size = length-take-le a.found places stands.within in
      omega (arith, few, size)

  pub own_room : most_answer a.check.lo a.check.hi ≤ length places
  unfolding begun
  own_room =
      let own = its_own begun (take a.found places) a.check held in
      rw (own.lo, own.hi) stands.room

  abbrev all_due : Result (List Entry) Reason → Result (More × Stated) Reason
  all_due r = r >>= λ all. Ok (mores.Due, record { entries = all; siblings = [] })

  step_of : (rows : ArrayVec Entry) → sub_step asked.lo asked.hi s (messages.Entries rows)
      ≡ all_due (with_entries asked.lo asked.hi (take a.found places) rows.items)
  step_of rows =
      ap (λ (l : List Siblings). entries_step asked.lo asked.hi l s.entries rows.items) no_siblings
      ∙ ap (λ (l : List Entry). entries_step asked.lo asked.hi [] l rows.items) (sym stands.shown)

  module _ (rows : ArrayVec Entry) (new : Kept) (after : List Entry) where
    -- entries of which one has a fault
    pub entries_refused : (Stands : Stated → Type 0) (reason : Reason) (given : Result More Reason)
        → Gives a.check (take a.found places) rows.items new after (Err reason)
        → IsErrAnd given (λ other. other ≡ reason)
        → Steps (sub_step asked.lo asked.hi s (messages.Entries rows)) Stands given
    unfolding begun
    entries_refused Stands reason given gives at =
        let refused = Gives-from begun (take a.found places) a.check
        (take a.found places) rows.items new after (Err reason) held gives in
        let step : sub_step asked.lo asked.hi s (messages.Entries rows) ≡ Err reason =
        step_of rows ∙ ap all_due refused.1 in
        subst (λ (r : Result (More × Stated) Reason). Steps r Stands given) (sym step)
        (err_is given reason at)

    -- entries that pass: more are due
    pub entries_taken : (n : ℕ) → Gives a.check (take a.found places) rows.items new after (Ok n)
        → length after ≡ length places
        → Steps (sub_step asked.lo asked.hi s (messages.Entries rows))
        (λ t. SubStands asked t (record { check = new; is_first = true; found = n }) after)
        (Ok mores.Due)
    unfolding begun
    entries_taken n gives same =
        let passed = Gives-from begun (take a.found places) a.check
        (take a.found places) rows.items new after (Ok n) held gives in
        let step : sub_step asked.lo asked.hi s (messages.Entries rows)
        ≡ Ok (mores.Due, record { entries = take n after; siblings = [] }) =
        step_of rows ∙ ap all_due passed.0 in
        subst (λ (r : Result (More × Stated) Reason). Steps r
        (λ t. SubStands asked t (record { check = new; is_first = true; found = n }) after)
        (Ok mores.Due)) (sym step) (
          refl,
          record {
            field = stands.field;
            taken = passed.3;
            first = refl;
            shown = refl;
            within = passed.2;
            room = rw same stands.room;
          },
        )

    -- so fewer may still come
    pub entries_fewer : (n : ℕ) → Gives a.check (take a.found places) rows.items new after (Ok n)
        → 1 ≤ length rows.items → most_entries + 1 - n < most_entries + 1 - a.found
    entries_fewer n gives some =
        let more = Gives-counts a.check places rows.items a.found new after n stands.within some gives in
        let few = few_found in
        omega (arith, more, few)

    -- a frame that has a spelling has an entry
    pub some_entries : (version : Version) → IsTrue (fits version (messages.Entries rows))
        → 1 ≤ length rows.items
    unfolding fits
    some_entries version fit =
        let mark : (nat_le 1 (length rows.items) && nat_le (length rows.items) 512)
        ≡ true = mark_of_fit (shape version kinds.Entries) (length rows.items)
        (numbers (messages.Entries rows)) fit in
        at_least (length rows.items) mark
      where
        at_least : (n : ℕ) → (nat_le 1 n && nat_le n 512) ≡ true → 1 ≤ n
        at_least n e = grind (arith, nat_tests)
