-- What a check of heavy hitters of the general talk stands for, after one call more.
use Rattle.std.proofs.Common.{◌≡◌, ℕ, suc, ◌+◌, ◌-◌, ◌<◌, ◌≤◌, Bool, true, false, ◌||◌, ◌&&◌, not, Result, Ok, Err, IsErrAnd, List, [], ◌∷◌, ◌++◌, length, take, refl, sym, ap, subst, ◌∙◌, arith, length-append}
use Rattle.std.specs.Prelude.{◌==◌, nat_lt, slice_index, if◌then◌else◌}
use Rattle.std.proofs.lemmas.Bool.{ne_eqb, ltb-true}
use Rattle.sip_field.specs.Moduli.{m61_modulus}
use Rattle.sip_vector.specs.Steps.{◌>>=◌, needs}
use Rattle.sip_vector.specs.declared.update.Entry.{Entry}
use Rattle.arrayvec.specs.ArrayVec.{ArrayVec}
use Rattle.sip_wire.specs.declared.message.Leaf.{Leaf}
use Rattle.sip_wire.specs.declared.message.Mark.{Mark}
use Rattle.sip_wire.specs.declared.message.Message.{Message}
use Rattle.sip_wire.specs.declared.message.Message.TheVariants as messages
use Rattle.sip_wire.specs.declared.message.Node.{Node}
use Rattle.sip_wire.specs.declared.message.Reason.{Reason}
use Rattle.sip_wire.specs.declared.message.Reason.TheVariants as reasons
use Rattle.sip_replies.specs.Checks.{Steps}
use Rattle.sip_replies.specs.Protocols.{Reveals}
use Rattle.sip_replies.specs.Replies.{Fault}
use Rattle.sip_replies.specs.declared.check.More.{More}
use Rattle.sip_replies.specs.declared.check.More.TheVariants as mores
use Rattle.sip_replies.proofs.Passing.{same_ok}
use Rattle.sip_heavy.specs.AcceptsHeavy.{HeavyQuestion, is_next, end_test, heavy_entries, known_after, leaves_of, merged, most_nodes, nodes_above, with_nodes}
use Rattle.sip_heavy.specs.Asking.{HeavyStands, phase_of}
use Rattle.sip_heavy.specs.Checking.{Advances, AnswersAs, Begun, GivenNodes, HasTaken, Kept, Takes, nothing}
use Rattle.sip_heavy.specs.Protocol.{HeavyAsked, HeavyState, end_step, ended, heavy_step, are_counts, leaf_nodes, mark_nodes, learns, nodes_step, nothing_came}
use Rattle.sip_heavy.proofs.Given.{known_same, passed, refused}

-- ---- the start

pub stands_begun : (asked : HeavyAsked) (c : Kept) (nodes : ℕ) (challenges : List ℕ) (places : List Entry) → asked.modulus ≡ m61_modulus
    → HasTaken m61_modulus asked.query asked.root challenges nothing c → Begun challenges nodes c → most_nodes asked.query ≤ length places → HeavyStands asked nothing_came c places
unfolding known_after
stands_begun asked c nodes challenges places field taken begun room =
    let none : c.known ≡ [] = sym (same_ok {E = Fault} [] c.known taken.ended) in
    record {
      field = field;
      given = nothing;
      taken = subst (λ rs. HasTaken m61_modulus asked.query asked.root rs nothing c) (sym begun.at_challenges) taken;
      level = begun.level;
      received = refl;
      leaves = refl;
      knows = record {
        learnt = λ e. none;
        due = λ e. absurd (omega (arith, e, begun.level));
      };
      unspent = begun.unspent;
      shown = rw taken.found refl;
      room = room;
    }

-- ---- a value and its fields

-- the fields stand for what the value stands for
pub stands_inside : (asked : HeavyAsked) (s : HeavyState) (inside now : Kept) (places : List Entry) → HeavyStands asked s now places → now.revealed ≡ now.level → inside ≡ now
    → HeavyStands asked s inside places × (inside.revealed ≡ inside.level)
stands_inside asked s inside now places stands at same =
    (subst (λ k. HeavyStands asked s k places) (sym same) stands, subst (λ (k : Kept). k.revealed ≡ k.level) (sym same) at)

-- ---- a challenge

pub stands_revealed : (asked : HeavyAsked) (s : HeavyState) (c new : Kept) (places : List Entry) (r : ℕ) (stands : HeavyStands asked s c places) → Reveals (phase_of c) → new ≡ record c { revealed = c.revealed + 1 }
    → r ≡ slice_index c.challenges c.revealed → HasTaken m61_modulus asked.query asked.root c.challenges stands.given new → HeavyStands asked (learns asked.modulus s r) new places
stands_revealed asked s c new places r stands reveals same is taken =
    subst (λ k. HeavyStands asked (learns asked.modulus s r) k places) (sym same) (record {
      field = stands.field;
      given = stands.given;
      taken = subst (λ k. HasTaken m61_modulus asked.query asked.root c.challenges stands.given k) same taken;
      level = stands.level;
      received = stands.received;
      leaves = stands.leaves;
      knows = record {
        learnt = λ e. rw (stands.field, is) (stands.knows.due reveals.same);
        due = λ e. absurd (omega (arith, e, reveals.same));
      };
      unspent = stands.unspent;
      shown = stands.shown;
      room = stands.room;
    })

-- ---- nodes of a frame

-- the answer of a call to the general talk
abbrev pub more_of : More → Result (Unit {0}) Reason → Result More Reason
more_of more (Ok u) = Ok more
more_of more (Err reason) = Err reason

-- a node more takes of the room
room_taken : (q : HeavyQuestion) (level : ℕ) (known before xs all : List Node) → with_nodes q level known before xs ≡ Ok all → 1 ≤ length xs
    → (length known + length before < most_nodes q) × (length before < length all)
room_taken q level known before [] all is some = absurd (omega (arith, some))
room_taken q level known before (x ∷ xs) all is some =
    let parts = first_passed all (is_next q level known before x.index) (nat_lt (length known + length before) (most_nodes q)) (level == 0 || nat_lt x.count q.at_least) (with_nodes q level known (before ++ x ∷ []) xs) is in
    (ltb-true (length known + length before) (most_nodes q) parts.0, omega (arith, longer (before ++ x ∷ []) xs all parts.1, length-append before (x ∷ [])))
  where
    first_passed : (every : List Node) (order room light : Bool) (r : Result (List Node) Reason)
        → (needs order reasons.BadOrder >>= λ _. needs room reasons.TooMany >>= λ _. needs light reasons.HeavySibling >>= λ _. r) ≡ Ok every → (room ≡ true) × (r ≡ Ok every)
    first_passed every true true true r e = (refl, e)
    first_passed every true true false r e = absurd cc
    first_passed every true false light r e = absurd cc
    first_passed every false room light r e = absurd cc

    longer : (front ys every : List Node) → with_nodes q level known front ys ≡ Ok every → length front ≤ length every
    longer front [] every e = let same : front ≡ every = cc in omega (arith, ap length same)
    longer front (y ∷ ys) every e =
        let parts = first_passed every (is_next q level known front y.index) (nat_lt (length known + length front) (most_nodes q)) (level == 0 || nat_lt y.count q.at_least) (with_nodes q level known (front ++ y ∷ []) ys) e in
        omega (arith, longer (front ++ y ∷ []) ys every parts.1, length-append front (y ∷ []))

module _ (asked : HeavyAsked) (s : HeavyState) (c new : Kept) (places : List Entry) (stands : HeavyStands asked s c places) (at : c.revealed ≡ c.level) where
  module _ (xs : List Node) (result : Result (Unit {0}) Reason) (takes : Takes m61_modulus c xs new result) where
    abbrev q : HeavyQuestion
    q = asked.query

    -- the test of the definition, by what the check keeps
    says : with_nodes q c.level c.known stands.given.received xs ≡ with_nodes q s.level s.known s.received xs
    says = ap (λ j. with_nodes q j c.known stands.given.received xs) stands.level
        ∙ ap (λ ks. with_nodes q s.level ks stands.given.received xs) (stands.knows.learnt at)
        ∙ ap (λ ys. with_nodes q s.level s.known ys xs) stands.received

    abbrev HasMore : List Node → Type 0
    HasMore all = HasTaken m61_modulus q asked.root c.challenges (record stands.given { received = all }) new

    answer : AnswersAs (with_nodes q c.level c.known stands.given.received xs) HasMore result
    answer = takes q asked.root c.challenges stands.given stands.taken

    -- one has a fault
    pub nodes_refused : (Stands : HeavyState → Type 0) (reason : Reason) (given : Result More Reason) → result ≡ Err reason → IsErrAnd given (λ other. other ≡ reason) → Steps (nodes_step q s xs) Stands given
    nodes_refused Stands reason (Ok more) is err = absurd err
    nodes_refused Stands reason (Err other) is err =
        let fault = refused (with_nodes q c.level c.known stands.given.received xs) HasMore reason (subst (AnswersAs (with_nodes q c.level c.known stands.given.received xs) HasMore) is answer) in
        let step : nodes_step q s xs ≡ Err reason = ap (λ (r : Result (List Node) Reason). r >>= λ all. Ok (mores.Due, record s { received = all })) (sym says ∙ fault) in
        rw (step, err) refl

    module _ (u : Unit {0}) (is : result ≡ Ok u) where
      got : (all : List Node) × ((with_nodes q c.level c.known stands.given.received xs ≡ Ok all) × HasMore all)
      got = passed (with_nodes q c.level c.known stands.given.received xs) HasMore (subst (AnswersAs (with_nodes q c.level c.known stands.given.received xs) HasMore) is answer)

      -- all passed
      pub nodes_taken : Advances c new 0 0 → new.spent ≡ false → Steps (nodes_step q s xs) (λ t. HeavyStands asked t new places) (Ok mores.Due)
      nodes_taken advances unspent =
          let all = got.0 in
          let step : nodes_step q s xs ≡ Ok (mores.Due, record s { received = all }) =
          ap (λ (r : Result (List Node) Reason). r >>= λ ys. Ok (mores.Due, record s { received = ys })) (sym says ∙ got.1.0) in
          let known : new.known ≡ c.known = known_same m61_modulus q asked.root c.challenges stands.given (record stands.given { received = all }) c new refl stands.taken got.1.1 in
          let found : new.found ≡ c.found = got.1.1.found ∙ sym stands.taken.found in
          subst (λ (r : Result (More × HeavyState) Reason). Steps r (λ t. HeavyStands asked t new places) (Ok mores.Due)) (sym step) (
            refl,
            record {
              field = stands.field;
              given = record stands.given { received = all };
              taken = subst (λ rs. HasTaken m61_modulus q asked.root rs (record stands.given { received = all }) new) (sym advances.challenges) got.1.1;
              level = omega (arith, advances.level, stands.level);
              received = refl;
              leaves = stands.leaves;
              knows = record {
                learnt = λ e. known ∙ stands.knows.learnt at;
                due = λ e. absurd (omega (arith, e, advances.level, advances.revealed, at));
              };
              unspent = unspent;
              shown = rw found stands.shown;
              room = stands.room;
            },
          )

      -- and the room for more is less
      pub room_falls : 1 ≤ length xs → new.most - (length new.nodes + (length new.known - new.passed)) < c.most - (length c.nodes + (length c.known - c.passed))
      room_falls some =
          let taken = got.1.1 in
          let known : new.known ≡ c.known = known_same m61_modulus q asked.root c.challenges stands.given (record stands.given { received = got.0 }) c new refl stands.taken taken in
          let less = room_taken q c.level c.known stands.given.received xs got.0 got.1.0 some in
          omega (arith, less.0, less.1, taken.size, stands.taken.size, taken.most, stands.taken.most, ap length known)

-- ---- the end of a level

-- what was stated of the leaves
leaves_next : (ended : List (List Node)) (received leaves : List Node) (level : ℕ) → level ≡ length ended → leaves_of ended ≡ leaves
    → leaves_of (ended ++ received ∷ []) ≡ (if level == 0 then received else leaves)
leaves_next [] received leaves level at is = rw at refl
leaves_next (first ∷ ended) received leaves level at is =
    let other : (suc (length ended) == 0) ≡ false = ne_eqb (suc (length ended)) 0 (λ e. absurd (omega (arith, e))) in
    rw (at, other) is

module _ (asked : HeavyAsked) (s : HeavyState) (c new : Kept) (places : List Entry) (stands : HeavyStands asked s c places) (at : c.revealed ≡ c.level) (result : Result (Unit {0}) Reason)
    (answers : AnswersAs (end_test asked.query c.level (merged c.known stands.given.received))
    (λ _. HasTaken m61_modulus asked.query asked.root c.challenges (record { ended = stands.given.ended ++ stands.given.received ∷ []; received = [] }) new) result) where
  abbrev nodes : List Node
  nodes = merged c.known stands.given.received

  abbrev with_end : GivenNodes
  with_end = record { ended = stands.given.ended ++ stands.given.received ∷ []; received = [] }

  nodes_are : nodes ≡ merged s.known s.received
  nodes_are = ap (λ ks. merged ks stands.given.received) (stands.knows.learnt at) ∙ ap (merged s.known) stands.received

  end_says : end_test asked.query c.level nodes ≡ end_test asked.query s.level (merged s.known s.received)
  end_says = ap (λ j. end_test asked.query j nodes) stands.level ∙ ap (end_test asked.query s.level) nodes_are

  pub end_refused_is : (Stands : HeavyState → Type 0) (reason : Reason) (given : Result More Reason) → result ≡ Err reason → IsErrAnd given (λ other. other ≡ reason) → Steps (end_step asked.query s) Stands given
  end_refused_is Stands reason (Ok more) is err = absurd err
  end_refused_is Stands reason (Err other) is err =
      let fault = refused (end_test asked.query c.level nodes) (λ _. HasTaken m61_modulus asked.query asked.root c.challenges with_end new) reason
      (subst (AnswersAs (end_test asked.query c.level nodes) (λ _. HasTaken m61_modulus asked.query asked.root c.challenges with_end new)) is answers) in
      let step : end_step asked.query s ≡ Err reason = ap (λ (r : Result (Unit {0}) Reason). r >>= λ _. Ok (mores.Complete, ended s)) (sym end_says ∙ fault) in
      rw (step, err) refl

  module _ (u : Unit {0}) (is : result ≡ Ok u) where
    taken_then : (x : Unit {0}) × ((end_test asked.query c.level nodes ≡ Ok x) × HasTaken m61_modulus asked.query asked.root c.challenges with_end new)
    taken_then = passed (end_test asked.query c.level nodes) (λ _. HasTaken m61_modulus asked.query asked.root c.challenges with_end new)
        (subst (AnswersAs (end_test asked.query c.level nodes) (λ _. HasTaken m61_modulus asked.query asked.root c.challenges with_end new)) is answers)

    -- there are places for what was found
    pub found_fits : length new.found ≤ new.most → length new.found ≤ length places
    found_fits few = omega (arith, few, taken_then.1.1.most, stands.room)

    -- what was found stays, above the lowest level
    pub found_stays : (c.level == 0) ≡ false → new.found ≡ c.found
    found_stays above = taken_then.1.1.found
        ∙ ap (heavy_entries m61_modulus asked.query.form asked.query.at_least) (leaves_next stands.given.ended stands.given.received (leaves_of stands.given.ended) c.level stands.taken.level refl ∙ rw above refl)
        ∙ sym stands.taken.found

    pub end_taken : (shown_in : List Entry) → Advances c new 1 0 → new.spent ≡ false → new.known ≡ nodes_above m61_modulus (slice_index c.challenges c.level) nodes
        → take (length new.found) shown_in ≡ new.found → length shown_in ≡ length places → Steps (end_step asked.query s) (λ t. HeavyStands asked t new shown_in) (Ok mores.Complete)
    end_taken shown_in advances unspent known shown long =
        let step : end_step asked.query s ≡ Ok (mores.Complete, ended s) = ap (λ (r : Result (Unit {0}) Reason). r >>= λ _. Ok (mores.Complete, ended s)) (sym end_says ∙ taken_then.1.0) in
        let revealed : new.revealed ≡ c.level = omega (arith, advances.revealed, at) in
        subst (λ (r : Result (More × HeavyState) Reason). Steps r (λ t. HeavyStands asked t new shown_in) (Ok mores.Complete)) (sym step) (
          refl,
          record {
            field = stands.field;
            given = with_end;
            taken = subst (λ rs. HasTaken m61_modulus asked.query asked.root rs with_end new) (sym advances.challenges) taken_then.1.1;
            level = omega (arith, advances.level, stands.level);
            received = refl;
            leaves =
                leaves_next stands.given.ended stands.given.received s.leaves c.level stands.taken.level stands.leaves
                ∙ ap (λ ys. if c.level == 0 then ys else s.leaves) stands.received
                ∙ ap (λ j. if j == 0 then s.received else s.leaves) stands.level;
            knows = record {
              learnt = λ e. absurd (omega (arith, e, advances.level, advances.revealed, at));
              due = λ e. known ∙ ap (nodes_above m61_modulus (slice_index c.challenges c.level)) nodes_are ∙ rw (advances.challenges, revealed) refl;
            };
            unspent = unspent;
            shown = shown;
            room = omega (arith, long, stands.room);
          },
        )

-- ---- a frame, by its kind

pub leaves_step_is : (p : ℕ) (q : HeavyQuestion) (s : HeavyState) (c : Kept) (v : ArrayVec Leaf) → c.form ≡ q.form → c.level ≡ s.level → (are_counts c.form && (c.level == 0)) ≡ true
    → heavy_step p q s (messages.Leaves v) ≡ nodes_step q s (leaf_nodes v.items)
leaves_step_is p q s c v form level at =
    let here : (are_counts q.form && (s.level == 0)) ≡ true = ap (λ f. are_counts f && (s.level == 0)) (sym form) ∙ ap (λ j. are_counts c.form && (j == 0)) (sym level) ∙ at in
    rw here refl

pub marks_step_is : (p : ℕ) (q : HeavyQuestion) (s : HeavyState) (c : Kept) (v : ArrayVec Mark) → p ≡ m61_modulus → c.form ≡ q.form → c.level ≡ s.level → (not (are_counts c.form) && (c.level == 0)) ≡ true
    → heavy_step p q s (messages.Marks v) ≡ nodes_step q s (mark_nodes m61_modulus v.items)
marks_step_is p q s c v field form level at =
    let here : (not (are_counts q.form) && (s.level == 0)) ≡ true = ap (λ f. not (are_counts f) && (s.level == 0)) (sym form) ∙ ap (λ j. not (are_counts c.form) && (j == 0)) (sym level) ∙ at in
    rw here (ap (λ k. nodes_step q s (mark_nodes k v.items)) field)

pub nodes_step_is : (p : ℕ) (q : HeavyQuestion) (s : HeavyState) (c : Kept) (v : ArrayVec Node) → c.level ≡ s.level → (c.level == 0) ≡ false → heavy_step p q s (messages.Nodes v) ≡ nodes_step q s v.items
nodes_step_is p q s c v level at = let here : (s.level == 0) ≡ false = ap (λ j. j == 0) (sym level) ∙ at in rw here refl

-- a step of a message is that of its frame
pub of_message : (p : ℕ) (q : HeavyQuestion) (s : HeavyState) (m n : Message) (Stands : HeavyState → Type 0) (given : Result More Reason) (r : Result (More × HeavyState) Reason) → m ≡ n → heavy_step p q s n ≡ r → Steps r Stands given → Steps (heavy_step p q s m) Stands given
of_message p q s m n Stands given r same is steps = subst (λ k. Steps (heavy_step p q s k) Stands given) (sym same) (subst (λ t. Steps t Stands given) (sym is) steps)

pub length_marks : (p : ℕ) (ms : List Mark) → length (mark_nodes p ms) ≡ length ms
length_marks p [] = refl
length_marks p (m ∷ ms) = ap suc (length_marks p ms)

pub length_leaves : (ls : List Leaf) → length (leaf_nodes ls) ≡ length ls
length_leaves [] = refl
length_leaves (l ∷ ls) = ap suc (length_leaves ls)
