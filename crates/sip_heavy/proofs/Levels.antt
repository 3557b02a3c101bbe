-- From one level to the next.
use Rattle.std.proofs.Common.{◌≡◌, ℕ, suc, ◌+◌, ◌-◌, ◌*◌, ◌/◌, ◌%◌, ◌^◌, ◌<◌, ◌≤◌, Bool, true, false, ◌&&◌, ◌||◌, not, Result, Ok, Err, IfOk, List, [], ◌∷◌, ◌++◌, length, eqb, refl, sym, ap, subst, ◌∙◌, arith, inl, inr, length-append}
use Rattle.std.specs.Prelude.{nat_lt, nat_le, ◌==◌, slice_index, if◌then◌else◌}
use Rattle.sip_vector.specs.declared.update.Entry.{Entry}
use Rattle.std.specs.List.{list_all, list_any}
use Rattle.std.proofs.Math.Nat.{pow-succ'}
use Rattle.std.proofs.lemmas.Bool.{and_parts, eqb-true, ltb-true, ne_eqb, not-true}
use Rattle.std.proofs.lemmas.Bool.Decides.{leb_tells, eqb_tells}
use Rattle.std.proofs.lemmas.List.Folds.{list_all-append}
use Rattle.sip_vector.specs.Steps.{◌>>=◌, needs}
use Rattle.sip_wire.specs.declared.message.Node.{Node}
use Rattle.sip_wire.specs.declared.message.Reason.{Reason}
use Rattle.sip_wire.specs.declared.message.Reason.TheVariants as reasons
use Rattle.sip_replies.specs.Replies.{Fault, in_round}
use Rattle.sip_replies.proofs.Passing.{step_passed}
use Rattle.sip_heavy.specs.declared.form.LeafForm.{LeafForm}
use Rattle.sip_heavy.specs.AcceptsHeavy.{HeavyQuestion, most_nodes, width, nodes_below, nodes_from, merged, are_pairs, pair_counts, is_empty, nodes_above, is_next, with_nodes, end_test, level_nodes, known_after, heavy_entries, leaves_of}
use Rattle.sip_heavy.specs.Checking.{Kept, GivenNodes, HasTaken, AnswersAs, asked_of, passing_all, keeping, folded}
use Rattle.sip_heavy.specs.Rising.{Rises}
use Rattle.sip_heavy.proofs.Merging.{all_below, merges_all, merges_none}

-- ---- what passed

three_passed : (order room light : Bool) (r : Result (List Node) Reason) (all : List Node)
    → (needs order reasons.BadOrder >>= λ _. needs room reasons.TooMany >>= λ _. needs light reasons.HeavySibling >>= λ _. r) ≡ Ok all → (order ≡ true) × (r ≡ Ok all)
three_passed true true true r all e = (refl, e)
three_passed true true false r all e = absurd cc
three_passed true false light r all e = absurd cc
three_passed false room light r all e = absurd cc

-- these are in the level and not known
abbrev pub AreNew : ℕ → List Node → List Node → Type 0
AreNew n known [] = Unit {0}
AreNew n known (x ∷ xs) = (list_any (λ k. k.index == x.index) known ≡ false) × AreNew n known xs

-- received nodes rise, and are new
pub received_rise : (q : HeavyQuestion) (level : ℕ) (known before : List Node) (least : ℕ) (xs all : List Node) → ((i : ℕ) → list_all (λ b. nat_lt b.index i) before ≡ true → least ≤ i)
    → with_nodes q level known before xs ≡ Ok all → Rises least (width q level) xs × AreNew (width q level) known xs
received_rise q level known before least [] all above passed = (tt, tt)
received_rise q level known before least (x ∷ xs) all above passed =
    let parts = three_passed (is_next q level known before x.index) (nat_lt (length known + length before) (most_nodes q)) (level == 0 || nat_lt x.count q.at_least) (with_nodes q level known (before ++ x ∷ []) xs) all passed in
    let next = and_parts (list_all (λ b. nat_lt b.index x.index) before && nat_lt x.index (width q level)) (not (list_any (λ k. k.index == x.index) known)) parts.0 in
    let order = and_parts (list_all (λ b. nat_lt b.index x.index) before) (nat_lt x.index (width q level)) next.0 in
    let later = received_rise q level known (before ++ x ∷ []) (suc x.index) xs all
    (λ i lower. let both = and_parts (list_all (λ b. nat_lt b.index i) before) (nat_lt x.index i && true) (sym (list_all-append (λ b. nat_lt b.index i) before (x ∷ [])) ∙ lower) in
    ltb-true x.index i (and_parts (nat_lt x.index i) true both.1).0) parts.1 in
    ((above x.index order.0, ltb-true x.index (width q level) order.1, later.0), (not-true _ next.1, later.1))

-- ---- a merged level rises

rises_below : (i n least : ℕ) (ks : List Node) → Rises least n ks → Rises least n (nodes_below i ks)
rises_below i n least [] rises = tt
rises_below i n least (k ∷ ks) rises = elim (leb_tells (suc k.index) i) [
  | inl t ↦ rw t.0 (rises.0, rises.1, rises_below i n (suc k.index) ks rises.2)
  | inr t ↦ rw t.0 tt
]

-- behind an index that is not known
rises_from : (i n least : ℕ) (ks : List Node) → Rises least n ks → list_any (λ k. k.index == i) ks ≡ false → Rises (suc i) n (nodes_from i ks)
rises_from i n least [] rises other = tt
rises_from i n least (k ∷ ks) rises other = elim (leb_tells (suc k.index) i) [
  | inl t ↦ rw t.0 (rises_from i n (suc k.index) ks rises.2 (or_parts (k.index == i) _ other).1)
  | inr t ↦
      rw t.0 (
        elim (eqb_tells k.index i) [
          | inl s ↦ absurd (let here : eqb k.index i ≡ false = (or_parts (k.index == i) _ other).0 in cc (here, s.0))
          | inr s ↦ omega (arith, t.1, s.1)
        ],
        rises.1,
        rises.2,
      )
]
  where
    or_parts : (a b : Bool) → (a || b) ≡ false → (a ≡ false) × (b ≡ false)
    or_parts false b e = (refl, e)
    or_parts true b e = absurd cc

none_from : (t : Node → Bool) (i : ℕ) (ks : List Node) → list_any t ks ≡ false → list_any t (nodes_from i ks) ≡ false
none_from t i [] none = refl
none_from t i (k ∷ ks) none = elim (leb_tells (suc k.index) i) [
  | inl s ↦ rw s.0 (none_from t i ks (behind (t k) _ none))
  | inr s ↦ rw s.0 none
]
  where
    behind : (a b : Bool) → (a || b) ≡ false → b ≡ false
    behind false b e = e
    behind true b e = absurd cc

new_from : (n i : ℕ) (known xs : List Node) → AreNew n known xs → AreNew n (nodes_from i known) xs
new_from n i known [] new = tt
new_from n i known (x ∷ xs) new = (none_from (λ k. k.index == x.index) i known new.0, new_from n i known xs new.1)

rises_append : (n least : ℕ) (x : Node) (ks xs : List Node) → Rises least n ks → list_all (λ k. nat_lt k.index x.index) ks ≡ true → least ≤ x.index → x.index < n → Rises (suc x.index) n xs → Rises least n (ks ++ x ∷ xs)
rises_append n least x [] xs rises all le below later = (le, below, later)
rises_append n least x (k ∷ ks) xs rises all le below later =
    let parts = and_parts (nat_lt k.index x.index) (list_all (λ y. nat_lt y.index x.index) ks) all in
    (rises.0, rises.1, rises_append n (suc k.index) x ks xs rises.2 parts.1 (ltb-true k.index x.index parts.0) below later)

pub merged_rises : (n least : ℕ) (known xs : List Node) → Rises least n known → Rises least n xs → AreNew n known xs → Rises least n (merged known xs)
merged_rises n least known [] rises received new = rises
merged_rises n least known (x ∷ xs) rises received new =
    rises_append n least x (nodes_below x.index known) (merged (nodes_from x.index known) xs) (rises_below x.index n least known rises) (all_below x.index known) received.0 received.1
    (merged_rises n (suc x.index) (nodes_from x.index known) xs (rises_from x.index n least known rises new.0) received.2 (new_from n x.index known xs new.1))

-- ---- the level above rises

pub above_rises : (p r n least : ℕ) (xs : List Node) → are_pairs xs ≡ true → Rises least (2 * n) xs → Rises (least / 2) n (nodes_above p r xs)
above_rises p r n least [] pairs rises = tt
above_rises p r n least (l ∷ []) pairs rises = tt
above_rises p r n least (l ∷ h ∷ xs) pairs rises =
    let parts = and_parts ((l.index % 2 == 0) && (h.index == l.index + 1)) (are_pairs xs) pairs in
    let here = and_parts (l.index % 2 == 0) (h.index == l.index + 1) parts.0 in
    let even : l.index % 2 ≡ 0 = eqb-true (l.index % 2) 0 here.0 in
    let next : h.index ≡ l.index + 1 = eqb-true h.index (l.index + 1) here.1 in
    let half : suc h.index / 2 ≡ suc (l.index / 2) = omega (arith, even, next) in (
      omega (arith, rises.0),
      omega (arith, rises.1),
      subst (λ a. Rises a n (nodes_above p r xs)) half (above_rises p r n (suc h.index) xs parts.1 rises.2.2),
    )

-- ---- one reply more

pub known_after_more : (p : ℕ) (q : HeavyQuestion) (level : ℕ) (known : List Node) (challenges : List ℕ) (ended : List (List Node)) (received k nodes : List Node)
    → known_after p q level known challenges ended ≡ Ok k → length ended < length challenges → level_nodes q (level + length ended) k received ≡ Ok nodes
    → known_after p q level known challenges (ended ++ received ∷ []) ≡ Ok (nodes_above p (slice_index challenges (length ended)) nodes)
unfolding known_after
known_after_more p q level known [] ended received k nodes is left says = absurd (omega arith)
known_after_more p q level known (r ∷ challenges) [] received k nodes is left says =
    let same : known ≡ k = cc in
    let e : level + 0 ≡ level = omega arith in
    ap (λ (t : Result (List Node) Reason). in_round level t >>= λ ns. Ok (nodes_above p r ns)) (ap (λ ks. level_nodes q level ks received) same ∙ (rw e at says))
known_after_more p q level known (r ∷ challenges) (first ∷ ended) received k nodes is left says =
    let parts = step_passed (in_round level (level_nodes q level known first)) (λ ns. known_after p q (level + 1) (nodes_above p r ns) challenges ended) k is in
    let e : level + suc (length ended) ≡ level + 1 + length ended = omega arith in
    ap (λ (t : Result (List Node) Fault). t >>= λ ns. known_after p q (level + 1) (nodes_above p r ns) challenges (ended ++ received ∷ [])) parts.first
    ∙ known_after_more p q (level + 1) (nodes_above p r parts.x) challenges ended received k nodes parts.then (omega arith) (rw e at says)

-- ---- the heavy leaves

pub merged_none : (xs : List Node) → merged [] xs ≡ xs
merged_none [] = refl
merged_none (x ∷ xs) = ap (λ ys. x ∷ ys) (merged_none xs)

-- they are those of the first reply
found_next : (p : ℕ) (q : HeavyQuestion) (challenges : List ℕ) (ended : List (List Node)) (received known : List Node) (level t : ℕ) (form : LeafForm) (found : List Entry) → level ≡ length ended
    → known_after p q 0 [] challenges ended ≡ Ok known → found ≡ heavy_entries p form t (leaves_of ended)
    → (if level == 0 then heavy_entries p form t (merged known received) else found) ≡ heavy_entries p form t (leaves_of (ended ++ received ∷ []))
unfolding known_after
found_next p q challenges [] received known level t form found at is same =
    let none : [] ≡ known = cc in
    rw (at, ← none) (ap (heavy_entries p form t) (merged_none received))
found_next p q challenges (first ∷ ended) received known level t form found at is same =
    let other : (suc (length ended) == 0) ≡ false = ne_eqb (suc (length ended)) 0 (λ e. absurd (omega (arith, e))) in
    rw (at, other) same

-- ---- the end of a level

pub ended_within : (q : HeavyQuestion) (level : ℕ) (nodes : List Node) → end_test q level nodes ≡ Ok tt → (are_pairs nodes ≡ true) × (list_all (λ c. nat_le c q.total) (pair_counts nodes) ≡ true)
ended_within q level nodes is =
    let outer = three (are_pairs nodes && (nat_lt (level + 1) q.depth || not (is_empty nodes))) (list_all (nat_le q.at_least) (pair_counts nodes)) (list_all (λ c. nat_le c q.total) (pair_counts nodes)) is in
    ((and_parts (are_pairs nodes) (nat_lt (level + 1) q.depth || not (is_empty nodes)) outer.0).0, outer.1)
  where
    three : (a b c : Bool) → ◌≡◌ {A = Result (Unit {0}) Reason} (needs a reasons.Pairs >>= λ _. needs b reasons.LightParent >>= λ _. needs c reasons.Total) (Ok tt) → (a ≡ true) × (c ≡ true)
    three true true true e = (refl, refl)
    three true true false e = absurd cc
    three true false c e = absurd cc
    three false b c e = absurd cc

module _ (p : ℕ) (q : HeavyQuestion) (root : ℕ) (challenges : List ℕ) (g : GivenNodes) (c : Kept) (taken : HasTaken p q root challenges g c) where
  pub nodes_are : merged c.known g.received ≡ (passing_all c).nodes
  nodes_are = merges_all c.known g.received c.passed c.nodes taken.merges

  pub end_says_so : end_test q c.level (merged c.known g.received) ≡ end_test (asked_of (passing_all c)) c.level (passing_all c).nodes
  end_says_so = ap (λ (a : HeavyQuestion). end_test a c.level (merged c.known g.received)) (sym taken.asked) ∙ ap (end_test (asked_of c) c.level) nodes_are

  HasTaken-ended : c.level < length c.challenges → end_test q c.level (merged c.known g.received) ≡ Ok tt
      → HasTaken p q root challenges (record { ended = g.ended ++ g.received ∷ []; received = [] }) (folded p (keeping p (passing_all c)))
  HasTaken-ended left is =
      let passed = ended_within q c.level (merged c.known g.received) is in
      let deep : length c.challenges ≡ q.depth = ap (λ (a : HeavyQuestion). a.depth) taken.asked in
      let nodes = merged c.known g.received in
      let says : level_nodes q c.level c.known g.received ≡ Ok nodes =
      ap (λ (r : Result (List Node) Reason). r >>= λ all. end_test q c.level (merged c.known all) >>= λ _. Ok (merged c.known all)) taken.received
      ∙ ap (λ (r : Result (Unit {0}) Reason). r >>= λ _. Ok nodes) is in
      let place : c.level ≡ 0 + length g.ended = omega (arith, taken.level) in
      let up : slice_index c.challenges c.level ≡ slice_index challenges (length g.ended) = rw (taken.at_challenges, taken.level) refl in
      let fresh = received_rise q c.level c.known [] 0 g.received g.received (λ i _. omega arith) taken.received in
      let rises = merged_rises (width q c.level) 0 c.known g.received taken.rises fresh.0 fresh.1 in
      let twice : width q c.level ≡ 2 * width q (c.level + 1) =
      ap (λ n. 2 ^ n) (let e : q.depth - c.level ≡ suc (q.depth - (c.level + 1)) = omega (arith, deep, left) in e) ∙ pow-succ' 2 (q.depth - (c.level + 1)) in
      let above = above_rises p (slice_index c.challenges c.level) (width q (c.level + 1)) 0 nodes passed.0 (subst (λ n. Rises 0 n nodes) twice rises) in
      record {
        asked = taken.asked;
        most = taken.most;
        at_challenges = taken.at_challenges;
        for_root = taken.for_root;
        level = omega (arith, taken.level, length-append g.ended (g.received ∷ []));
        ended =
            known_after_more p q 0 [] challenges g.ended g.received c.known nodes taken.ended (omega (arith, left, ap length taken.at_challenges, taken.level)) (subst (λ n. level_nodes q n c.known g.received ≡ Ok nodes) place says)
            ∙ ap (λ r. Ok (nodes_above p r nodes)) (sym up) ∙ ap (λ ns. Ok (nodes_above p (slice_index c.challenges c.level) ns)) nodes_are;
        received = refl;
        merges = merges_none _;
        passes = omega arith;
        size = omega arith;
        last = λ i. refl;
        below = λ i above_it. refl;
        found =
            ap (λ (a : HeavyQuestion). if c.level == 0 then heavy_entries p a.form a.at_least (passing_all c).nodes else c.found) taken.asked
            ∙ ap (λ ns. if c.level == 0 then heavy_entries p q.form q.at_least ns else c.found) (sym nodes_are)
            ∙ found_next p q challenges g.ended g.received c.known c.level q.at_least q.form c.found taken.level taken.ended taken.found;
        rises = subst (λ ns. Rises 0 (width q (c.level + 1)) (nodes_above p (slice_index c.challenges c.level) ns)) nodes_are above;
      }

  -- the answer to a level's end
  pub end_answers : (result : Result (Unit {0}) Reason) (new : Kept) → c.level < length c.challenges → result ≡ end_test (asked_of (passing_all c)) c.level (passing_all c).nodes → IfOk result (λ _. new ≡ folded p (keeping p (passing_all c)))
      → AnswersAs (end_test q c.level (merged c.known g.received)) (λ _. HasTaken p q root challenges (record { ended = g.ended ++ g.received ∷ []; received = [] }) new) result
  end_answers (Err reason) new left is same = subst (λ (r : Result (Unit {0}) Reason). AnswersAs r (λ _. HasTaken p q root challenges (record { ended = g.ended ++ g.received ∷ []; received = [] }) new) (Err reason)) (is ∙ sym end_says_so) refl
  end_answers (Ok done) new left is same =
      let said : end_test q c.level (merged c.known g.received) ≡ Ok tt = end_says_so ∙ sym is in
      subst (λ (r : Result (Unit {0}) Reason). AnswersAs r (λ _. HasTaken p q root challenges (record { ended = g.ended ++ g.received ∷ []; received = [] }) new) (Ok done)) (is ∙ sym end_says_so)
      (refl, subst (HasTaken p q root challenges (record { ended = g.ended ++ g.received ∷ []; received = [] })) (sym same) (HasTaken-ended left said))

  pub end_refused : (HasMore : Unit {0} → Type 0) (reason : Reason) → Err reason ≡ end_test (asked_of (passing_all c)) c.level (passing_all c).nodes → AnswersAs (end_test q c.level (merged c.known g.received)) HasMore (Err reason)
  end_refused HasMore reason is = subst (λ (r : Result (Unit {0}) Reason). AnswersAs r HasMore (Err reason)) (is ∙ sym end_says_so) refl
