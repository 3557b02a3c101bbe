-- Replies that are accepted have become clear.
use Rattle.std.proofs.Common.{◌≡◌, ℕ, zero, suc, ◌+◌, ◌-◌, ◌*◌, ◌/◌, ◌%◌, ◌^◌, Bool, true, false, eqb, ltb, Option, Some, None, Result, Ok, List, [], ◌∷◌, length, refl, ap, sym, subst, ◌∙◌, arith, inl, inr}
use Rattle.std.specs.Prelude.{nat_lt, ◌==◌}
use Rattle.std.specs.List.{list_all}
use Rattle.std.proofs.Math.Nat.{pow-succ'}
use Rattle.std.proofs.lemmas.Bool.{cases_Bool, and_parts, and_from, or_left, eqb-true, eq-eqb, ltb-true, lt-ltb}
use Rattle.sip_counts.specs.Strategies.{replies, all_there, before}
use Rattle.sip_counts.proofs.Talks.{replies-more}
use Rattle.sip_vector.specs.Steps.{◌>>=◌, needs}
use Rattle.sip_replies.specs.Replies.{in_round}
use Rattle.sip_wire.specs.declared.message.Node.{Node}
use Rattle.sip_wire.specs.declared.message.Reason.{Reason}
use Rattle.sip_wire.specs.declared.message.Reason.TheVariants as reasons
use Rattle.sip_replies.proofs.Passing.{step_passed, round_passed}
use Rattle.sip_heavy.specs.AcceptsHeavy.{HeavyQuestion, width, merged, nodes_above, level_nodes, known_after, top_test}
use Rattle.sip_heavy.specs.Rising.{Rises}
use Rattle.sip_heavy.proofs.Levels.{received_rise, merged_rises, above_rises}
use Rattle.sip_heavy.specs.TrueNodes.{Spot, is_spot, are_true, level_above}
use Rattle.sip_heavy.proofs.WrongLevels.{has, left_over, halves, is_clear}
use Rattle.sip_heavy.proofs.ClearedLevels.{Passed, level_passed, passed, nodes_of, is_there, clears}

-- ---- indices

-- these are below n
abbrev pub are_within : ℕ → List ℕ → Bool
are_within n indices = list_all (λ i. nat_lt i n) indices

halves_within : (n : ℕ) (nodes : List Node) (heavy : List ℕ) → are_within (2 * n) heavy ≡ true → are_within n (halves (left_over nodes heavy)) ≡ true
halves_within n nodes [] all = refl
halves_within n nodes (i ∷ rest) all =
    let parts = and_parts (ltb i (2 * n)) (are_within (2 * n) rest) all in
    let ih = halves_within n nodes rest parts.1 in
    elim (cases_Bool (has nodes i)) [
      | inl e ↦ rw e ih
      | inr e ↦ rw e (and_from (ltb (i / 2) n) (are_within n (halves (left_over nodes rest))) (lt-ltb (i / 2) n (omega (arith, ltb-true i (2 * n) parts.0))) ih)
    ]

-- the nodes above a level that passes rise
level_rises : (p r n : ℕ) (q : HeavyQuestion) (level : ℕ) (known received nodes : List Node) → width q level ≡ 2 * n → Rises 0 (2 * n) known → Passed q level known received nodes → Rises 0 n (nodes_above p r nodes)
level_rises p r n q level known received nodes wide rises passed =
    let fresh = received_rise q level known [] 0 received received (λ i _. omega arith) passed.taken in
    let whole : Rises 0 (width q level) (merged known received) = merged_rises (width q level) 0 known received (subst (λ k. Rises 0 k known) (sym wide) rises) fresh.0 fresh.1 in
    above_rises p r n 0 nodes passed.pairs (subst (λ k. Rises 0 k nodes) wide (subst (λ xs. Rises 0 (width q level) xs) passed.same whole))

-- ---- the top

top_parts : (a b : Bool) → ◌≡◌ {A = Result (Unit {0}) Reason} (needs a reasons.Total >>= λ _. needs b reasons.Root) (Ok tt) → (a ≡ true) × (b ≡ true)
top_parts true true e = (refl, refl)
top_parts true false e = absurd cc
top_parts false b e = absurd cc

alone_has : (x : Node) (heavy : List ℕ) → x.index ≡ 0 → are_within 1 heavy ≡ true → list_all (has (x ∷ [])) heavy ≡ true
alone_has x [] at all = refl
alone_has x (i ∷ rest) at all =
    let parts = and_parts (ltb i 1) (are_within 1 rest) all in
    and_from (has (x ∷ []) i) (list_all (has (x ∷ [])) rest) (or_left (eqb x.index i) false (eq-eqb x.index i (omega (arith, at, ltb-true i 1 parts.0)))) (alone_has x rest at parts.1)

-- the one node of the top is the true one
top_clear : (p root : ℕ) (q : HeavyQuestion) (truth : ℕ → Spot) (heavy : List ℕ) (known : List Node) → Rises 0 1 known → are_within 1 heavy ≡ true → (truth 0).0 ≡ root → (truth 0).1 ≡ q.total → top_test q root known ≡ Ok tt
    → is_clear p truth heavy known ≡ true
top_clear p root q truth heavy [] rises within hash count is = absurd cc
top_clear p root q truth heavy (x ∷ []) rises within hash count is =
    let parts = top_parts (x.count == q.total) (x.hash == root) is in
    let at : x.index ≡ 0 = omega (arith, rises.1) in
    let here : is_spot p x (truth 0) ≡ true = and_from (eqb (x.hash % p) ((truth 0).0 % p)) (eqb x.count (truth 0).1)
    (eq-eqb (x.hash % p) ((truth 0).0 % p) (ap (λ h. h % p) (eqb-true x.hash root parts.1 ∙ sym hash)))
    (eq-eqb x.count (truth 0).1 (eqb-true x.count q.total parts.0 ∙ sym count)) in
    and_from (are_true p truth (x ∷ [])) (list_all (has (x ∷ [])) heavy) (and_from (is_spot p x (truth x.index)) true (ap (λ i. is_spot p x (truth i)) at ∙ here) refl) (alone_has x heavy at within)
top_clear p root q truth heavy (x ∷ y ∷ more) rises within hash count is = absurd (omega (arith, rises.2.0, rises.2.1))

-- ---- all levels

-- the true level that these challenges lead to
abbrev pub level_after : ℕ → List ℕ → (ℕ → Spot) → ℕ → Spot
level_after p [] truth = truth
level_after p (x ∷ v) truth = level_after p v (level_above p x truth)

-- the first of replies that are all there
pub record First {X : Type 0} (o : Option X) (rest : List (Option X)) (all : List X) : Type 0 where
  pub received : X
  pub more : List X
  pub there : o ≡ Some received
  pub others : all_there rest ≡ Some more
  pub same : all ≡ received ∷ more

pub first_there : {X : Type 0} (o : Option X) (rest : List (Option X)) (all : List X) → all_there (o ∷ rest) ≡ Some all → First o rest all
first_there None rest all is = absurd cc
first_there {X} (Some received) rest all is = by_rest (all_there rest) refl is
  where
    by_rest : (w : Option (List X)) → all_there rest ≡ w → before received w ≡ Some all → First (Some received) rest all
    by_rest None e k = absurd cc
    by_rest (Some more) e k = record { received = received; more = more; there = refl; others = e; same = (let same : all ≡ received ∷ more = cc in same) }

module _ (p root : ℕ) (q : HeavyQuestion) where
  pub accepted_clears : (left level : ℕ) (strategy : List ℕ → Option (List Node)) (truth : ℕ → Spot) (heavy : List ℕ) (known : List Node) (v : List ℕ) (all : List (List Node)) (top : List Node)
      → length v ≡ left → q.depth ≡ level + left → Rises 0 (2 ^ left) known → are_within (2 ^ left) heavy ≡ true → all_there (replies strategy v) ≡ Some all
      → known_after p q level known v all ≡ Ok top → top_test q root top ≡ Ok tt → (level_after p v truth 0).0 ≡ root → (level_after p v truth 0).1 ≡ q.total
      → clears p q left level strategy truth heavy known v ≡ true
  unfolding clears known_after
  accepted_clears zero level strategy truth heavy known [] [] top long deep rises within there is ends hash count =
      let same : known ≡ top = cc in
      top_clear p root q truth heavy known rises within hash count (ap (top_test q root) same ∙ ends)
  accepted_clears zero level strategy truth heavy known [] (x ∷ all) top long deep rises within there is ends hash count = absurd cc
  accepted_clears zero level strategy truth heavy known (x ∷ v) all top long deep rises within there is ends hash count = absurd (omega arith)
  accepted_clears (suc left) level strategy truth heavy known [] all top long deep rises within there is ends hash count = absurd (omega arith)
  accepted_clears (suc left) level strategy truth heavy known (x ∷ v) all top long deep rises within there is ends hash count =
      let f = first_there (strategy []) (replies (λ w. strategy (x ∷ w)) v) all (ap all_there (sym (replies-more strategy x v)) ∙ there) in
      let says : known_after p q level known (x ∷ v) (f.received ∷ f.more) ≡ Ok top = ap (known_after p q level known (x ∷ v)) (sym f.same) ∙ is in
      let parts = step_passed (in_round level (level_nodes q level known f.received)) (λ nodes. known_after p q (level + 1) (nodes_above p x nodes) v f.more) top says in
      let nodes : List Node = parts.x in
      let ok : level_nodes q level known f.received ≡ Ok nodes = round_passed level (level_nodes q level known f.received) nodes parts.first in
      let twice : 2 ^ suc left ≡ 2 * 2 ^ left = pow-succ' 2 left in
      let wide : width q level ≡ 2 * 2 ^ left = ap (λ n. 2 ^ n) (let e : q.depth - level ≡ suc left = omega (arith, deep) in e) ∙ twice in
      let above = level_rises p x (2 ^ left) q level known f.received nodes wide (subst (λ n. Rises 0 n known) twice rises) (level_passed q level known f.received nodes ok) in
      let lower = halves_within (2 ^ left) nodes heavy (ap (λ n. are_within n heavy) (sym twice) ∙ within) in
      let ih = accepted_clears left (level + 1) (λ w. strategy (x ∷ w)) (level_above p x truth) (halves (left_over nodes heavy)) (nodes_above p x nodes) v f.more top (omega arith) (omega (arith, deep)) above lower f.others parts.then ends hash count in
      ap (is_there (λ ns. clears p q left (level + 1) (λ w. strategy (x ∷ w)) (level_above p x truth) (halves (left_over ns heavy)) (nodes_above p x ns) v)) (ap (nodes_of q level known) f.there ∙ ap passed ok) ∙ ih
