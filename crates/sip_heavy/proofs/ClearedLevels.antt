-- The levels of a strategy, one challenge after another: what is not clear becomes clear for at most three challenges of each.
use Rattle.std.proofs.Common.{◌≡◌, ℕ, zero, suc, ◌+◌, ◌-◌, ◌*◌, ◌<◌, ◌≤◌, ◌^◌, Bool, true, false, ◌&&◌, ◌||◌, not, leb, Option, Some, None, Result, Ok, Err, List, [], ◌∷◌, ◌++◌, length, refl, ap, sym, ◌∙◌, arith, inl, inr, append_assoc}
use Rattle.std.specs.Prelude.{nat_lt, nat_le, ◌==◌}
use Rattle.std.specs.List.{list_all}
use Rattle.std.proofs.lemmas.Bool.{and_parts, and_from, or_cases, both_ways, ne_eqb, leb-true, lt-ltb}
use Rattle.std.proofs.lemmas.List.{append-nil}
use Rattle.std.proofs.lemmas.List.Folds.{list_all-append}
use Rattle.sip_field.specs.Prime.{IsPrime}
use Rattle.sip_counts.specs.Counts.{count_below, counted}
use Rattle.sip_counts.proofs.Sums.{count_below-none}
use Rattle.sip_counts.proofs.Escapes.{few_become_good}
use Rattle.sip_vector.specs.Steps.{◌>>=◌, needs}
use Rattle.sip_wire.specs.declared.message.Node.{Node}
use Rattle.sip_wire.specs.declared.message.Reason.{Reason}
use Rattle.sip_wire.specs.declared.message.Reason.TheVariants as reasons
use Rattle.sip_replies.proofs.Passing.{step_passed, same_ok}
use Rattle.sip_heavy.specs.AcceptsHeavy.{HeavyQuestion, most_nodes, is_next, is_empty, are_pairs, pair_counts, nodes_above, merged, with_nodes, end_test, level_nodes}
use Rattle.sip_heavy.specs.TrueNodes.{Spot, level_above}
use Rattle.sip_heavy.proofs.WrongLevels.{left_over, halves, is_clear, are_heavy, heavy_above, ClearsAbove, level_step}

-- ---- a level that passes

-- the tests of one node, and the others
pub node_parts : (order room light : Bool) (r : Result (List Node) Reason) (all : List Node)
    → (needs order reasons.BadOrder >>= λ _. needs room reasons.TooMany >>= λ _. needs light reasons.HeavySibling >>= λ _. r) ≡ Ok all → (order ≡ true) × (light ≡ true) × (r ≡ Ok all)
node_parts true true true r all e = (refl, refl, e)
node_parts true true false r all e = absurd cc
node_parts true false light r all e = absurd cc
node_parts false room light r all e = absurd cc

-- what was received is what is taken
pub taken_same : (q : HeavyQuestion) (level : ℕ) (known before xs all : List Node) → with_nodes q level known before xs ≡ Ok all → before ++ xs ≡ all
taken_same q level known before [] all is = let same : before ≡ all = cc in append-nil before ∙ same
taken_same q level known before (x ∷ xs) all is =
    let parts = node_parts (is_next q level known before x.index) (nat_lt (length known + length before) (most_nodes q)) (level == 0 || nat_lt x.count q.at_least) (with_nodes q level known (before ++ x ∷ []) xs) all is in
    sym (append_assoc before (x ∷ []) xs) ∙ taken_same q level known (before ++ x ∷ []) xs all parts.2

-- above the leaves it is light
taken_light : (q : HeavyQuestion) (level : ℕ) (known before xs all : List Node) → (level == 0) ≡ false → list_all (λ y. nat_lt y.count q.at_least) before ≡ true → with_nodes q level known before xs ≡ Ok all
    → list_all (λ y. nat_lt y.count q.at_least) all ≡ true
taken_light q level known before [] all above light is = let same : before ≡ all = cc in rw (← same) light
taken_light q level known before (x ∷ xs) all above light is =
    let parts = node_parts (is_next q level known before x.index) (nat_lt (length known + length before) (most_nodes q)) (level == 0 || nat_lt x.count q.at_least) (with_nodes q level known (before ++ x ∷ []) xs) all is in
    let here : nat_lt x.count q.at_least ≡ true = elim (or_cases (level == 0) (nat_lt x.count q.at_least) parts.1) [
      | inl e ↦ absurd (both_ways (level == 0) above e)
      | inr e ↦ e
    ] in
    taken_light q level known (before ++ x ∷ []) xs all above
    (list_all-append (λ y. nat_lt y.count q.at_least) before (x ∷ []) ∙ and_from (list_all (λ y. nat_lt y.count q.at_least) before) (nat_lt x.count q.at_least && true) light (and_from (nat_lt x.count q.at_least) true here refl)) parts.2

pub record Passed (q : HeavyQuestion) (level : ℕ) (known received nodes : List Node) : Type 0 where
  pub taken : with_nodes q level known [] received ≡ Ok received
  pub same : merged known received ≡ nodes
  pub pairs : are_pairs nodes ≡ true
  pub totals : list_all (λ c. nat_le c q.total) (pair_counts nodes) ≡ true

-- the tests at the end of a level
end_parts : (a b c : Bool) → ◌≡◌ {A = Result (Unit {0}) Reason} (needs a reasons.Pairs >>= λ _. needs b reasons.LightParent >>= λ _. needs c reasons.Total) (Ok tt) → (a ≡ true) × (c ≡ true)
end_parts true true true e = (refl, refl)
end_parts true true false e = absurd cc
end_parts true false c e = absurd cc
end_parts false b c e = absurd cc

pub level_passed : (q : HeavyQuestion) (level : ℕ) (known received nodes : List Node) → level_nodes q level known received ≡ Ok nodes → Passed q level known received nodes
level_passed q level known received nodes is =
    let first = step_passed (with_nodes q level known [] received) (λ all. end_test q level (merged known all) >>= λ _. Ok (merged known all)) nodes is in
    let second = step_passed (end_test q level (merged known first.x)) (λ _. Ok (merged known first.x)) nodes first.then in
    let all : received ≡ first.x = taken_same q level known [] received first.x first.first in
    let same : merged known first.x ≡ nodes = same_ok {E = Reason} (merged known first.x) nodes second.then in
    let ended : end_test q level nodes ≡ Ok tt = ap (end_test q level) (sym same) ∙ second.first in
    let tests = end_parts (are_pairs nodes && (nat_lt (level + 1) q.depth || not (is_empty nodes))) (list_all (nat_le q.at_least) (pair_counts nodes)) (list_all (λ c. nat_le c q.total) (pair_counts nodes)) ended in
    record {
      taken = first.first ∙ ap (λ (xs : List Node). Ok xs) (sym all);
      same = ap (merged known) all ∙ same;
      pairs = (and_parts (are_pairs nodes) (nat_lt (level + 1) q.depth || not (is_empty nodes)) tests.0).0;
      totals = tests.1;
    }

-- counts that are at most the total are below p
totals_below : (n p : ℕ) → n < p → (counts : List ℕ) → list_all (λ c. nat_le c n) counts ≡ true → list_all (λ c. nat_lt c p) counts ≡ true
totals_below n p less [] all = refl
totals_below n p less (c ∷ counts) all =
    let parts = and_parts (leb c n) (list_all (λ c. nat_le c n) counts) all in
    and_from (nat_lt c p) (list_all (λ c. nat_lt c p) counts) (lt-ltb c p (omega (arith, leb-true c n parts.0))) (totals_below n p less counts parts.1)

-- ---- all levels

-- the nodes of a level, if its reply is there and passes
abbrev pub passed : Result (List Node) Reason → Option (List Node)
passed (Ok nodes) = Some nodes
passed (Err _) = None

abbrev pub nodes_of : HeavyQuestion → ℕ → List Node → Option (List Node) → Option (List Node)
nodes_of q level known None = None
nodes_of q level known (Some received) = passed (level_nodes q level known received)

abbrev pub is_there : (List Node → Bool) → Option (List Node) → Bool
is_there test None = false
is_there test (Some nodes) = test nodes

-- The replies up to the one for these challenges pass, and the level that they lead to is clear. So many levels are left, and behind the last one no
-- reply comes: only the known node is there.
unfoldable pub clears : ℕ → HeavyQuestion → ℕ → ℕ → (List ℕ → Option (List Node)) → (ℕ → Spot) → List ℕ → List Node → List ℕ → Bool
clears p q zero level strategy truth heavy known v = is_clear p truth heavy known
clears p q (suc left) level strategy truth heavy known [] = is_there (is_clear p truth heavy) (nodes_of q level known (strategy []))
clears p q (suc left) level strategy truth heavy known (x ∷ v) =
    is_there (λ nodes. clears p q left (level + 1) (λ w. strategy (x ∷ w)) (level_above p x truth) (halves (left_over nodes heavy)) (nodes_above p x nodes) v) (nodes_of q level known (strategy []))

-- which reply the nodes are of
pub nodes_from_reply : (q : HeavyQuestion) (level : ℕ) (known : List Node) (o : Option (List Node)) (nodes : List Node) → nodes_of q level known o ≡ Some nodes → (received : List Node) × ((o ≡ Some received) × Passed q level known received nodes)
nodes_from_reply q level known None nodes is = absurd (cc)
nodes_from_reply q level known (Some received) nodes is = (received, (refl, level_passed q level known received nodes (by_result (level_nodes q level known received) is)))
  where
    by_result : (r : Result (List Node) Reason) → passed r ≡ Some nodes → r ≡ Ok nodes
    by_result (Ok xs) e = let same : xs ≡ nodes = cc in ap (λ (ys : List Node). Ok ys) same
    by_result (Err reason) e = absurd (cc)

module _ (p : ℕ) (q : HeavyQuestion) (prime : IsPrime p) (few : q.total < p) where
  -- where the level above is clear, light nodes were received there
  cleared_above : (left level x : ℕ) (strategy : List ℕ → Option (List Node)) (truth : ℕ → Spot) (heavy : List ℕ) (nodes : List Node)
      → clears p q left (level + 1) strategy (level_above p x truth) (halves (left_over nodes heavy)) (nodes_above p x nodes) [] ≡ true → ClearsAbove p q.at_least truth heavy nodes x
  unfolding clears
  cleared_above zero level x strategy truth heavy nodes h = record { received = []; light = refl; clear = h }
  cleared_above (suc left) level x strategy truth heavy nodes h = by_nodes (nodes_of q (level + 1) (nodes_above p x nodes) (strategy [])) refl h
    where
      by_nodes : (o : Option (List Node)) → nodes_of q (level + 1) (nodes_above p x nodes) (strategy []) ≡ o → is_there (is_clear p (level_above p x truth) (halves (left_over nodes heavy))) o ≡ true → ClearsAbove p q.at_least truth heavy nodes x
      by_nodes None is k = absurd (cc)
      by_nodes (Some above) is k =
          let w = nodes_from_reply q (level + 1) (nodes_above p x nodes) (strategy []) above is in
          record {
            received = w.0;
            light = taken_light q (level + 1) (nodes_above p x nodes) [] w.0 w.0 (ne_eqb (level + 1) 0 (λ e. absurd (omega (arith, e)))) refl w.1.1.taken;
            clear = ap (is_clear p (level_above p x truth) (halves (left_over nodes heavy))) w.1.1.same ∙ k;
          }

  clears_step : (left level : ℕ) (strategy : List ℕ → Option (List Node)) (truth : ℕ → Spot) (heavy : List ℕ) (known : List Node) (v : List ℕ) → length v < left → are_heavy q.at_least truth heavy ≡ true
      → clears p q left level strategy truth heavy known v ≡ false → count_below p (λ x. clears p q left level strategy truth heavy known (v ++ x ∷ [])) ≤ 3
  unfolding clears
  clears_step zero level strategy truth heavy known v short are wrong = absurd (omega arith)
  clears_step (suc left) level strategy truth heavy known [] short are wrong = by_nodes (nodes_of q level known (strategy [])) refl wrong
    where
      next : List Node → ℕ → Bool
      next nodes x = clears p q left (level + 1) (λ w. strategy (x ∷ w)) (level_above p x truth) (halves (left_over nodes heavy)) (nodes_above p x nodes) []

      by_nodes : (o : Option (List Node)) → nodes_of q level known (strategy []) ≡ o → is_there (is_clear p truth heavy) o ≡ false → count_below p (λ x. is_there (λ nodes. next nodes x) o) ≤ 3
      by_nodes None is k = omega (arith, count_below-none p (λ x. false) (λ x _. refl))
      by_nodes (Some nodes) is k =
          let w = nodes_from_reply q level known (strategy []) nodes is in
          level_step p q.at_least prime truth heavy nodes w.1.1.pairs (totals_below q.total p few (pair_counts nodes) w.1.1.totals) are k (next nodes)
          (λ x e. cleared_above left level x (λ w. strategy (x ∷ w)) truth heavy nodes e)
  clears_step (suc left) level strategy truth heavy known (y ∷ v) short are wrong =
      by_nodes (nodes_of q level known (strategy []))
      (λ nodes k. clears_step left (level + 1) (λ w. strategy (y ∷ w)) (level_above p y truth) (halves (left_over nodes heavy)) (nodes_above p y nodes) v (omega arith) (heavy_above p q.at_least y truth nodes heavy are) k)
      wrong
    where
      next : List Node → List ℕ → Bool
      next nodes = clears p q left (level + 1) (λ w. strategy (y ∷ w)) (level_above p y truth) (halves (left_over nodes heavy)) (nodes_above p y nodes)

      by_nodes : (o : Option (List Node)) → ((nodes : List Node) → next nodes v ≡ false → count_below p (λ x. next nodes (v ++ x ∷ [])) ≤ 3) → is_there (λ nodes. next nodes v) o ≡ false
          → count_below p (λ x. is_there (λ nodes. next nodes (v ++ x ∷ [])) o) ≤ 3
      by_nodes None step k = omega (arith, count_below-none p (λ x. false) (λ x _. refl))
      by_nodes (Some nodes) step k = step nodes k

  -- what isn't clear at first is clear at few vectors
  pub few_clear : (d : ℕ) (strategy : List ℕ → Option (List Node)) (truth : ℕ → Spot) (heavy : List ℕ) → are_heavy q.at_least truth heavy ≡ true → clears p q d 0 strategy truth heavy [] [] ≡ false
      → counted p (clears p q d 0 strategy truth heavy []) d ≤ 3 * d * p ^ (d - 1)
  few_clear d strategy truth heavy are wrong = few_become_good p 3 d (clears p q d 0 strategy truth heavy []) wrong (λ v short _ k. clears_step d 0 strategy truth heavy [] v short are k)
