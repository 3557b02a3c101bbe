-- What a check has taken, after one call more.
use Rattle.std.proofs.Common.{◌≡◌, ℕ, suc, ◌+◌, ◌-◌, ◌^◌, Bool, true, false, ◌&&◌, ◌||◌, not, Option, Some, None, Result, Ok, Err, IfOk, List, [], ◌∷◌, ◌++◌, length, drop, ltb, refl, sym, ap, subst, ◌∙◌, arith, inl, inr, length-append}
use Rattle.std.specs.Prelude.{nat_lt, ◌==◌}
use Rattle.std.specs.List.{list_any}
use Rattle.std.proofs.lemmas.Bool.{and_parts, cases_Bool, ltb-true, lt-ltb}
use Rattle.std.proofs.lemmas.Bool.Decides.{leb_tells}
use Rattle.std.proofs.lemmas.List.{drop-drop, length-drop}
use Rattle.std.proofs.lemmas.List.Folds.{list_all-append}
use Rattle.sip_vector.specs.Steps.{◌>>=◌, needs}
use Rattle.sip_wire.specs.declared.message.Node.{Node}
use Rattle.sip_wire.specs.declared.message.Reason.{Reason}
use Rattle.sip_wire.specs.declared.message.Reason.TheVariants as reasons
use Rattle.sip_replies.specs.Rising.{is_above}
use Rattle.sip_heavy.specs.AcceptsHeavy.{HeavyQuestion, most_nodes, width, nodes_below, nodes_from, is_next, with_nodes, top_test}
use Rattle.sip_heavy.specs.Checking.{Kept, GivenNodes, HasTaken, AnswersAs, asked_of, passing, with_node, node_test, begins_with}
use Rattle.sip_heavy.proofs.Merging.{drop_below, length_below, merges_next, known_is, from_passed, passed_below, all_lower}

-- nodes are tested one after another
pub with_nodes-append : (q : HeavyQuestion) (level : ℕ) (known before xs more : List Node)
    → with_nodes q level known before (xs ++ more) ≡ (with_nodes q level known before xs >>= λ all. with_nodes q level known all more)
with_nodes-append q level known before [] more = refl
with_nodes-append q level known before (x ∷ xs) more =
    by_tests (is_next q level known before x.index) (nat_lt (length known + length before) (most_nodes q)) (level == 0 || nat_lt x.count q.at_least) _ _ (with_nodes-append q level known (before ++ x ∷ []) xs more)
  where
    by_tests : (order room light : Bool) (r t : Result (List Node) Reason) → t ≡ (r >>= λ all. with_nodes q level known all more)
        → (needs order reasons.BadOrder >>= λ _. needs room reasons.TooMany >>= λ _. needs light reasons.HeavySibling >>= λ _. t)
        ≡ ((needs order reasons.BadOrder >>= λ _. needs room reasons.TooMany >>= λ _. needs light reasons.HeavySibling >>= λ _. r) >>= λ all. with_nodes q level known all more)
    by_tests true true true r t e = e
    by_tests true true false r t e = refl
    by_tests true false light r t e = refl
    by_tests false room light r t e = refl

three_tests : {X : Type 0} (order room light : Bool) (x : X)
    → ◌≡◌ {A = Result X Reason} (needs order reasons.BadOrder >>= λ _. needs room reasons.TooMany >>= λ _. needs light reasons.HeavySibling >>= λ _. Ok x)
    ((needs order reasons.BadOrder >>= λ _. needs room reasons.TooMany >>= λ _. needs light reasons.HeavySibling) >>= λ _. Ok x)
three_tests true true true x = refl
three_tests true true false x = refl
three_tests true false light x = refl
three_tests false room light x = refl

order_passed : (order room light : Bool) → ◌≡◌ {A = Result (Unit {0}) Reason} (needs order reasons.BadOrder >>= λ _. needs room reasons.TooMany >>= λ _. needs light reasons.HeavySibling) (Ok tt) → order ≡ true
order_passed true room light e = refl
order_passed false room light e = absurd cc

by_above : (a w k b : Bool) → (a ≡ true → k ≡ b) → (a && w && not k) ≡ (a && w && not b)
by_above true w k b same = ap (λ x. w && not x) (same refl)
by_above false w k b same = refl

above_next : (last : Option ℕ) (i j : ℕ) → is_above last i ≡ true → (is_above last j && (nat_lt i j && true)) ≡ nat_lt i j
above_next None i j above = elim (cases_Bool (nat_lt i j)) [ inl t ↦ rw t refl | inr t ↦ rw t refl ]
above_next (Some l) i j above = elim (leb_tells (suc i) j) [
  | inl t ↦ (let here : ltb l j ≡ true = lt-ltb l j (omega (arith, ltb-true l i above, t.1)) in rw (t.0, here) refl)
  | inr t ↦ rw t.0 (by_false (ltb l j))
]
  where
    by_false : (b : Bool) → (b && (false && true)) ≡ false
    by_false true = refl
    by_false false = refl

module _ (p : ℕ) (q : HeavyQuestion) (root : ℕ) (challenges : List ℕ) (g : GivenNodes) (c : Kept) (taken : HasTaken p q root challenges g c) (x : Node) where
  abbrev rest : List Node
  rest = drop c.passed c.known

  abbrev less : List Node
  less = nodes_below x.index rest

  dropped : drop (c.passed + length less) c.known ≡ nodes_from x.index rest
  dropped = sym (drop-drop (length less) c.passed c.known) ∙ drop_below x.index rest

  order_is : is_next q c.level c.known g.received x.index
      ≡ (is_above c.last x.index && nat_lt x.index (2 ^ (length c.challenges - c.level)) && not (begins_with x.index (drop (c.passed + length less) c.known)))
  order_is =
      let k = list_any (λ y. y.index == x.index) c.known in
      let wide : width q c.level ≡ 2 ^ (length c.challenges - c.level) = ap (λ (a : HeavyQuestion). width a c.level) (sym taken.asked) in
      ap (λ a. a && nat_lt x.index (width q c.level) && not k) (taken.last x.index)
      ∙ ap (λ n. is_above c.last x.index && nat_lt x.index n && not k) wide
      ∙ by_above (is_above c.last x.index) (nat_lt x.index (2 ^ (length c.challenges - c.level))) k (begins_with x.index (drop (c.passed + length less) c.known))
      (λ above. known_is x.index 0 (width q c.level) c.known taken.rises
      ∙ ap (begins_with x.index) (sym (from_passed x.index c.passed c.known (taken.below x.index above)) ∙ sym dropped))

  size_is : length (c.nodes ++ less) + (length c.known - (c.passed + length less)) ≡ length c.known + length g.received
  size_is = omega (arith, taken.size, taken.passes, length-append c.nodes less, length_below x.index rest, length-drop c.passed c.known)

  pub node_says : with_nodes q c.level c.known g.received (x ∷ []) ≡ (node_test (passing c x.index) x >>= λ _. Ok (g.received ++ x ∷ []))
  node_says =
      let room : nat_lt (length c.known + length g.received) (most_nodes q) ≡ nat_lt (length (c.nodes ++ less) + (length c.known - (c.passed + length less))) c.most = rw (size_is, taken.most) refl in
      let light : (c.level == 0 || nat_lt x.count q.at_least) ≡ (c.level == 0 || nat_lt x.count c.at_least) = ap (λ (a : HeavyQuestion). c.level == 0 || nat_lt x.count a.at_least) (sym taken.asked) in
      ap (λ b. needs b reasons.BadOrder >>= λ _. needs (nat_lt (length c.known + length g.received) (most_nodes q)) reasons.TooMany >>= λ _. needs (c.level == 0 || nat_lt x.count q.at_least) reasons.HeavySibling >>= λ _. Ok (g.received ++ x ∷ [])) order_is
      ∙ ap (λ b. needs (is_above c.last x.index && nat_lt x.index (2 ^ (length c.challenges - c.level)) && not (begins_with x.index (drop (c.passed + length less) c.known))) reasons.BadOrder >>= λ _. needs b reasons.TooMany >>= λ _. needs (c.level == 0 || nat_lt x.count q.at_least) reasons.HeavySibling >>= λ _. Ok (g.received ++ x ∷ [])) room
      ∙ ap (λ b. needs (is_above c.last x.index && nat_lt x.index (2 ^ (length c.challenges - c.level)) && not (begins_with x.index (drop (c.passed + length less) c.known))) reasons.BadOrder >>= λ _. needs (nat_lt (length (c.nodes ++ less) + (length c.known - (c.passed + length less))) c.most) reasons.TooMany >>= λ _. needs b reasons.HeavySibling >>= λ _. Ok (g.received ++ x ∷ [])) light
      ∙ three_tests _ _ _ (g.received ++ x ∷ [])

  -- whether the check is spent says nothing of what it has taken
  HasTaken-node : (spent : Bool) → node_test (passing c x.index) x ≡ Ok tt → HasTaken p q root challenges (record g { received = g.received ++ x ∷ [] }) (record (with_node (passing c x.index) x) { spent = spent })
  HasTaken-node spent is =
      let order = order_passed _ _ _ is in
      let outer = and_parts (is_above c.last x.index && nat_lt x.index (2 ^ (length c.challenges - c.level))) (not (begins_with x.index (drop (c.passed + length less) c.known))) order in
      let above = (and_parts (is_above c.last x.index) (nat_lt x.index (2 ^ (length c.challenges - c.level))) outer.0).0 in
      record {
        asked = taken.asked;
        most = taken.most;
        at_challenges = taken.at_challenges;
        for_root = taken.for_root;
        level = taken.level;
        ended = taken.ended;
        received =
            with_nodes-append q c.level c.known [] g.received (x ∷ [])
            ∙ ap (λ (r : Result (List Node) Reason). r >>= λ all. with_nodes q c.level c.known all (x ∷ [])) taken.received
            ∙ node_says ∙ ap (λ (t : Result (Unit {0}) Reason). t >>= λ _. Ok (g.received ++ x ∷ [])) is;
        merges = merges_next c.known g.received c.passed c.nodes x taken.merges;
        passes = omega (arith, taken.passes, length_below x.index rest, length-drop c.passed c.known);
        size = omega (arith, size_is, length-append (c.nodes ++ less) (x ∷ []), length-append g.received (x ∷ []));
        last = λ j. list_all-append (λ (y : Node). nat_lt y.index j) g.received (x ∷ []) ∙ ap (λ b. b && (nat_lt x.index j && true)) (taken.last j) ∙ above_next c.last x.index j above;
        below = λ j lower. all_lower x.index j _ (omega (arith, ltb-true x.index j lower)) (passed_below x.index c.passed c.known (taken.below x.index above));
        rises = taken.rises;
        found = taken.found;
      }

  -- the answer to a node, where the check has taken it if it passes
  pub node_answers : (result : Result (Unit {0}) Reason) (new : Kept) (spent : Bool) → result ≡ node_test (passing c x.index) x → IfOk result (λ _. new ≡ with_node (passing c x.index) x)
      → AnswersAs (with_nodes q c.level c.known g.received (x ∷ [])) (λ all. HasTaken p q root challenges (record g { received = all }) (record new { spent = spent })) result
  node_answers (Err reason) new spent is same =
      subst (λ (r : Result (List Node) Reason). AnswersAs r (λ all. HasTaken p q root challenges (record g { received = all }) (record new { spent = spent })) (Err reason))
      (sym (node_says ∙ ap (λ (t : Result (Unit {0}) Reason). t >>= λ _. Ok (g.received ++ x ∷ [])) (sym is))) refl
  node_answers (Ok done) new spent is same =
      subst (λ (r : Result (List Node) Reason). AnswersAs r (λ all. HasTaken p q root challenges (record g { received = all }) (record new { spent = spent })) (Ok done))
      (sym (node_says ∙ ap (λ (t : Result (Unit {0}) Reason). t >>= λ _. Ok (g.received ++ x ∷ [])) (sym is)))
      (refl, subst (λ (k : Kept). HasTaken p q root challenges (record g { received = g.received ++ x ∷ [] }) (record k { spent = spent })) (sym same) (HasTaken-node spent (sym is)))

-- the answer to the end of the check
pub top_answers : (p : ℕ) (q : HeavyQuestion) (root : ℕ) (challenges : List ℕ) (g : GivenNodes) (c : Kept) → HasTaken p q root challenges g c
    → (result : Result (Unit {0}) Reason) → result ≡ top_test (asked_of c) c.hash c.known → result ≡ top_test q root c.known
top_answers p q root challenges g c taken result is =
    is ∙ ap (λ (a : HeavyQuestion). top_test a c.hash c.known) taken.asked ∙ ap (λ (h : ℕ). top_test q h c.known) taken.for_root
