-- After a reply for each level one node is known, at index 0.
use Rattle.std.proofs.Common.{◌≡◌, ℕ, suc, ◌+◌, ◌-◌, ◌*◌, ◌^◌, ◌<◌, Bool, true, false, ◌&&◌, ◌||◌, not, Result, Ok, List, [], ◌∷◌, length, refl, ap, sym, subst, ◌∙◌, arith}
use Rattle.std.specs.Prelude.{nat_lt}
use Rattle.std.proofs.Math.Nat.{pow-succ'}
use Rattle.std.proofs.lemmas.Bool.{and_parts, le-ltb, not-true}
use Rattle.sip_vector.specs.Steps.{◌>>=◌, needs}
use Rattle.sip_wire.specs.declared.message.Node.{Node}
use Rattle.sip_wire.specs.declared.message.Reason.{Reason}
use Rattle.sip_wire.specs.declared.message.Reason.TheVariants as reasons
use Rattle.sip_replies.specs.Replies.{in_round, Fault}
use Rattle.sip_replies.proofs.Passing.{step_passed, same_ok, round_passed}
use Rattle.sip_heavy.specs.AcceptsHeavy.{HeavyQuestion, are_pairs, end_test, is_empty, known_after, level_nodes, merged, nodes_above, width, with_nodes}
use Rattle.sip_heavy.specs.Rising.{Rises}
use Rattle.sip_heavy.proofs.Levels.{above_rises, ended_within, merged_rises, received_rise}
use Rattle.sip_heavy.proofs.ClearedLevels.{taken_same}

-- ---- one level

-- what a level that passes leads to
pub record Leads (p : ℕ) (q : HeavyQuestion) (level r : ℕ) (nodes : List Node) : Type 0 where
  pub rises : Rises 0 (width q (level + 1)) (nodes_above p r nodes)
  pub whole : are_pairs nodes ≡ true
  pub some : level + 1 ≡ q.depth → is_empty nodes ≡ false

ended_some : (q : HeavyQuestion) (level : ℕ) (nodes : List Node) → end_test q level nodes ≡ Ok tt → level + 1 ≡ q.depth → is_empty nodes ≡ false
ended_some q level nodes is last =
    let first = passed_pairs (are_pairs nodes && (nat_lt (level + 1) q.depth || not (is_empty nodes))) _ is in
    let both = and_parts (are_pairs nodes) (nat_lt (level + 1) q.depth || not (is_empty nodes)) first in
    let none : nat_lt (level + 1) q.depth ≡ false = le-ltb (level + 1) q.depth (omega (arith, last)) in
    not-true (is_empty nodes) (ap (λ b. b || not (is_empty nodes)) (sym none) ∙ both.1)
  where
    passed_pairs : (a : Bool) (r : Result (Unit {0}) Reason) → (needs a reasons.Pairs >>= λ _. r) ≡ Ok tt → a ≡ true
    passed_pairs true r e = refl
    passed_pairs false r e = absurd cc

level_leads : (p : ℕ) (q : HeavyQuestion) (level r : ℕ) (known received nodes : List Node) → level < q.depth → Rises 0 (width q level) known → level_nodes q level known received ≡ Ok nodes → Leads p q level r nodes
level_leads p q level r known received nodes left rises is =
    let first = step_passed (with_nodes q level known [] received) (λ all. end_test q level (merged known all) >>= λ _. Ok (merged known all)) nodes is in
    let all : List Node = first.x in
    let second = step_passed (end_test q level (merged known all)) (λ _. Ok (merged known all)) nodes first.then in
    let same : merged known all ≡ nodes = same_ok {E = Reason} (merged known all) nodes second.then in
    let these : all ≡ received = sym (taken_same q level known [] received all first.first) in
    let fresh = received_rise q level known [] 0 received all (λ i _. omega arith) first.first in
    let merged_is : Rises 0 (width q level) nodes = subst (Rises 0 (width q level)) (ap (merged known) (sym these) ∙ same) (merged_rises (width q level) 0 known received rises fresh.0 fresh.1) in
    let ends : end_test q level nodes ≡ Ok tt = ap (end_test q level) (sym same) ∙ second.first in
    let whole = (ended_within q level nodes ends).0 in
    let twice : width q level ≡ 2 * width q (level + 1) =
    ap (λ n. 2 ^ n) (let e : q.depth - level ≡ suc (q.depth - (level + 1)) = omega (arith, left) in e) ∙ pow-succ' 2 (q.depth - (level + 1)) in
    record {
      rises = above_rises p r (width q (level + 1)) 0 nodes whole (subst (λ n. Rises 0 n nodes) twice merged_is);
      whole = whole;
      some = ended_some q level nodes ends;
    }

-- ---- the top

-- these are one node, at index 0
pub record IsTop (known : List Node) : Type 0 where
  pub top : Node
  pub alone : known ≡ top ∷ []
  pub first : top.index ≡ 0

one_above : (p r : ℕ) (nodes : List Node) → are_pairs nodes ≡ true → is_empty nodes ≡ false → Rises 0 1 (nodes_above p r nodes) → IsTop (nodes_above p r nodes)
one_above p r [] whole some rises = absurd cc
one_above p r (l ∷ []) whole some rises = absurd cc
one_above p r (l ∷ h ∷ []) whole some rises = record { top = _; alone = refl; first = omega (arith, rises.1) }
one_above p r (l ∷ h ∷ m ∷ []) whole some rises =
    absurd (let e = (and_parts _ false whole).1 in cc)
one_above p r (l ∷ h ∷ m ∷ n ∷ more) whole some rises = absurd (omega (arith, rises.1, rises.2.0, rises.2.1))

top_from : (p : ℕ) (q : HeavyQuestion) (level : ℕ) (known : List Node) (challenges : List ℕ) (replies : List (List Node)) (last : List Node) → level + length challenges ≡ q.depth → 0 < length challenges → length replies ≡ length challenges
    → Rises 0 (width q level) known → known_after p q level known challenges replies ≡ Ok last → IsTop last
unfolding known_after
top_from p q level known [] replies last deep some same rises is = absurd (omega (arith, some))
top_from p q level known (r ∷ challenges) [] last deep some same rises is = absurd (omega (arith, same))
top_from p q level known (r ∷ []) (received ∷ []) last deep some same rises is =
    let parts = step_passed (in_round level (level_nodes q level known received)) (λ ns. Ok (nodes_above p r ns)) last is in
    let leads = level_leads p q level r known received parts.x (omega (arith, deep)) rises (round_passed level (level_nodes q level known received) parts.x parts.first) in
    let end : nodes_above p r parts.x ≡ last = same_ok {E = Fault} (nodes_above p r parts.x) last parts.then in
    let one : width q (level + 1) ≡ 1 = ap (λ n. 2 ^ n) (let e : q.depth - (level + 1) ≡ 0 = omega (arith, deep) in e) in
    subst IsTop end (one_above p r parts.x leads.whole (leads.some (omega (arith, deep))) (subst (λ n. Rises 0 n (nodes_above p r parts.x)) one leads.rises))
top_from p q level known (r ∷ []) (received ∷ second ∷ more) last deep some same rises is = absurd (omega (arith, same))
top_from p q level known (r ∷ s ∷ challenges) (received ∷ more) last deep some same rises is =
    let parts = step_passed (in_round level (level_nodes q level known received)) (λ ns. known_after p q (level + 1) (nodes_above p r ns) (s ∷ challenges) more) last is in
    let leads = level_leads p q level r known received parts.x (omega (arith, deep)) rises (round_passed level (level_nodes q level known received) parts.x parts.first) in
    top_from p q (level + 1) (nodes_above p r parts.x) (s ∷ challenges) more last (omega (arith, deep)) (omega arith) (omega (arith, same)) leads.rises parts.then

pub top_is_one : (p : ℕ) (q : HeavyQuestion) (challenges : List ℕ) (replies : List (List Node)) (last : List Node) → length challenges ≡ q.depth → 0 < length challenges → length replies ≡ length challenges
    → known_after p q 0 [] challenges replies ≡ Ok last → IsTop last
top_is_one p q challenges replies last deep some same is = top_from p q 0 [] challenges replies last (omega (arith, deep)) some same tt is
