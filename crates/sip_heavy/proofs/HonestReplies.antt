-- All honest replies: what they state, and that it is accepted.
use Rattle.std.proofs.Common.{◌≡◌, ℕ, zero, suc, ◌+◌, ◌-◌, ◌^◌, ◌<◌, ◌≤◌, Bool, true, false, ◌==◌, if◌then◌else◌, Ok, List, [], ◌∷◌, ◌++◌, length, filter, fold, map, All, ℤ, refl, sym, ap, ◌∙◌, arith}
use Rattle.std.specs.List.{flat_map}
use Rattle.std.proofs.Math.Nat.{pow-le-pow_right}
use Rattle.std.proofs.lemmas.Bool.{ne_eqb}
use Rattle.std.proofs.lemmas.List.Sums.{fold-append}
use Rattle.sip_field.specs.Moduli.{m61_modulus}
use Rattle.sip_vector.specs.Trees.{Counted, leaf, up3}
use Rattle.sip_wire.specs.declared.message.Node.{Node}
use Rattle.sip_wire.specs.declared.message.Message.TheVariants as messages
use Rattle.sip_wire.specs.declared.version.Version.{Version}
use Rattle.sip_wire.specs.Spelling.{spelling}
use Rattle.sip_wire.specs.Versions.{deepest}
use Rattle.sip_replies.specs.Protocols.{Rules}
use Rattle.sip_replies.specs.Replies.{read_reply, run_from}
use Rattle.sip_replies.proofs.Passing.{run_is, run_none}
use Rattle.sip_heavy.specs.declared.form.LeafForm.{LeafForm}
use Rattle.sip_heavy.specs.declared.form.LeafForm.TheVariants as forms
use Rattle.sip_heavy.specs.AcceptsHeavy.{HeavyQuestion, merged, with_nodes, end_test}
use Rattle.sip_heavy.specs.Honest.{Proving, learnt, is_first, lowest_frames, proving, proving_over, shown_from, opening_frames}
use Rattle.sip_heavy.specs.Protocol.{HeavyState, ended, heavy_rules}
use Rattle.sip_heavy.proofs.HeavyPairs.{counts, AreCounts, numbered, children, is_heavy, heavy_is, above_is, above_counts, above_are}
use Rattle.sip_heavy.proofs.HonestFrames.{AreHashed, AreShown, IsNodeRow, room_below, shown_rows, above_hashed, leaves_back, marks_shown}
use Rattle.sip_heavy.proofs.HonestLists.{received_pass, all_merge, ends_well, above_long, half_size, none_known, at, known_of}
use Rattle.sip_heavy.proofs.HonestReading.{leaves_read, marks_read, nodes_read}
use Rattle.sip_heavy.proofs.StatedFrames.{with_received}

-- ---- reply by reply

-- one more challenge leads to the level above
pub leaves-push : (p : ℕ) (form : LeafForm) (leaves : List Counted) (t : ℕ) (prefix : List ℕ) (r : ℕ) → proving_over p form leaves t (prefix ++ r ∷ []) ≡ learnt p (proving_over p form leaves t prefix) r
leaves-push p form leaves t prefix r =
    ap (λ (b : Bool). let s : Proving = record { form = form; at_least = t; is_leaf = b; level = fold (up3 p) leaves (prefix ++ r ∷ []) } in s) (not_first prefix)
    ∙ ap (λ (l : List Counted). let s : Proving = record { form = form; at_least = t; is_leaf = false; level = l } in s) (fold-append (up3 p) leaves prefix (r ∷ []))
  where
    not_first : (front : List ℕ) → is_first (front ++ r ∷ []) ≡ false
    not_first [] = refl
    not_first (x ∷ front) = refl

-- over the leaves of a vector's numbers
pub proving-push : (p : ℕ) (numbers : List ℤ) (t : ℕ) (prefix : List ℕ) (r : ℕ) → proving p numbers t (prefix ++ r ∷ []) ≡ learnt p (proving p numbers t prefix) r
proving-push p numbers t prefix r = leaves-push p forms.Count (map (leaf p) numbers) t prefix r

-- ---- what is known of a level

-- a level that a prover and a check are at
pub record Stands (version : Version) (p : ℕ) (q : HeavyQuestion) (j : ℕ) (is_leaf : Bool) (level : List Counted) : Type 0 where
  pub first : is_leaf ≡ (j == 0)
  pub are : AreCounts level
  pub sum : counts level ≡ q.total
  pub size : length level ≡ 2 ^ (q.depth - j)
  pub hashed : AreHashed p level
  pub leaves : is_leaf ≡ true → AreShown version p q.form level

left_levels : (d j : ℕ) → j < d → d - j ≡ suc (d - (j + 1))
left_levels d j less = omega (arith, less)

pub later : (j : ℕ) → (j + 1 == 0) ≡ false
later j = ne_eqb (j + 1) 0 (λ e. absurd (omega (arith, e)))

level_size : (version : Version) (p : ℕ) (q : HeavyQuestion) (j : ℕ) (is_leaf : Bool) (level : List Counted) → j < q.depth → Stands version p q j is_leaf level → length level ≡ 2 ^ suc (q.depth - (j + 1))
level_size version p q j is_leaf level less stands = stands.size ∙ ap (λ m. 2 ^ m) (left_levels q.depth j less)

stands_above : (version : Version) (p : ℕ) (q : HeavyQuestion) (j r : ℕ) (is_leaf : Bool) (level : List Counted) → 0 < p → j < q.depth → Stands version p q j is_leaf level → Stands version p q (j + 1) false (up3 p level r)
stands_above version p q j r is_leaf level some less stands =
    let n : ℕ = q.depth - (j + 1) in
    let size = level_size version p q j is_leaf level less stands in
    record {
      first = sym (later j);
      are = above_are p r level stands.are;
      sum = above_counts p r (2 ^ n) level stands.are (half_size n level size) ∙ stands.sum;
      size = above_long p r n level size;
      hashed = above_hashed p r some level;
      leaves = λ e. absurd (let f : false ≡ true = e in cc);
    }

-- what is known of a level from the level below
abbrev pub from_below : ℕ → Bool → List Counted → List Node
from_below t is_leaf level = if is_leaf then [] else filter (is_heavy t) (numbered 0 level)

from_below_is : (n t : ℕ) (is_leaf : Bool) (level : List Counted) → length level ≡ 2 ^ suc n → from_below t is_leaf level ≡ known_of t is_leaf level
from_below_is n t true level size = sym (none_known t (children t 0 level))
from_below_is n t false level size = heavy_is t (2 ^ n) 0 level (half_size n level size)

-- where these challenges lead a check
abbrev pub arrives : ℕ → ℕ → ℕ → List Node → Bool → List Counted → List ℕ → HeavyState
arrives p t j leaves is_leaf level [] = record { level = j; known = from_below t is_leaf level; received = []; leaves = leaves }
arrives p t j leaves is_leaf level (r ∷ challenges) = arrives p t (j + 1) (if j == 0 then shown_from t is_leaf 0 level else leaves) false (up3 p level r) challenges

-- ---- one reply

abbrev pub reply_of : Version → ℕ → Proving → List ℕ
reply_of version p s = flat_map (spelling version) (opening_frames p s ++ messages.LevelEnd ∷ [])

-- the replies from a level on
abbrev pub replies_of : Version → ℕ → LeafForm → ℕ → Bool → List Counted → List ℕ → List (List ℕ)
replies_of version p form t is_leaf level [] = []
replies_of version p form t is_leaf level (r ∷ challenges) = reply_of version p (at form t is_leaf level) ∷ replies_of version p form t false (up3 p level r) challenges

first_is : (j : ℕ) → true ≡ (j == 0) → j ≡ 0
first_is zero e = refl
first_is (suc j) e = absurd (let f = later j in let g : suc j ≡ j + 1 = omega arith in let h : true ≡ (j + 1 == 0) = rw g at e in cc)

module _ (version : Version) (p : ℕ) (q : HeavyQuestion) (some : 0 < p) (elements : p ≤ m61_modulus) (light : q.total < p) (shallow : q.depth ≤ deepest version) (one : 1 ≤ q.at_least) (reached : q.at_least ≤ q.total) where
  abbrev R : Rules HeavyState
  R = heavy_rules version p q

  -- behind the end of a level
  abbrev came : ℕ → List Node → Bool → List Counted → HeavyState
  came j leaves is_leaf level = record { level = j + 1; known = children q.at_least 0 level; received = []; leaves = if j == 0 then shown_from q.at_least is_leaf 0 level else leaves }

  module _ (j : ℕ) (leaves : List Node) (is_leaf : Bool) (level : List Counted) (less : j < q.depth) (stands : Stands version p q j is_leaf level) where
    abbrev shown : List Node
    shown = shown_from q.at_least is_leaf 0 level

    known_is : from_below q.at_least is_leaf level ≡ known_of q.at_least is_leaf level
    known_is = from_below_is (q.depth - (j + 1)) q.at_least is_leaf level (level_size version p q j is_leaf level less stands)

    shown_pass : with_nodes q j (from_below q.at_least is_leaf level) [] shown ≡ Ok shown
    shown_pass = rw known_is (received_pass q j is_leaf level stands.first less stands.sum stands.size one reached)

    shown_merge : merged (from_below q.at_least is_leaf level) shown ≡ children q.at_least 0 level
    shown_merge = rw known_is (all_merge q j is_leaf level stands.first less stands.sum stands.size one reached)

    shown_end : end_test q j (merged (from_below q.at_least is_leaf level) shown) ≡ Ok tt
    shown_end = rw shown_merge (ends_well q j is_leaf level stands.first less stands.sum stands.size one reached)

    shown_fit : All (IsNodeRow version) shown
    shown_fit =
        let whole = room_below version q.depth shallow in
        let part : 2 ^ (q.depth - j) ≤ 2 ^ q.depth = pow-le-pow_right {n = 2} (omega arith) (omega arith) in
        shown_rows version q.at_least is_leaf p q.total elements (omega (arith, light, elements)) 0 level (omega (arith, stands.size, whole, part)) stands.hashed (omega (arith, stands.sum))

  -- the lowest one, by what leaves have
  lowest_read : (s : HeavyState) (level : List Counted) (form : LeafForm) → q.form ≡ form → s.level ≡ 0 → AreShown version p form level
      → (let xs = shown_from q.at_least true 0 level in
      All (IsNodeRow version) xs → with_nodes q s.level s.known [] xs ≡ Ok xs → end_test q s.level (merged s.known xs) ≡ Ok tt
      → read_reply R (with_received s []) (flat_map (spelling version) (lowest_frames p form xs ++ messages.LevelEnd ∷ [])) ≡ Ok (ended (with_received s xs)))
  lowest_read s level forms.Count is first are rows passes ends = leaves_read version p q s (shown_from q.at_least true 0 level) is first rows (leaves_back q.at_least 0 level are) passes ends
  lowest_read s level forms.Mark is first are rows passes ends =
      marks_read version p q s (shown_from q.at_least true 0 level) are.0 elements is first rows (marks_shown p q.at_least 0 level are.1) passes ends

  reply_read : (j : ℕ) (leaves : List Node) (is_leaf : Bool) (level : List Counted) → j < q.depth → Stands version p q j is_leaf level
      → read_reply R (arrives p q.at_least j leaves is_leaf level []) (reply_of version p (at q.form q.at_least is_leaf level)) ≡ Ok (came j leaves is_leaf level)
  reply_read j leaves true level less stands =
      let s : HeavyState = arrives p q.at_least j leaves true level [] in
      lowest_read s level q.form refl (first_is j stands.first) (stands.leaves refl) (shown_fit j leaves true level less stands)
      (shown_pass j leaves true level less stands) (shown_end j leaves true level less stands)
      ∙ ap (λ (xs : List Node). Ok (let x : HeavyState = record { level = j + 1; known = xs; received = []; leaves = if j == 0 then shown_from q.at_least true 0 level else leaves } in x)) (shown_merge j leaves true level less stands)
  reply_read j leaves false level less stands =
      let s : HeavyState = arrives p q.at_least j leaves false level [] in
      nodes_read version p q s (shown j leaves false level less stands) (sym stands.first) (shown_fit j leaves false level less stands)
      (shown_pass j leaves false level less stands) (shown_end j leaves false level less stands)
      ∙ ap (λ (xs : List Node). Ok (let x : HeavyState = record { level = j + 1; known = xs; received = []; leaves = if j == 0 then shown_from q.at_least false 0 level else leaves } in x)) (shown_merge j leaves false level less stands)

  -- ---- all replies

  pub runs : (challenges more : List ℕ) (j : ℕ) (leaves : List Node) (is_leaf : Bool) (level : List Counted) → j + length challenges ≤ q.depth → Stands version p q j is_leaf level
      → run_from R j (challenges ++ more) (arrives p q.at_least j leaves is_leaf level []) (replies_of version p q.form q.at_least is_leaf level challenges) ≡ Ok (arrives p q.at_least j leaves is_leaf level challenges)
  runs [] more j leaves is_leaf level within stands = run_none R j more (arrives p q.at_least j leaves is_leaf level [])
  runs (r ∷ challenges) more j leaves is_leaf level within stands =
      let t : ℕ = q.at_least in
      let less : j < q.depth = omega (arith, within) in
      let above = stands_above version p q j r is_leaf level some less stands in
      let next : List Node = if j == 0 then shown_from t is_leaf 0 level else leaves in
      run_is R j ((r ∷ challenges) ++ more) (arrives p t j leaves is_leaf level []) (reply_of version p (at q.form t is_leaf level)) (replies_of version p q.form t false (up3 p level r) challenges) (came j leaves is_leaf level) (reply_read j leaves is_leaf level less stands)
      ∙ ap (λ (xs : List Node). run_from R (j + 1) (challenges ++ more) (record { level = j + 1; known = xs; received = []; leaves = next }) (replies_of version p q.form t false (up3 p level r) challenges)) (above_is p r t 0 level stands.are)
      ∙ runs challenges more (j + 1) next false (up3 p level r) (omega (arith, within)) above
