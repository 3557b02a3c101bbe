-- The honest nodes, level by level, pass all tests and lead to the true root.
use Rattle.std.proofs.Common.{◌≡◌, ℕ, zero, suc, ◌+◌, ◌-◌, ◌*◌, ◌^◌, ◌<◌, ◌≤◌, Bool, true, false, not, ◌==◌, ◌||◌, List, [], ◌∷◌, length, get_or, filter, map, fold, if◌then◌else◌, ◌%◌, ℤ, pos, negsuc, nat_abs, Ok, refl, sym, ap, subst, ◌∙◌, inl, inr, arith}
use Rattle.std.specs.Prelude.{nat_lt, int_le, ◌≤ℤ◌}
use Rattle.std.specs.List.{list_all, enumerate_from}
use Rattle.std.proofs.Math.Nat.{pow-succ'}
use Rattle.std.proofs.lemmas.Bool.{and_from, cases_Bool, eq-eqb, ne_eqb, le-leb, lt-leb}
use Rattle.std.proofs.lemmas.Bool.Decides.{leb_tells}
use Rattle.std.proofs.lemmas.Int.{ints}
use Rattle.sip_vector.specs.declared.update.Entry.{Entry}
use Rattle.sip_vector.specs.Trees.{Counted, leaf, up3}
use Rattle.sip_vector.proofs.Filters.{as_entry}
use Rattle.sip_vector.proofs.TreeCounted.{length-up3}
use Rattle.sip_wire.specs.declared.message.Node.{Node}
use Rattle.sip_heavy.specs.declared.form.LeafForm.{LeafForm}
use Rattle.sip_heavy.specs.AcceptsHeavy.{HeavyQuestion, width, merged, with_nodes, end_test, level_nodes, nodes_above, known_after, top_test, verdict, heavy_entries, leaves_of, value_of, is_empty}
use Rattle.sip_heavy.specs.Counting.{LeafStands, LeavesStand, top_of}
use Rattle.sip_heavy.specs.Honest.{Proving, begun_over, node_at, shown_from, honest_lists, heavy_of}
use Rattle.sip_heavy.specs.Rising.{Rises}
use Rattle.sip_heavy.specs.TrueNodes.{is_spot}
use Rattle.sip_heavy.proofs.Cuts.{ltb_tells, merge_back, filter_rises, cut_apart, cut_long, cut_passes, all_pass}
use Rattle.sip_heavy.proofs.HeavyPairs.{counts, AreCounts, numbered, children, children_rise, children_pair, children_heavy, children_within, children_few, is_sent, sent_is, is_heavy, heavy_is, above_is, above_counts, above_are}
use Rattle.sip_heavy.proofs.Sendable.{AreCounted, are_counts}

-- a level that a prover is at
abbrev pub at : LeafForm → ℕ → Bool → List Counted → Proving
at form t is_leaf level = record { form = form; at_least = t; is_leaf = is_leaf; level = level }

-- what is known of a level: its children that are not sent
abbrev pub known_of : ℕ → Bool → List Counted → List Node
known_of t is_leaf level = filter (λ x. not (is_sent t is_leaf x)) (children t 0 level)

-- ---- one level

pub two_halves : (n : ℕ) → 1 ≤ n → 2 ^ n ≡ 2 ^ (n - 1) + 2 ^ (n - 1)
two_halves zero some = absurd (omega arith)
two_halves (suc n) some = let one : suc n - 1 ≡ n = omega arith in rw one (pow-succ' 2 n ∙ (let twice : 2 * 2 ^ n ≡ 2 ^ n + 2 ^ n = omega arith in twice))

-- a level of one pair shows it
some_shown : (t n : ℕ) (level : List Counted) → length level ≡ 2 → counts level ≡ n → t ≤ n → is_empty (children t 0 level) ≡ false
some_shown t n [] size sum reached = absurd (omega (arith, size))
some_shown t n (l ∷ []) size sum reached = absurd (omega (arith, size))
some_shown t n (l ∷ h ∷ []) size sum reached = rw (le-leb t (nat_abs l.count + nat_abs h.count) (omega (arith, sum, reached))) refl
some_shown t n (l ∷ h ∷ x ∷ level) size sum reached = absurd (omega (arith, size))

module _ (q : HeavyQuestion) (j : ℕ) (is_leaf : Bool) (level : List Counted) (first : is_leaf ≡ (j == 0)) (below : j < q.depth)
    (sum : counts level ≡ q.total) (size : length level ≡ width q j) (some : 1 ≤ q.at_least) (reached : q.at_least ≤ q.total) where
  pub received_pass : with_nodes q j (known_of q.at_least is_leaf level) [] (shown_from q.at_least is_leaf 0 level) ≡ Ok (shown_from q.at_least is_leaf 0 level)
  received_pass =
      let t : ℕ = q.at_least in
      let nodes = children t 0 level in
      let rises : Rises 0 (width q j) nodes = children_rise t 0 (width q j) level (omega (arith, size)) in
      let few = children_few t 0 q.total level some (omega (arith, sum)) in
      let long = cut_long (is_sent t is_leaf) nodes in
      let light : list_all (λ x. j == 0 || nat_lt x.count t) (filter (is_sent t is_leaf) nodes) ≡ true = subst (λ b. list_all (λ x. b || nat_lt x.count t) (filter (is_sent t is_leaf) nodes) ≡ true) first (cut_passes (is_sent t is_leaf) nodes) in
      rw (sent_is t is_leaf 0 level) (all_pass q j (known_of t is_leaf level) 0 [] (filter (is_sent t is_leaf) nodes) refl (filter_rises (is_sent t is_leaf) 0 (width q j) nodes rises) (cut_apart (is_sent t is_leaf) 0 (width q j) nodes rises) light (omega (arith, few, long)))

  pub all_merge : merged (known_of q.at_least is_leaf level) (shown_from q.at_least is_leaf 0 level) ≡ children q.at_least 0 level
  all_merge =
      let nodes = children q.at_least 0 level in
      rw (sent_is q.at_least is_leaf 0 level) (merge_back (is_sent q.at_least is_leaf) 0 (width q j) nodes (children_rise q.at_least 0 (width q j) level (omega (arith, size))))

  not_bare : (nat_lt (j + 1) q.depth || not (is_empty (children q.at_least 0 level))) ≡ true
  not_bare = elim (ltb_tells (j + 1) q.depth) [
    | inl s ↦ rw s.0 refl
    | inr s ↦
        let last : q.depth - j ≡ 1 = omega (arith, below, s.1) in
        let two : length level ≡ 2 = size ∙ ap (λ n. 2 ^ n) last in
        rw (s.0, some_shown q.at_least q.total level two sum reached) refl
  ]

  pub ends_well : end_test q j (children q.at_least 0 level) ≡ Ok tt
  ends_well = rw (children_pair q.at_least 0 level refl, not_bare, children_heavy q.at_least 0 level, children_within q.at_least 0 q.total level (omega (arith, sum))) refl

  pub level_passes : level_nodes q j (known_of q.at_least is_leaf level) (shown_from q.at_least is_leaf 0 level) ≡ Ok (children q.at_least 0 level)
  level_passes = rw (received_pass, all_merge, ends_well) refl

-- ---- all levels

pub above_long : (p r n : ℕ) (level : List Counted) → length level ≡ 2 ^ suc n → length (up3 p level r) ≡ 2 ^ n
above_long p r n level size = length-up3 p r level (2 ^ n) (size ∙ pow-succ' 2 n)

pub half_size : (n : ℕ) (level : List Counted) → length level ≡ 2 ^ suc n → length level ≡ 2 ^ n + 2 ^ n
half_size n level size = size ∙ pow-succ' 2 n ∙ (let twice : 2 * 2 ^ n ≡ 2 ^ n + 2 ^ n = omega arith in twice)

left_levels : (d j n : ℕ) → j + suc n ≡ d → d - j ≡ suc n
left_levels d j n is = omega (arith, is)

pub climbs : (p : ℕ) (q : HeavyQuestion) (r : ℕ) (challenges : List ℕ) (j : ℕ) (is_leaf : Bool) (level : List Counted) → 1 ≤ q.at_least → q.at_least ≤ q.total
    → is_leaf ≡ (j == 0) → j + suc (length challenges) ≡ q.depth → AreCounts level → counts level ≡ q.total → length level ≡ 2 ^ suc (length challenges)
    → known_after p q j (known_of q.at_least is_leaf level) (r ∷ challenges) (honest_lists p (at q.form q.at_least is_leaf level) (r ∷ challenges))
    ≡ Ok (filter (is_heavy q.at_least) (numbered 0 (fold (up3 p) level (r ∷ challenges))))
unfolding known_after
climbs p q r [] j is_leaf level some reached first depth are sum size =
    let t : ℕ = q.at_least in
    let left = left_levels q.depth j 0 depth in
    rw (level_passes q j is_leaf level first (omega (arith, depth)) sum (size ∙ ap (λ n. 2 ^ n) (sym left)) some reached)
    (ap (λ xs. Ok xs) (above_is p r t 0 level are))
climbs p q r (s ∷ challenges) j is_leaf level some reached first depth are sum size =
    let t : ℕ = q.at_least in
    let n : ℕ = length challenges in
    let left = left_levels q.depth j (suc n) depth in
    let above = up3 p level r in
    let long : length above ≡ 2 ^ suc n = above_long p r (suc n) level size in
    let known : nodes_above p r (children t 0 level) ≡ known_of t false above = above_is p r t 0 level are ∙ heavy_is t (2 ^ n) 0 above (half_size n above long) in
    let later : false ≡ (j + 1 == 0) = sym (ne_eqb (j + 1) 0 (λ e. absurd (omega (arith, e)))) in
    rw (level_passes q j is_leaf level first (omega (arith, depth)) sum (size ∙ ap (λ m. 2 ^ m) (sym left)) some reached, known)
    (climbs p q s challenges (j + 1) false above some reached later (omega (arith, depth)) (above_are p r level are) (above_counts p r (2 ^ suc n) level are (half_size (suc n) level size) ∙ sum) long)

-- ---- the leaves

-- a leaf is the node at its place
same_spot : (p i : ℕ) (c : Counted) → is_spot p (node_at i c) (c.hash, nat_abs c.count) ≡ true
same_spot p i c = and_from _ _ (eq-eqb (c.hash % p) (c.hash % p) refl) (eq-eqb (nat_abs c.count) (nat_abs c.count) refl)

reads_at : (p : ℕ) (form : LeafForm) (i : ℕ) (c : Counted) (a : ℤ) → LeafStands p form c a → value_of p form (node_at i c) ≡ a
reads_at p form i c a stand = stand.reads (node_at i c) (same_spot p i c)

-- the heavy leaves are the heavy numbers
pub heavy_numbers : (p : ℕ) (form : LeafForm) (t i : ℕ) (leaves : List Counted) (numbers : List ℤ) → LeavesStand p form leaves numbers
    → heavy_entries p form t (numbered i leaves) ≡ filter (λ e. int_le (pos t) e.value) (map as_entry (enumerate_from i numbers))
heavy_numbers p form t i [] [] stand = refl
heavy_numbers p form t i [] (a ∷ numbers) stand = absurd stand
heavy_numbers p form t i (c ∷ leaves) [] stand = absurd stand
heavy_numbers p form t i (c ∷ leaves) (a ∷ numbers) stand =
    let value = reads_at p form i c a stand.0 in
    let one : suc i ≡ i + 1 = omega arith in
    let rest : heavy_entries p form t (numbered (suc i) leaves) ≡ filter (λ e. int_le (pos t) e.value) (map as_entry (enumerate_from (i + 1) numbers)) = rw one (heavy_numbers p form t (i + 1) leaves numbers stand.1) in
    elim (cases_Bool (int_le (pos t) a)) [
      | inl s ↦ rw (value, s) (ap (λ es. as_entry (i, a) ∷ es) rest)
      | inr s ↦ rw (value, s) rest
    ]

not_reached : (t n : ℕ) (a c : ℤ) → c ≡ pos n → a ≤ℤ c → n < t → int_le (pos t) a ≡ false
not_reached t n (pos k) c is within less = let order : pos k ≤ℤ pos n = subst (λ z. pos k ≤ℤ z) is within in lt-leb t k (omega (arith, ints, order, less))
not_reached t n (negsuc k) c is within less = refl

-- a light leaf stands for no heavy number
light_leaf : (p : ℕ) (form : LeafForm) (t i : ℕ) (c : Counted) (a : ℤ) (xs : List Node) → LeafStands p form c a → nat_abs c.count < t → heavy_entries p form t (node_at i c ∷ xs) ≡ heavy_entries p form t xs
light_leaf p form t i c a xs stand light =
    let value = reads_at p form i c a stand in
    let below = not_reached t stand.counts.0 a c.count stand.counts.1 stand.within (omega (arith, light, ap nat_abs stand.counts.1)) in
    rw (value, below) refl

pub none_heavy : (p : ℕ) (form : LeafForm) (t i : ℕ) (leaves : List Counted) (numbers : List ℤ) → LeavesStand p form leaves numbers → counts leaves < t → heavy_entries p form t (numbered i leaves) ≡ []
none_heavy p form t i [] numbers stand less = refl
none_heavy p form t i (c ∷ leaves) [] stand less = absurd stand
none_heavy p form t i (c ∷ leaves) (a ∷ numbers) stand less =
    light_leaf p form t i c a (numbered (suc i) leaves) stand.0 (omega (arith, less)) ∙ none_heavy p form t (suc i) leaves numbers stand.1 (omega (arith, less))

same_rest : (p : ℕ) (form : LeafForm) (t : ℕ) (x : Node) (xs ys : List Node) → heavy_entries p form t xs ≡ heavy_entries p form t ys → heavy_entries p form t (x ∷ xs) ≡ heavy_entries p form t (x ∷ ys)
same_rest p form t x xs ys same = ap (λ (es : List Entry). if int_le (pos t) (value_of p form x) then (let e : Entry = record { index = x.index; value = value_of p form x } in e) ∷ es else es) same

-- those under heavy nodes state what all leaves do
children_state : (p : ℕ) (form : LeafForm) (t m i : ℕ) (leaves : List Counted) (numbers : List ℤ) → LeavesStand p form leaves numbers → length leaves ≡ m + m
    → heavy_entries p form t (children t i leaves) ≡ heavy_entries p form t (numbered i leaves)
children_state p form t m i [] numbers stand even = refl
children_state p form t m i (l ∷ []) numbers stand even = absurd (omega (arith, even))
children_state p form t zero i (l ∷ h ∷ leaves) numbers stand even = absurd (omega (arith, even))
children_state p form t (suc m) i (l ∷ h ∷ leaves) [] stand even = absurd stand
children_state p form t (suc m) i (l ∷ h ∷ leaves) (a ∷ []) stand even = absurd stand.1
children_state p form t (suc m) i (l ∷ h ∷ leaves) (a ∷ b ∷ numbers) stand even =
    let next : suc i ≡ i + 1 = omega arith in
    let two : suc (i + 1) ≡ i + 2 = omega arith in
    let rest = children_state p form t m (i + 2) leaves numbers stand.1.1 (omega (arith, even)) in
    let behind = node_at (i + 1) h ∷ numbered (i + 2) leaves in
    elim (leb_tells t (nat_abs l.count + nat_abs h.count)) [
      | inl s ↦
          rw (s.0, next, two)
          (same_rest p form t (node_at i l) (node_at (i + 1) h ∷ children t (i + 2) leaves) behind (same_rest p form t (node_at (i + 1) h) (children t (i + 2) leaves) (numbered (i + 2) leaves) rest))
      | inr s ↦
          rw (s.0, next, two)
          (rest ∙ sym (light_leaf p form t i l a behind stand.0 (omega (arith, s.1)) ∙ light_leaf p form t (i + 1) h b (numbered (i + 2) leaves) stand.1.0 (omega (arith, s.1))))
    ]

-- ---- the top

-- one node is left, and it has the sum of all counts
pub top_is : (p n : ℕ) (challenges : List ℕ) (level : List Counted) → length level ≡ 2 ^ length challenges → AreCounts level → counts level ≡ n
    → (x : Counted) × (fold (up3 p) level challenges ≡ x ∷ []) × (nat_abs x.count ≡ n)
top_is p n [] [] size are sum = absurd (omega (arith, size))
top_is p n [] (x ∷ []) size are sum = (x, refl, omega (arith, sum))
top_is p n [] (x ∷ y ∷ level) size are sum = absurd (omega (arith, size))
top_is p n (r ∷ challenges) level size are sum =
    top_is p n challenges (up3 p level r) (above_long p r (length challenges) level size) (above_are p r level are) (above_counts p r (2 ^ length challenges) level are (half_size (length challenges) level size) ∙ sum)

pub none_known : (t : ℕ) (xs : List Node) → filter (λ x. not (is_sent t true x)) xs ≡ []
none_known t [] = refl
none_known t (x ∷ xs) = none_known t xs

pub top_passes : (q : HeavyQuestion) (root : ℕ) (x : Counted) (top : List Counted) → top ≡ x ∷ [] → nat_abs x.count ≡ q.total → x.hash ≡ root → q.at_least ≤ q.total
    → top_test q root (filter (is_heavy q.at_least) (numbered 0 top)) ≡ Ok tt
top_passes q root x top is sum same reached =
    let heavy : nat_lt (nat_abs x.count) q.at_least ≡ false = elim (ltb_tells (nat_abs x.count) q.at_least) [ inl u ↦ absurd (omega (arith, u.1, sum, reached)) | inr u ↦ u.0 ] in
    rw (is, heavy, eq-eqb (nat_abs x.count) q.total sum, eq-eqb x.hash root same) refl

verdict_by : (p : ℕ) (q : HeavyQuestion) (root : ℕ) (challenges : List ℕ) (replies : List (List Node)) (top : List Node) → known_after p q 0 [] challenges replies ≡ Ok top → top_test q root top ≡ Ok tt
    → verdict p q root challenges replies ≡ Ok (heavy_entries p q.form q.at_least (leaves_of replies))
unfolding verdict
verdict_by p q root challenges replies top known test = rw (known, test) refl

-- ---- the verdict

module _ (p : ℕ) (form : LeafForm) (depth t n : ℕ) (leaves : List Counted) (numbers : List ℤ) (can : AreCounted p form depth n leaves numbers) (some : 1 ≤ t) (reached : t ≤ n) where
  abbrev pub asked : HeavyQuestion
  asked = record { form = form; depth = depth; at_least = t; total = n }

  pub stated : heavy_entries p form t (children t 0 leaves) ≡ heavy_of t numbers
  stated = children_state p form t (2 ^ (depth - 1)) 0 leaves numbers can.stand (can.size ∙ two_halves depth can.levels) ∙ heavy_numbers p form t 0 leaves numbers can.stand

  pub lists_accepted : (challenges : List ℕ) → length challenges ≡ depth → verdict p asked (top_of p leaves challenges).hash challenges (honest_lists p (begun_over form leaves t) challenges) ≡ Ok (heavy_of t numbers)
  lists_accepted [] size = absurd (omega (arith, size, can.levels))
  lists_accepted (r ∷ challenges) size =
      let cs : List ℕ = r ∷ challenges in
      let are = are_counts p form leaves numbers can.stand in
      let long : length leaves ≡ 2 ^ suc (length challenges) = can.size ∙ ap (λ d. 2 ^ d) (sym size) in
      let climbed = rw (none_known t (children t 0 leaves)) at (climbs p asked r challenges 0 true leaves some reached refl (omega (arith, size)) are can.total long) in
      let top = top_is p n cs leaves long are can.total in
      let same : top.0.hash ≡ (top_of p leaves cs).hash = ap (λ (xs : List Counted). (get_or xs 0 (leaf p (pos 0))).hash) (sym top.1) in
      verdict_by p asked (top_of p leaves cs).hash cs (honest_lists p (begun_over form leaves t) cs) (filter (is_heavy t) (numbered 0 (fold (up3 p) leaves cs))) climbed
      (top_passes asked (top_of p leaves cs).hash top.0 (fold (up3 p) leaves cs) top.1 top.2 same reached)
      ∙ ap (λ es. Ok es) stated
