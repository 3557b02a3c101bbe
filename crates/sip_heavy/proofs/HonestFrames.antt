-- The frames of an honest helper have a spelling.
use Rattle.std.proofs.Common.{◌≡◌, ℕ, ◌+◌, ◌-◌, ◌/◌, ◌^◌, ◌<◌, ◌≤◌, Bool, true, ◌&&◌, ◌||◌, List, [], ◌∷◌, ◌++◌, length, map, All, ℤ, pos, negsuc, nat_abs, refl, sym, ap, subst, ◌∙◌, inl, inr, arith}
use Rattle.std.specs.Prelude.{IsTrue, FitsSigned, nat_lt, nat_le, ◌≤ℤ◌}
use Rattle.std.specs.Int.{w64, cast_unsigned}
use Rattle.std.specs.List.{flat_map}
use Rattle.std.proofs.Math.Nat.{mod-eq_of_lt, mod-lt, pow-le-pow_right}
use Rattle.std.proofs.lemmas.Bool.{and_from, cases_Bool, le-leb, lt-ltb}
use Rattle.std.proofs.lemmas.Bool.Decides.{nat_tests}
use Rattle.std.proofs.lemmas.List.Elements.{All-nil, All-cons, All-head, All-tail, All-append}
use Rattle.sip_field.specs.Moduli.{m61_modulus}
use Rattle.sip_field.specs.Residue.{residue}
use Rattle.sip_vector.specs.Trees.{Counted, leaf, up3}
use Rattle.sip_vector.proofs.TreeResidues.{residue_below}
use Rattle.sip_wire.specs.declared.kind.Kind.TheVariants as kinds
use Rattle.sip_wire.specs.declared.message.Leaf.{Leaf}
use Rattle.sip_wire.specs.declared.message.Mark.{Mark}
use Rattle.sip_wire.specs.declared.message.Message.TheVariants as messages
use Rattle.sip_wire.specs.declared.message.Node.{Node}
use Rattle.sip_wire.specs.declared.version.Version.{Version}
use Rattle.sip_wire.specs.declared.version.Version.TheVariants.{One, Two}
use Rattle.sip_wire.specs.Spelling.{fits, has_room, all_hold, leaf_numbers, mark_numbers, node_numbers}
use Rattle.sip_wire.specs.Table.{repeat, leaf_fields, mark_fields, most_claim, node_fields, stands_in, within_weights}
use Rattle.sip_wire.specs.Versions.{index_width, deepest}
use Rattle.sip_wire.proofs.Marks.{within_cons}
use Rattle.sip_wire.proofs.SmallNumbers.{bits_below, bits_small, element_room, in_range}
use Rattle.sip_heavy.specs.declared.form.LeafForm.{LeafForm}
use Rattle.sip_heavy.specs.declared.form.LeafForm.TheVariants as forms
use Rattle.sip_heavy.specs.AcceptsHeavy.{leaf_node, signed}
use Rattle.sip_heavy.specs.Honest.{node_at, shown, shown_from, leaf_of, mark_of}
use Rattle.sip_heavy.specs.Protocol.{leaf_nodes, mark_nodes}
use Rattle.sip_heavy.proofs.HeavyPairs.{counts}

-- the indices of a level that is not too deep have room in a frame
pub room_below : (version : Version) (depth : ℕ) → depth ≤ deepest version → 2 ^ depth ≤ 256 ^ index_width version
room_below One depth shallow =
    let powers : 2 ^ depth ≤ 2 ^ 32 = pow-le-pow_right {n = 2} (omega arith) shallow in
    omega arith
room_below Two depth shallow =
    let powers : 2 ^ depth ≤ 2 ^ 48 = pow-le-pow_right {n = 2} (omega arith) shallow in
    omega arith

-- ---- rows

-- a leaf that a frame of this version may have
pub record IsLeafRow (version : Version) (l : Leaf) : Type 0 where
  pub item : l.item < 256 ^ index_width version
  pub count : l.count < m61_modulus

-- a node that it may have
pub record IsNodeRow (version : Version) (x : Node) : Type 0 where
  pub index : x.index < 256 ^ index_width version
  pub hash : x.hash < m61_modulus
  pub count : x.count < m61_modulus

-- a mark that it may have
pub record IsMarkRow (version : Version) (m : Mark) : Type 0 where
  pub wide : version ≡ Two
  pub item : m.item < 256 ^ 8
  pub small : nat_abs m.value ≤ most_claim
  pub within : nat_abs m.value ≤ m.weight
  pub weight : m.weight < m61_modulus

-- ---- hashes

-- each hash is a residue
abbrev pub AreHashed : ℕ → List Counted → Type 0
AreHashed p [] = Unit {0}
AreHashed p (x ∷ xs) = (x.hash < p) × AreHashed p xs

pub above_hashed : (p r : ℕ) → 0 < p → (level : List Counted) → AreHashed p (up3 p level r)
above_hashed p r some [] = tt
above_hashed p r some (l ∷ []) = tt
above_hashed p r some (l ∷ h ∷ level) = (mod-lt _ some, above_hashed p r some level)

pub leaves_hashed : (p : ℕ) → 0 < p → (numbers : List ℤ) → AreHashed p (map (leaf p) numbers)
leaves_hashed p some [] = tt
leaves_hashed p some (a ∷ numbers) = (residue_below p a some, leaves_hashed p some numbers)

-- ---- frames

module _ (version : Version) where
  leaves_have_room : (ls : List Leaf) → All (IsLeafRow version) ls → has_room (repeat (length ls) (leaf_fields version)) (flat_map leaf_numbers ls) ≡ true
  unfolding has_room
  leaves_have_room [] h = refl
  leaves_have_room (l ∷ ls) h =
      let row = All-head (IsLeafRow version) l ls h in
      and_from _ _ (lt-ltb l.item (256 ^ index_width version) row.item) (and_from _ _ (element_room l.count row.count) (leaves_have_room ls (All-tail (IsLeafRow version) l ls h)))

  leaves_hold : (ls : List Leaf) → All (IsLeafRow version) ls → all_hold (repeat (length ls) (leaf_fields version)) (flat_map leaf_numbers ls) ≡ true
  unfolding all_hold
  leaves_hold [] h = refl
  leaves_hold (l ∷ ls) h =
      let row = All-head (IsLeafRow version) l ls h in
      and_from _ _ refl (and_from _ _ (lt-ltb l.count m61_modulus row.count) (leaves_hold ls (All-tail (IsLeafRow version) l ls h)))

  -- a frame of 1 to 512 leaves
  pub leaves_fit : (ls : List Leaf) → 0 < length ls → length ls ≤ 512 → All (IsLeafRow version) ls → IsTrue (fits version (messages.Leaves (record { items = ls })))
  unfolding fits
  leaves_fit ls some most rows =
      let count : (nat_le 1 (length ls) && nat_le (length ls) 512) ≡ true = grind (arith, nat_tests) in
      and_from _ _ (and_from _ _ (and_from _ _ count (leaves_have_room ls rows)) refl) (leaves_hold ls rows)

  nodes_have_room : (xs : List Node) → All (IsNodeRow version) xs → has_room (repeat (length xs) (node_fields version)) (flat_map node_numbers xs) ≡ true
  unfolding has_room
  nodes_have_room [] h = refl
  nodes_have_room (x ∷ xs) h =
      let row = All-head (IsNodeRow version) x xs h in
      and_from _ _ (lt-ltb x.index (256 ^ index_width version) row.index)
      (and_from _ _ (element_room x.hash row.hash) (and_from _ _ (element_room x.count row.count) (nodes_have_room xs (All-tail (IsNodeRow version) x xs h))))

  nodes_hold : (xs : List Node) → All (IsNodeRow version) xs → all_hold (repeat (length xs) (node_fields version)) (flat_map node_numbers xs) ≡ true
  unfolding all_hold
  nodes_hold [] h = refl
  nodes_hold (x ∷ xs) h =
      let row = All-head (IsNodeRow version) x xs h in
      and_from _ _ refl (and_from _ _ (lt-ltb x.hash m61_modulus row.hash) (and_from _ _ (lt-ltb x.count m61_modulus row.count) (nodes_hold xs (All-tail (IsNodeRow version) x xs h))))

  -- a frame of 1 to 256 nodes
  pub nodes_fit : (xs : List Node) → 0 < length xs → length xs ≤ 256 → All (IsNodeRow version) xs → IsTrue (fits version (messages.Nodes (record { items = xs })))
  unfolding fits
  nodes_fit xs some most rows =
      let count : (nat_le 1 (length xs) && nat_le (length xs) 256) ≡ true = grind (arith, nat_tests) in
      and_from _ _ (and_from _ _ (and_from _ _ count (nodes_have_room xs rows)) refl) (nodes_hold xs rows)

  marks_have_room : (ms : List Mark) → All (IsMarkRow version) ms → has_room (repeat (length ms) mark_fields) (flat_map mark_numbers ms) ≡ true
  unfolding has_room
  marks_have_room [] h = refl
  marks_have_room (m ∷ ms) h =
      let row = All-head (IsMarkRow version) m ms h in
      and_from _ _ (lt-ltb m.item (256 ^ 8) row.item)
      (and_from _ _ (lt-ltb (cast_unsigned w64 m.value) (256 ^ 8) (bits_below m.value row.small)) (and_from _ _ (element_room m.weight row.weight) (marks_have_room ms (All-tail (IsMarkRow version) m ms h))))

  marks_hold : (ms : List Mark) → All (IsMarkRow version) ms → all_hold (repeat (length ms) mark_fields) (flat_map mark_numbers ms) ≡ true
  unfolding all_hold
  marks_hold [] h = refl
  marks_hold (m ∷ ms) h =
      let row = All-head (IsMarkRow version) m ms h in
      and_from _ _ refl (and_from _ _ (bits_small m.value row.small) (and_from _ _ (lt-ltb m.weight m61_modulus row.weight) (marks_hold ms (All-tail (IsMarkRow version) m ms h))))

  marks_within : (ms : List Mark) → All (IsMarkRow version) ms → within_weights (flat_map mark_numbers ms) ≡ true
  marks_within [] h = refl
  marks_within (m ∷ ms) h =
      let row = All-head (IsMarkRow version) m ms h in
      within_cons m ms (in_range m.value row.small) ∙ and_from _ _ (le-leb (nat_abs m.value) m.weight row.within) (marks_within ms (All-tail (IsMarkRow version) m ms h))

  stand_in : (ms : List Mark) → 0 < length ms → All (IsMarkRow version) ms → stands_in kinds.Marks version ≡ true
  stand_in [] some h = absurd (omega (arith, some))
  stand_in (m ∷ ms) some h = let row = All-head (IsMarkRow version) m ms h in rw row.wide refl

  -- a frame of 1 to 256 marks
  pub marks_fit : (ms : List Mark) → 0 < length ms → length ms ≤ 256 → All (IsMarkRow version) ms → IsTrue (fits version (messages.Marks (record { items = ms })))
  unfolding fits
  marks_fit ms some most rows =
      let count : (nat_le 1 (length ms) && nat_le (length ms) 256) ≡ true = grind (arith, nat_tests) in
      and_from _ _ (and_from _ _ (and_from _ _ (and_from _ _ (stand_in ms some rows) count) (marks_have_room ms rows)) (marks_within ms rows)) (marks_hold ms rows)

  -- their values are numbers of 64 bits
  pub marks_range : (ms : List Mark) → All (IsMarkRow version) ms → All (λ (m : Mark). FitsSigned w64 m.value) ms
  marks_range [] h = All-nil (λ (m : Mark). FitsSigned w64 m.value)
  marks_range (m ∷ ms) h =
      All-cons (λ (x : Mark). FitsSigned w64 x.value) m ms (in_range m.value (All-head (IsMarkRow version) m ms h).small) (marks_range ms (All-tail (IsMarkRow version) m ms h))

  -- the end of a level
  pub end_fits : IsTrue (fits version messages.LevelEnd)
  unfolding fits has_room all_hold
  end_fits = refl

  -- ---- what is shown

  module _ (t : ℕ) (is_leaf : Bool) (p n : ℕ) (elements : p ≤ m61_modulus) (light : n < m61_modulus) where
    one_row : (x : Node) → IsNodeRow version x → All (IsNodeRow version) (shown t is_leaf x)
    one_row x row = elim (cases_Bool (is_leaf || nat_lt x.count t)) [
      | inl s ↦ rw s (All-cons (IsNodeRow version) x [] row (All-nil (IsNodeRow version)))
      | inr s ↦ rw s (All-nil (IsNodeRow version))
    ]

    -- each node that is shown may stand in a frame
    pub shown_rows : (i : ℕ) (level : List Counted) → i + length level ≤ 256 ^ index_width version → AreHashed p level → counts level ≤ n → All (IsNodeRow version) (shown_from t is_leaf i level)
    shown_rows i [] within hashed sum = All-nil (IsNodeRow version)
    shown_rows i (l ∷ []) within hashed sum = All-nil (IsNodeRow version)
    shown_rows i (l ∷ h ∷ level) within hashed sum =
        let left : IsNodeRow version (node_at i l) = record { index = omega (arith, within); hash = omega (arith, hashed.0, elements); count = omega (arith, sum, light) } in
        let right : IsNodeRow version (node_at (i + 1) h) = record { index = omega (arith, within); hash = omega (arith, hashed.1.0, elements); count = omega (arith, sum, light) } in
        let rest = shown_rows (i + 2) level (omega (arith, within)) hashed.1.1 (omega (arith, sum)) in
        elim (cases_Bool (nat_le t (nat_abs l.count + nat_abs h.count))) [
          | inl s ↦
              rw s (All-append (IsNodeRow version) (shown t is_leaf (node_at i l) ++ shown t is_leaf (node_at (i + 1) h)) (shown_from t is_leaf (i + 2) level)
              (All-append (IsNodeRow version) (shown t is_leaf (node_at i l)) (shown t is_leaf (node_at (i + 1) h)) (one_row (node_at i l) left) (one_row (node_at (i + 1) h) right)) rest)
          | inr s ↦ rw s rest
        ]

  -- leaves are rows where they are as nodes
  pub leaf_rows : (xs : List Node) → All (IsNodeRow version) xs → All (IsLeafRow version) (map leaf_of xs)
  leaf_rows [] rows = All-nil (IsLeafRow version)
  leaf_rows (x ∷ xs) rows =
      let row = All-head (IsNodeRow version) x xs rows in
      let its : IsLeafRow version (leaf_of x) = record { item = row.index; count = row.count } in
      All-cons (IsLeafRow version) (leaf_of x) (map leaf_of xs) its (leaf_rows xs (All-tail (IsNodeRow version) x xs rows))

-- ---- leaves as nodes

-- each hash is the count
abbrev pub AreLeaves : List Counted → Type 0
AreLeaves [] = Unit {0}
AreLeaves (x ∷ xs) = (x.hash ≡ nat_abs x.count) × AreLeaves xs

leaf_hash : (p : ℕ) (a : ℤ) → pos 0 ≤ℤ a → nat_abs a < p → residue p a ≡ nat_abs a
leaf_hash p (pos n) some less = mod-eq_of_lt less
leaf_hash p (negsuc n) some less = absurd some.le

pub leaves_are_leaves : (p : ℕ) (numbers : List ℤ) → All (λ a. pos 0 ≤ℤ a) numbers → counts (map (leaf p) numbers) < p → AreLeaves (map (leaf p) numbers)
leaves_are_leaves p [] strict less = tt
leaves_are_leaves p (a ∷ numbers) strict less =
    (leaf_hash p a (All-head (λ b. pos 0 ≤ℤ b) a numbers strict) (omega (arith, less)), leaves_are_leaves p numbers (All-tail (λ b. pos 0 ≤ℤ b) a numbers strict) (omega (arith, less)))

back : (i : ℕ) (x : Counted) → x.hash ≡ nat_abs x.count → leaf_node i (nat_abs x.count) ≡ node_at i x
back i x is = ap (λ (h : ℕ). let y : Node = record { index = i; hash = h; count = nat_abs x.count } in y) (sym is)

-- what the wire leaves out of a leaf comes back
pub leaves_back : (t i : ℕ) (level : List Counted) → AreLeaves level → leaf_nodes (map leaf_of (shown_from t true i level)) ≡ shown_from t true i level
leaves_back t i [] are = refl
leaves_back t i (l ∷ []) are = refl
leaves_back t i (l ∷ h ∷ level) are =
    let rest = leaves_back t (i + 2) level are.1.1 in
    elim (cases_Bool (nat_le t (nat_abs l.count + nat_abs h.count))) [
      | inl s ↦ rw (s, back i l are.0, back (i + 1) h are.1.0) (ap (λ xs. node_at i l ∷ node_at (i + 1) h ∷ xs) rest)
      | inr s ↦ rw s rest
    ]

-- ---- marks as nodes

-- a hash is the residue of the number of least size, which is within the weight
pub record IsMarked (p hash weight : ℕ) : Type 0 where
  pub back : residue p (signed p hash) ≡ hash
  pub within : nat_abs (signed p hash) ≤ weight
  pub small : nat_abs (signed p hash) ≤ (p - 1) / 2

abbrev pub AreMarks : ℕ → List Counted → Type 0
AreMarks p [] = Unit {0}
AreMarks p (x ∷ xs) = IsMarked p x.hash (nat_abs x.count) × AreMarks p xs

abbrev pub AreMarkNodes : ℕ → List Node → Type 0
AreMarkNodes p xs = All (λ x. IsMarked p x.hash x.count) xs

pub marks_shown : (p t i : ℕ) (level : List Counted) → AreMarks p level → AreMarkNodes p (shown_from t true i level)
marks_shown p t i [] are = All-nil (λ x. IsMarked p x.hash x.count)
marks_shown p t i (l ∷ []) are = All-nil (λ x. IsMarked p x.hash x.count)
marks_shown p t i (l ∷ h ∷ level) are =
    let rest = marks_shown p t (i + 2) level are.1.1 in
    elim (cases_Bool (nat_le t (nat_abs l.count + nat_abs h.count))) [
      | inl s ↦
          rw s
          (All-cons (λ x. IsMarked p x.hash x.count) (node_at i l) (node_at (i + 1) h ∷ shown_from t true (i + 2) level) are.0
          (All-cons (λ x. IsMarked p x.hash x.count) (node_at (i + 1) h) (shown_from t true (i + 2) level) are.1.0 rest))
      | inr s ↦ rw s rest
    ]

-- what the wire says of a mark is its hash
pub marks_back : (p : ℕ) (xs : List Node) → AreMarkNodes p xs → mark_nodes p (map (mark_of p) xs) ≡ xs
marks_back p [] are = refl
marks_back p (x ∷ xs) are =
    let is = All-head (λ y. IsMarked p y.hash y.count) x xs are in
    ap (λ (h : ℕ). (let y : Node = record { index = x.index; hash = h; count = x.count } in y) ∷ mark_nodes p (map (mark_of p) xs)) is.back
    ∙ ap (λ ys. x ∷ ys) (marks_back p xs (All-tail (λ y. IsMarked p y.hash y.count) x xs are))

-- marks are rows where they are as nodes
pub mark_rows : (version : Version) → version ≡ Two → (p : ℕ) → p ≤ m61_modulus → (xs : List Node) → All (IsNodeRow version) xs → AreMarkNodes p xs → All (IsMarkRow version) (map (mark_of p) xs)
mark_rows version wide p elements [] rows are = All-nil (IsMarkRow version)
mark_rows version wide p elements (x ∷ xs) rows are =
    let row = All-head (IsNodeRow version) x xs rows in
    let is = All-head (λ y. IsMarked p y.hash y.count) x xs are in
    let index : x.index < 256 ^ index_width Two = subst (λ v. x.index < 256 ^ index_width v) wide row.index in
    let half : (p - 1) / 2 ≤ most_claim = omega (arith, elements) in
    let its : IsMarkRow version (mark_of p x) = record { wide = wide; item = omega (arith, index); small = omega (arith, is.small, half); within = is.within; weight = row.count } in
    All-cons (IsMarkRow version) (mark_of p x) (map (mark_of p) xs) its (mark_rows version wide p elements xs (All-tail (IsNodeRow version) x xs rows) (All-tail (λ y. IsMarked p y.hash y.count) x xs are))

-- ---- what may be shown of leaves

-- what the wire says of leaves is what they are; marks stand in version 2 alone
abbrev pub AreShown : Version → ℕ → LeafForm → List Counted → Type 0
AreShown version p forms.Count leaves = AreLeaves leaves
AreShown version p forms.Mark leaves = (version ≡ Two) × AreMarks p leaves
