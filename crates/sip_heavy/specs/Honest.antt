-- What an honest helper knows and shows of the heavy entries of a vector.
--
-- Reply 0 has the leaves, or the marks, that are both children of a node with a count of at least
-- T; the count of a mark is its weight. Each later
-- reply has the children, with a count below T, of the nodes with a count of at least T of the
-- level above, which the next challenge gives. A child with a count of at least T is not shown
-- there: the reply before says what it is.
use Rattle.std.specs.Prelude.{◌≡◌, ℕ, ◌+◌, ◌^◌, ◌<◌, ◌≤◌, Bool, true, false, ◌||◌, nat_lt, nat_le}
use Rattle.std.specs.Prelude.{ℤ, pos, ◌≤ℤ◌, int_le, nat_abs, List, [], ◌∷◌, ◌++◌, All, length, map}
use Rattle.std.specs.Prelude.{filter, fold, take, if◌then◌else◌}
use Rattle.std.specs.List.{range_with_len, flat_map}
use Rattle.sip_field.specs.Moduli.{m61_modulus}
use Rattle.sip_vector.specs.declared.update.Entry.{Entry}
use Rattle.sip_vector.specs.Answers.{entries}
use Rattle.sip_vector.specs.Pieces.{cut}
use Rattle.sip_vector.specs.Streams.{int_sum}
use Rattle.sip_vector.specs.Trees.{Counted, leaf, up3}
use Rattle.sip_wire.specs.declared.message.Leaf.{Leaf}
use Rattle.sip_wire.specs.declared.message.Mark.{Mark}
use Rattle.sip_wire.specs.declared.message.Message.{Message}
use Rattle.sip_wire.specs.declared.message.Message.TheVariants as messages
use Rattle.sip_wire.specs.declared.message.Node.{Node}
use Rattle.sip_wire.specs.declared.version.Version.{Version}
use Rattle.sip_wire.specs.Spelling.{spelling}
use Rattle.sip_wire.specs.Table.{most_rows, most_nodes}
use Rattle.sip_wire.specs.Versions.{deepest}
use Rattle.sip_heavy.specs.declared.form.LeafForm.{LeafForm}
use Rattle.sip_heavy.specs.declared.form.LeafForm.TheVariants as forms
use Rattle.sip_heavy.specs.declared.prover.HeavyNode.{HeavyNode}
use Rattle.sip_heavy.specs.AcceptsHeavy.{signed}

-- ---- what is shown of a level

abbrev pub node_at : ℕ → Counted → Node
node_at i x = record { index = i; hash = x.hash; count = nat_abs x.count }

-- a child of a heavy node is shown, but above the leaves only where it is light
abbrev pub shown : ℕ → Bool → Node → List Node
shown t is_leaf x = if is_leaf || nat_lt x.count t then x ∷ [] else []

-- both children of one node, where it is heavy
abbrev pub shown_pair : ℕ → Bool → Node → Node → List Node
shown_pair t is_leaf l h =
    if nat_le t (l.count + h.count) then shown t is_leaf l ++ shown t is_leaf h else []

-- what is shown of a level whose first node has this index
abbrev pub shown_from : ℕ → Bool → ℕ → List Counted → List Node
shown_from t is_leaf i (l ∷ h ∷ level) =
    shown_pair t is_leaf (node_at i l) (node_at (i + 1) h) ++ shown_from t is_leaf (i + 2) level
shown_from t is_leaf i (l ∷ []) = []
shown_from t is_leaf i [] = []

-- ---- levels

-- a level of the tree, what its leaves have, whether it is the lowest, and the least count of a
-- heavy node
pub record Proving : Type 0 where
  pub form : LeafForm
  pub at_least : ℕ
  pub is_leaf : Bool
  pub level : List Counted

-- at the leaves
abbrev pub begun_over : LeafForm → List Counted → ℕ → Proving
begun_over form leaves t =
    record { form = form; at_least = t; is_leaf = true; level = leaves }

-- over a vector's numbers
abbrev pub begun : ℕ → List ℤ → ℕ → Proving
begun p numbers t = begun_over forms.Count (map (leaf p) numbers) t

-- the level above
abbrev pub learnt : ℕ → Proving → ℕ → Proving
learnt p s r = record s { is_leaf = false; level = up3 p s.level r }

-- no challenge is revealed
abbrev pub is_first : List ℕ → Bool
is_first [] = true
is_first (r ∷ prefix) = false

-- the level that these challenges lead to from the leaves
abbrev pub proving_over : ℕ → LeafForm → List Counted → ℕ → List ℕ → Proving
proving_over p form leaves t prefix = record {
  form = form;
  at_least = t;
  is_leaf = is_first prefix;
  level = fold (up3 p) leaves prefix;
}

-- over a vector's numbers
abbrev pub proving : ℕ → List ℤ → ℕ → List ℕ → Proving
proving p numbers t prefix = proving_over p forms.Count (map (leaf p) numbers) t prefix

-- what is shown of a prover's level
abbrev pub its_nodes : Proving → List Node
its_nodes s = shown_from s.at_least s.is_leaf 0 s.level

-- a node as the wire has it, where `number` gives the residue of a value
abbrev pub node_of : {F : Type 0} → (F → ℕ) → HeavyNode F → Node
node_of number x = record { index = x.index; hash = number x.hash; count = x.count }

-- ---- replies

-- a leaf's hash is its count, so that the wire leaves it out
abbrev pub leaf_of : Node → Leaf
leaf_of x = record { item = x.index; count = x.count }

-- the value of a mark is the number of least size with its hash as the residue
abbrev pub mark_of : ℕ → Node → Mark
mark_of p x = record { item = x.index; value = signed p x.hash; weight = x.count }

-- leaves by 512, the last frame the rest
abbrev pub leaf_frames : List Node → List Message
leaf_frames nodes =
    map (λ piece. messages.Leaves (record { items = piece })) (cut most_rows (map leaf_of nodes))

-- marks by 256, the last frame the rest
abbrev pub mark_frames : ℕ → List Node → List Message
mark_frames p nodes =
    map (λ piece. messages.Marks (record { items = piece }))
    (cut most_nodes (map (mark_of p) nodes))

-- by what leaves have
abbrev pub lowest_frames : ℕ → LeafForm → List Node → List Message
lowest_frames p forms.Count nodes = leaf_frames nodes
lowest_frames p forms.Mark nodes = mark_frames p nodes

-- nodes by 256, the last frame the rest
abbrev pub node_frames : List Node → List Message
node_frames nodes = map (λ piece. messages.Nodes (record { items = piece })) (cut most_nodes nodes)

-- the frames before the end of the level
abbrev pub opening_frames : ℕ → Proving → List Message
opening_frames p s =
    if s.is_leaf then lowest_frames p s.form (its_nodes s) else node_frames (its_nodes s)

-- the messages that are due of leaves once these challenges are revealed
abbrev pub messages_over : ℕ → LeafForm → List Counted → ℕ → List ℕ → List Message
messages_over p form leaves t prefix =
    opening_frames p (proving_over p form leaves t prefix) ++ messages.LevelEnd ∷ []

-- of a vector's numbers
unfoldable pub honest_messages : ℕ → List ℤ → ℕ → List ℕ → List Message
honest_messages p numbers t prefix =
    messages_over p forms.Count (map (leaf p) numbers) t prefix

-- their bytes
abbrev pub reply_over : Version → ℕ → LeafForm → List Counted → ℕ → List ℕ → List ℕ
reply_over version p form leaves t prefix =
    flat_map (spelling version) (messages_over p form leaves t prefix)

abbrev pub honest_reply : Version → ℕ → List ℤ → ℕ → List ℕ → List ℕ
honest_reply version p numbers t prefix =
    flat_map (spelling version) (honest_messages p numbers t prefix)

-- all replies: reply j is the one due once the first j challenges are revealed
abbrev pub replies_over : Version → ℕ → LeafForm → List Counted → ℕ → List ℕ → List (List ℕ)
replies_over version p form leaves t challenges =
    map (λ j. reply_over version p form leaves t (take j challenges))
    (range_with_len 0 (length challenges))

abbrev pub honest_replies : Version → ℕ → List ℤ → ℕ → List ℕ → List (List ℕ)
honest_replies version p numbers t challenges =
    map (λ j. honest_reply version p numbers t (take j challenges))
    (range_with_len 0 (length challenges))

-- the nodes of the replies that follow, by level, for these challenges
abbrev pub honest_lists : ℕ → Proving → List ℕ → List (List Node)
honest_lists p s [] = []
honest_lists p s (r ∷ challenges) = its_nodes s ∷ honest_lists p (learnt p s r) challenges

-- the entries of at least t
abbrev pub heavy_of : ℕ → List ℤ → List Entry
heavy_of t numbers = filter (λ e. int_le (pos t) e.value) (entries numbers)

-- The entries of a vector can be counted: none is negative, and their sum, which is n, is itself a
-- residue.
pub record CanBeCounted (p depth n : ℕ) (numbers : List ℤ) : Type 0 where
  pub modulus : 0 < p
  pub levels : 1 ≤ depth
  pub size : length numbers ≡ 2 ^ depth
  pub strict : All (λ a. pos 0 ≤ℤ a) numbers
  pub total : int_sum numbers ≡ pos n
  pub light : n < p

-- The nodes over them can be sent: the version has items of the vector's depth, and messages have
-- room for the field.
pub record CanBeSent (version : Version) (p depth n : ℕ) (numbers : List ℤ) : Type 0 where
  pub counted : CanBeCounted p depth n numbers
  pub elements : p ≤ m61_modulus
  pub shallow : depth ≤ deepest version
