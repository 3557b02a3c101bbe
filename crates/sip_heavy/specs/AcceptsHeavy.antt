-- The check of heavy hitters over lists of nodes by level: what is known of a level is merged with
-- what was received of it, and each pair of siblings becomes a known node of the level above.
use Rattle.std.specs.Prelude.{ℕ, ◌+◌, ◌-◌, ◌*◌, ◌/◌, ◌%◌, ◌^◌, ◌==◌, Bool, true, false, not, ◌&&◌}
use Rattle.std.specs.Prelude.{◌||◌, nat_lt, nat_le, ℤ, pos, ◌-ℤ◌, int_le, nat_abs, List, [], ◌∷◌}
use Rattle.std.specs.Prelude.{◌++◌, length}
use Rattle.std.specs.Prelude.{Result, Ok, Err, is_ok, if◌then◌else◌}
use Rattle.std.specs.List.{list_all, list_any}
use Rattle.sip_vector.specs.Steps.{◌>>=◌, needs}
use Rattle.sip_vector.specs.Trees.{Counted, parent}
use Rattle.sip_vector.specs.declared.update.Entry.{Entry}
use Rattle.sip_wire.specs.declared.message.Node.{Node}
use Rattle.sip_wire.specs.declared.message.Reason.{Reason}
use Rattle.sip_wire.specs.declared.message.Reason.TheVariants as reasons
use Rattle.sip_replies.specs.Replies.{Fault, in_round}
use Rattle.sip_heavy.specs.declared.form.LeafForm.{LeafForm}
use Rattle.sip_heavy.specs.declared.form.LeafForm.TheVariants as forms

-- ---- a query

-- what leaves have, the depth, the threshold T, and the sum n of all counts
pub record HeavyQuestion : Type 0 where
  pub form : LeafForm
  pub depth : ℕ
  pub at_least : ℕ
  pub total : ℕ

-- the query for the entries of at least t, by leaves whose counts have this sum
abbrev pub asking : LeafForm → ℕ → ℕ → ℕ → HeavyQuestion
asking form depth t total =
    record { form = form; depth = depth; at_least = t; total = total }

-- the greatest number of nodes of a level, 2 * floor(n / T)
abbrev pub most_nodes : HeavyQuestion → ℕ
most_nodes q = 2 * (q.total / q.at_least)

-- the number of nodes of a level
abbrev pub width : HeavyQuestion → ℕ → ℕ
width q level = 2 ^ (q.depth - level)

-- ---- a level

-- the nodes that come before the first one that is not below an index, and the others
abbrev pub nodes_below : ℕ → List Node → List Node
nodes_below i [] = []
nodes_below i (k ∷ ks) = if nat_lt k.index i then k ∷ nodes_below i ks else []

abbrev pub nodes_from : ℕ → List Node → List Node
nodes_from i [] = []
nodes_from i (k ∷ ks) = if nat_lt k.index i then nodes_from i ks else (k ∷ ks)

-- two rising lists as one
abbrev pub merged : List Node → List Node → List Node
merged known [] = known
merged known (x ∷ received) =
    nodes_below x.index known ++ x ∷ merged (nodes_from x.index known) received

-- the list is made of pairs of siblings, the left one at an even index
abbrev pub are_pairs : List Node → Bool
are_pairs [] = true
are_pairs (l ∷ []) = false
are_pairs (l ∷ h ∷ more) =
    (l.index % 2 == 0) && (h.index == l.index + 1) && are_pairs more

-- the counts of the pairs
abbrev pub pair_counts : List Node → List ℕ
pair_counts [] = []
pair_counts (l ∷ []) = []
pair_counts (l ∷ h ∷ more) = (l.count + h.count) ∷ pair_counts more

-- a leaf as a node: its hash is its count
abbrev pub leaf_node : ℕ → ℕ → Node
leaf_node item count = record { index = item; hash = count; count = count }

-- a node's hash and count, as a pair of AugmentedTree
abbrev pub counted : Node → Counted
counted x = record { hash = x.hash; count = pos x.count }

-- the node above a pair
abbrev pub joined : ℕ → ℕ → Node → Node → Node
joined p r l h =
    let above = parent p (counted l) (counted h) r in
    record { index = l.index / 2; hash = above.hash; count = nat_abs above.count }

-- the nodes above all pairs
abbrev pub nodes_above : ℕ → ℕ → List Node → List Node
nodes_above p r [] = []
nodes_above p r (l ∷ []) = []
nodes_above p r (l ∷ h ∷ more) = joined p r l h ∷ nodes_above p r more

-- ---- the tests

-- an index is above all received before it, in the level, and not known
abbrev pub is_next : HeavyQuestion → ℕ → List Node → List Node → ℕ → Bool
is_next q level known before i =
    list_all (λ b. nat_lt b.index i) before && nat_lt i (width q level)
    && not (list_any (λ k. k.index == i) known)

-- the nodes received so far and these, or the first fault among these
abbrev pub with_nodes : HeavyQuestion → ℕ → List Node → List Node → List Node
    → Result (List Node) Reason
with_nodes q level known before [] = Ok before
with_nodes q level known before (x ∷ xs) = do
  _ ← needs (is_next q level known before x.index) reasons.BadOrder
  _ ← needs (nat_lt (length known + length before) (most_nodes q)) reasons.TooMany
  _ ← needs (level == 0 || nat_lt x.count q.at_least) reasons.HeavySibling
  with_nodes q level known (before ++ x ∷ []) xs

-- the list has no node
abbrev pub is_empty : List Node → Bool
is_empty [] = true
is_empty (x ∷ xs) = false

-- the tests of a level's nodes at its end
abbrev pub end_test : HeavyQuestion → ℕ → List Node → Result (Unit {0}) Reason
end_test q level nodes = do
  _ ← needs (are_pairs nodes && (nat_lt (level + 1) q.depth || not (is_empty nodes)))
      reasons.Pairs
  _ ← needs (list_all (nat_le q.at_least) (pair_counts nodes)) reasons.LightParent
  needs (list_all (λ c. nat_le c q.total) (pair_counts nodes)) reasons.Total

-- a level's reply: the nodes of the level, all its tests passed
abbrev pub level_nodes : HeavyQuestion → ℕ → List Node → List Node → Result (List Node) Reason
level_nodes q level known received = do
  all ← with_nodes q level known [] received
  _ ← end_test q level (merged known all)
  Ok (merged known all)

-- ---- all replies

-- the known nodes after these replies, from a level on whose known nodes are these
unfoldable pub known_after : ℕ → HeavyQuestion → ℕ → List Node → List ℕ → List (List Node)
    → Result (List Node) Fault
known_after p q level known challenges [] = Ok known
known_after p q level known [] (received ∷ more) = Ok known
known_after p q level known (r ∷ challenges) (received ∷ more) = do
  nodes ← in_round level (level_nodes q level known received)
  known_after p q (level + 1) (nodes_above p r nodes) challenges more

-- the one node of the top has the total's count and the root's hash
abbrev pub top_test : HeavyQuestion → ℕ → List Node → Result (Unit {0}) Reason
top_test q root [] = Err reasons.Pairs
top_test q root (x ∷ more) = do
  _ ← needs (x.count == q.total) reasons.Total
  needs (x.hash == root) reasons.Root

-- the number of least size that has this residue
abbrev pub signed : ℕ → ℕ → ℤ
signed p h = if nat_le (h % p) ((p - 1) / 2) then pos (h % p) else pos (h % p) -ℤ pos p

-- the entry that a leaf stands for: a count is one, and of a mark the hash is its residue
abbrev pub value_of : ℕ → LeafForm → Node → ℤ
value_of p forms.Count x = pos x.count
value_of p forms.Mark x = signed p x.hash

-- the leaves whose entry is at least this, as entries
abbrev pub heavy_entries : ℕ → LeafForm → ℕ → List Node → List Entry
heavy_entries p form t [] = []
heavy_entries p form t (x ∷ xs) =
    if int_le (pos t) (value_of p form x)
    then record { index = x.index; value = value_of p form x } ∷ heavy_entries p form t xs
    else heavy_entries p form t xs

-- what reply 0 states
abbrev pub leaves_of : List (List Node) → List Node
leaves_of [] = []
leaves_of (leaves ∷ more) = leaves

-- what all replies say, or their first fault
unfoldable pub verdict : ℕ → HeavyQuestion → ℕ → List ℕ → List (List Node)
    → Result (List Entry) Fault
verdict p q root challenges replies = do
  top ← known_after p q 0 [] challenges replies
  _ ← in_round q.depth (top_test q root top)
  Ok (heavy_entries p q.form q.at_least (leaves_of replies))

-- there is a reply for each challenge, and no fault
abbrev pub accepts : ℕ → HeavyQuestion → ℕ → List ℕ → List (List Node) → Bool
accepts p q root challenges replies =
    (length replies == length challenges) && is_ok (verdict p q root challenges replies)
