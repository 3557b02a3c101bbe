-- A message is made again of its kind, its mark and its numbers.
use Rattle.std.proofs.Common.{◌≡◌, ℕ, ◌+◌, Option, Some, None, List, [], ◌∷◌, ◌++◌, length, All, FitsSigned, refl, sym, ap, ◌∙◌}
use Rattle.std.specs.Int.{w64}
use Rattle.std.specs.List.{flat_map}
use Rattle.std.proofs.lemmas.Int.{to_z-of_z}
use Rattle.std.proofs.lemmas.List.Elements.{All-head, All-tail}
use Rattle.sip_vector.specs.declared.update.Side.{Side}
use Rattle.sip_vector.specs.declared.update.Side.TheVariants as sides
use Rattle.sip_vector.specs.declared.update.Update.{Update}
use Rattle.sip_vector.specs.declared.update.Entry.{Entry}
use Rattle.sip_vector.specs.declared.query.Query.{Query}
use Rattle.sip_vector.specs.declared.query.Query.TheVariants as queries
use Rattle.sip_wire.specs.declared.message.Leaf.{Leaf}
use Rattle.sip_wire.specs.declared.message.Node.{Node}
use Rattle.sip_wire.specs.declared.message.Mark.{Mark}
use Rattle.sip_wire.specs.declared.message.Message.{Message}
use Rattle.sip_wire.specs.declared.message.Message.TheVariants as messages
use Rattle.sip_wire.specs.declared.kind.Kind.{Kind}
use Rattle.sip_wire.specs.Spelling.{kind_of, mark_of, numbers, side_number, update_numbers, entry_numbers, leaf_numbers, node_numbers, mark_numbers, coefficient_numbers, query_code, query_numbers, flag, present}
use Rattle.sip_wire.specs.Values.{InRange, side_at, updates_from, entries_from, leaves_from, nodes_from, marks_from, query_from, siblings_from, message_from}

-- a side is that of its number
side_back : (s : Side) → side_at (side_number s) ≡ s
side_back sides.First = refl
side_back sides.Second = refl

-- updates are those of their numbers
updates_back : (us : List Update) → All (λ (u : Update). FitsSigned w64 u.delta) us → updates_from (length us) (flat_map update_numbers us) ≡ us
updates_back [] fit = refl
updates_back (u ∷ us) fit =
    rw (side_back u.side, to_z-of_z w64 u.delta (All-head (λ (v : Update). FitsSigned w64 v.delta) u us fit), updates_back us (All-tail (λ (v : Update). FitsSigned w64 v.delta) u us fit)) refl

-- leaves are those of their numbers
leaves_back : (ls : List Leaf) → leaves_from (length ls) (flat_map leaf_numbers ls) ≡ ls
leaves_back [] = refl
leaves_back (l ∷ ls) = rw (leaves_back ls) refl

-- nodes are those of their numbers
nodes_back : (ns : List Node) → nodes_from (length ns) (flat_map node_numbers ns) ≡ ns
nodes_back [] = refl
nodes_back (n ∷ ns) = rw (nodes_back ns) refl

-- coefficients are their numbers
pub coefficients_back : (cs : List ℕ) → flat_map coefficient_numbers cs ≡ cs
coefficients_back [] = refl
coefficients_back (c ∷ cs) = rw (coefficients_back cs) refl

-- entries are those of their numbers
entries_back : (es : List Entry) → All (λ (e : Entry). FitsSigned w64 e.value) es → entries_from (length es) (flat_map entry_numbers es) ≡ es
entries_back [] fit = refl
entries_back (e ∷ es) fit = rw (to_z-of_z w64 e.value (All-head (λ (v : Entry). FitsSigned w64 v.value) e es fit), entries_back es (All-tail (λ (v : Entry). FitsSigned w64 v.value) e es fit)) refl

-- marks are those of their numbers
marks_back : (ms : List Mark) → All (λ (m : Mark). FitsSigned w64 m.value) ms → marks_from (length ms) (flat_map mark_numbers ms) ≡ ms
marks_back [] fit = refl
marks_back (m ∷ ms) fit = rw (to_z-of_z w64 m.value (All-head (λ (v : Mark). FitsSigned w64 v.value) m ms fit), marks_back ms (All-tail (λ (v : Mark). FitsSigned w64 v.value) m ms fit)) refl

-- a query is that of its code and its numbers
query_back : (q : Query) → query_from (query_code q) (query_numbers q) ≡ q
query_back (queries.Sub lo hi) = refl
query_back (queries.Range side lo hi) = rw (side_back side) refl
query_back (queries.F2 side) = rw (side_back side) refl
query_back queries.Inner = refl
query_back (queries.Heavy side at_least) = rw (side_back side) refl
query_back (queries.Share side num den) = rw (side_back side) refl
query_back (queries.Above side at_least) = rw (side_back side) refl

-- siblings are those of their flags and what is present
siblings_back : (left right : Option ℕ) → siblings_from (flag left 1 + flag right 2) (present left ++ present right) ≡ messages.Siblings left right
siblings_back None None = refl
siblings_back (Some l) None = refl
siblings_back None (Some r) = refl
siblings_back (Some l) (Some r) = refl

-- a message is that of its kind, its mark and its numbers
pub message_back : (m : Message) → InRange m → message_from (kind_of m) (mark_of m) (numbers m) ≡ m
message_back (messages.Open version depth) fit = refl
message_back (messages.Updates v) fit = ap (λ (us : List Update). messages.Updates (record { items = us })) (updates_back v.items fit)
message_back messages.EndStream fit = refl
message_back (messages.Query q) fit = ap messages.Query (query_back q)
message_back (messages.Reveal challenge) fit = refl
message_back messages.Bye fit = refl
message_back (messages.Claim value) fit = ap messages.Claim (to_z-of_z w64 value fit)
message_back (messages.Poly c0 c1 c2) fit = refl
message_back (messages.Entries v) fit = ap (λ (es : List Entry). messages.Entries (record { items = es })) (entries_back v.items fit)
message_back (messages.Siblings left right) fit = siblings_back left right
message_back (messages.Leaves v) fit = ap (λ (ls : List Leaf). messages.Leaves (record { items = ls })) (leaves_back v.items)
message_back (messages.Nodes v) fit = ap (λ (ns : List Node). messages.Nodes (record { items = ns })) (nodes_back v.items)
message_back messages.LevelEnd fit = refl
message_back (messages.Refuse code) fit = refl
message_back (messages.AskLook code item) fit = refl
message_back (messages.Found flag index) fit = refl
message_back messages.End fit = refl
message_back (messages.AskMoment side degree) fit = refl
message_back (messages.Held held) fit = refl
message_back (messages.Recall count) fit = refl
message_back (messages.Marks v) fit = ap (λ (ms : List Mark). messages.Marks (record { items = ms })) (marks_back v.items fit)
message_back (messages.Power v) fit = ap (λ (cs : List ℕ). messages.Power (record { items = cs })) (coefficients_back v.items)

-- messages with the same kind, mark and numbers are the same
pub same_message : (m n : Message) → InRange m → InRange n → kind_of m ≡ kind_of n → mark_of m ≡ mark_of n → numbers m ≡ numbers n → m ≡ n
same_message m n fm fn k mark ns =
    sym (message_back m fm) ∙ ap (λ (x : Kind). message_from x (mark_of m) (numbers m)) k ∙ ap (λ (x : ℕ). message_from (kind_of n) x (numbers m)) mark
    ∙ ap (λ (x : List ℕ). message_from (kind_of n) (mark_of n) x) ns ∙ message_back n fn
