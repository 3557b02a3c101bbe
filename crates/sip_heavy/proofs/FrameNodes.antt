-- The leaves and nodes of a frame: there is one at least, and their counts and hashes are elements.
use Rattle.std.proofs.Common.{◌≡◌, ℕ, suc, ◌<◌, ◌≤◌, true, ◌&&◌, List, [], ◌∷◌, length, All, ap, sym, ◌∙◌, arith}
use Rattle.std.specs.Prelude.{nat_le}
use Rattle.std.specs.Int.{w64, cast_unsigned}
use Rattle.std.specs.List.{flat_map}
use Rattle.std.proofs.lemmas.Bool.{and_parts, ltb-true}
use Rattle.std.proofs.lemmas.Bool.Decides.{nat_tests}
use Rattle.std.proofs.lemmas.List.Concat.{flat_map-cons}
use Rattle.std.proofs.lemmas.List.Elements.{All-nil, All-cons}
use Rattle.arrayvec.specs.ArrayVec.{ArrayVec}
use Rattle.sip_field.specs.Moduli.{m61_modulus}
use Rattle.sip_wire.specs.declared.kind.Kind.TheVariants as kinds
use Rattle.sip_wire.specs.declared.message.Leaf.{Leaf}
use Rattle.sip_wire.specs.declared.message.Mark.{Mark}
use Rattle.sip_wire.specs.declared.message.Message.TheVariants as messages
use Rattle.sip_wire.specs.declared.message.Node.{Node}
use Rattle.sip_wire.specs.declared.version.Version.{Version}
use Rattle.sip_wire.specs.Table.{Shape, is_element, is_small, leaf_fields, mark_fields, node_fields, repeat, shape, stands_in}
use Rattle.sip_wire.specs.Spelling.{all_hold, fits, fits_shape, has_room, leaf_numbers, mark_numbers, node_numbers}

-- ---- the parts of a fit

fit_parts : (s : Shape) (mark : ℕ) (ns : List ℕ) → fits_shape s mark ns ≡ true → (s.is_mark mark ≡ true) × (all_hold (s.fields mark) ns ≡ true)
fit_parts s mark ns h =
    let a = and_parts (s.is_mark mark && has_room (s.fields mark) ns && s.in_order mark ns) (all_hold (s.fields mark) ns) h in
    let b = and_parts (s.is_mark mark && has_room (s.fields mark) ns) (s.in_order mark ns) a.0 in
    ((and_parts (s.is_mark mark) (has_room (s.fields mark) ns) b.0).0, a.1)

at_least_one : (n most : ℕ) → (nat_le 1 n && nat_le n most) ≡ true → 1 ≤ n
at_least_one n most e = grind (arith, nat_tests)

-- ---- leaves

first_leaf : (version : Version) (i n : ℕ) (ns : List ℕ) (k : ℕ) → all_hold (repeat (suc k) (leaf_fields version)) (i ∷ n ∷ ns) ≡ true → (is_element n ≡ true) × (all_hold (repeat k (leaf_fields version)) ns ≡ true)
unfolding all_hold
first_leaf version i n ns k h = and_parts (is_element n) (all_hold (repeat k (leaf_fields version)) ns) h

small_leaves : (version : Version) (ls : List Leaf) → all_hold (repeat (length ls) (leaf_fields version)) (flat_map leaf_numbers ls) ≡ true → All (λ l. l.count < m61_modulus) ls
small_leaves version [] h = All-nil (λ l. l.count < m61_modulus)
small_leaves version (l ∷ ls) h =
    let row = first_leaf version l.item l.count (flat_map leaf_numbers ls) (length ls) (sym (ap (all_hold (repeat (suc (length ls)) (leaf_fields version))) (flat_map-cons leaf_numbers l ls)) ∙ h) in
    All-cons (λ x. x.count < m61_modulus) l ls (ltb-true l.count m61_modulus row.0) (small_leaves version ls row.1)

pub leaves_spelled : (version : Version) (v : ArrayVec Leaf) → fits version (messages.Leaves v) ≡ true → (1 ≤ length v.items) × All (λ l. l.count < m61_modulus) v.items
unfolding fits
leaves_spelled version v h =
    let parts = fit_parts (shape version kinds.Leaves) (length v.items) (flat_map leaf_numbers v.items) h in
    (at_least_one (length v.items) 512 parts.0, small_leaves version v.items parts.1)

-- ---- nodes

first_node : (version : Version) (i hash n : ℕ) (ns : List ℕ) (k : ℕ) → all_hold (repeat (suc k) (node_fields version)) (i ∷ hash ∷ n ∷ ns) ≡ true
    → (is_element hash ≡ true) × ((is_element n ≡ true) × (all_hold (repeat k (node_fields version)) ns ≡ true))
unfolding all_hold
first_node version i hash n ns k h =
    let a = and_parts (is_element hash) (is_element n && all_hold (repeat k (node_fields version)) ns) h in
    (a.0, and_parts (is_element n) (all_hold (repeat k (node_fields version)) ns) a.1)

small_nodes : (version : Version) (xs : List Node) → all_hold (repeat (length xs) (node_fields version)) (flat_map node_numbers xs) ≡ true
    → All (λ x. x.count < m61_modulus) xs × All (λ x. x.hash < m61_modulus) xs
small_nodes version [] h = (All-nil (λ x. x.count < m61_modulus), All-nil (λ x. x.hash < m61_modulus))
small_nodes version (x ∷ xs) h =
    let row = first_node version x.index x.hash x.count (flat_map node_numbers xs) (length xs) (sym (ap (all_hold (repeat (suc (length xs)) (node_fields version))) (flat_map-cons node_numbers x xs)) ∙ h) in
    let rest = small_nodes version xs row.1.1 in
    (All-cons (λ y. y.count < m61_modulus) x xs (ltb-true x.count m61_modulus row.1.0) rest.0, All-cons (λ y. y.hash < m61_modulus) x xs (ltb-true x.hash m61_modulus row.0) rest.1)

pub nodes_spelled : (version : Version) (v : ArrayVec Node) → fits version (messages.Nodes v) ≡ true
    → (1 ≤ length v.items) × All (λ x. x.count < m61_modulus) v.items × All (λ x. x.hash < m61_modulus) v.items
unfolding fits
nodes_spelled version v h =
    let parts = fit_parts (shape version kinds.Nodes) (length v.items) (flat_map node_numbers v.items) h in
    let small = small_nodes version v.items parts.1 in
    (at_least_one (length v.items) 256 parts.0, small.0, small.1)

-- ---- marks

first_mark : (item value weight : ℕ) (ns : List ℕ) (k : ℕ) → all_hold (repeat (suc k) mark_fields) (item ∷ value ∷ weight ∷ ns) ≡ true → (is_element weight ≡ true) × (all_hold (repeat k mark_fields) ns ≡ true)
unfolding all_hold
first_mark item value weight ns k h =
    let a = and_parts (is_small value) (is_element weight && all_hold (repeat k mark_fields) ns) h in
    and_parts (is_element weight) (all_hold (repeat k mark_fields) ns) a.1

small_marks : (ms : List Mark) → all_hold (repeat (length ms) mark_fields) (flat_map mark_numbers ms) ≡ true → All (λ m. m.weight < m61_modulus) ms
small_marks [] h = All-nil (λ m. m.weight < m61_modulus)
small_marks (m ∷ ms) h =
    let row = first_mark m.item (cast_unsigned w64 m.value) m.weight (flat_map mark_numbers ms) (length ms) (sym (ap (all_hold (repeat (suc (length ms)) mark_fields)) (flat_map-cons mark_numbers m ms)) ∙ h) in
    All-cons (λ x. x.weight < m61_modulus) m ms (ltb-true m.weight m61_modulus row.0) (small_marks ms row.1)

pub marks_spelled : (version : Version) (v : ArrayVec Mark) → fits version (messages.Marks v) ≡ true → (1 ≤ length v.items) × All (λ m. m.weight < m61_modulus) v.items
unfolding fits
marks_spelled version v h =
    let parts = fit_parts (shape version kinds.Marks) (length v.items) (flat_map mark_numbers v.items) h in
    let counted = and_parts (stands_in kinds.Marks version) (nat_le 1 (length v.items) && nat_le (length v.items) 256) parts.0 in
    (at_least_one (length v.items) 256 counted.1, small_marks v.items parts.1)
