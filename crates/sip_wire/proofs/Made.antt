-- A message that is made of a kind, a mark and numbers that fit has that kind, that mark and those
-- numbers.
use Rattle.std.proofs.Common.{◌≡◌, ◌==◌, ap, ℕ, zero, suc, ◌-◌, ◌<◌, ◌≤◌, ◌^◌, true, ◌&&◌, nat_lt, nat_le, List, [], ◌∷◌, ◌++◌, length, length-append, subst, All, FitsSigned, refl, sym, ◌∙◌, arith}
use Rattle.std.specs.Int.{w64, cast_signed, cast_unsigned}
use Rattle.std.specs.List.{flat_map}
use Rattle.std.proofs.lemmas.Int.{ints, of_z-to_z}
use Rattle.std.proofs.lemmas.Bool.{and_parts, ltb-true, eqb-true}
use Rattle.std.proofs.lemmas.Bool.Decides.{nat_tests}
use Rattle.std.proofs.lemmas.List.Elements.{All-cons, All-nil}
use Rattle.std.proofs.lemmas.List.Concat.{flat_map-cons}
use Rattle.sip_vector.specs.declared.update.Update.{Update}
use Rattle.sip_wire.specs.declared.message.Leaf.{Leaf}
use Rattle.sip_wire.specs.declared.message.Node.{Node}
use Rattle.sip_wire.specs.declared.message.Mark.{Mark}
use Rattle.sip_wire.specs.declared.kind.Kind.{Kind}
use Rattle.sip_wire.specs.declared.kind.Kind.TheVariants as kinds
use Rattle.sip_wire.specs.declared.version.Version.{Version}
use Rattle.sip_wire.specs.declared.version.Version.TheVariants.{One, Two}
use Rattle.sip_wire.specs.Table.{Field, side, repeat, shape, update_fields, entry_fields, leaf_fields, node_fields, mark_fields, query_fields, sibling_fields, query_shape, siblings_shape, element, most_degree}
use Rattle.sip_wire.specs.Spelling.{has_room, all_hold, fits_shape, kind_of, mark_of, numbers, side_number, update_numbers, entry_numbers, leaf_numbers, node_numbers, mark_numbers, query_code, query_numbers}
use Rattle.sip_wire.specs.Values.{InRange, side_at, updates_from, entries_from, leaves_from, nodes_from, marks_from, query_from, message_from}
use Rattle.sip_wire.proofs.EntryValues.{value_range}
use Rattle.sip_wire.proofs.Shapes.{FitsAll, fit_parts}
use Rattle.sip_wire.proofs.Same.{coefficients_back}

-- what is made of a kind, a mark and numbers has them, and its signed numbers are values of their
-- type
pub record Made (kind : Kind) (mark : ℕ) (ns : List ℕ) : Type 0 where
  pub its_kind : kind_of (message_from kind mark ns) ≡ kind
  pub its_mark : mark_of (message_from kind mark ns) ≡ mark
  pub its_numbers : numbers (message_from kind mark ns) ≡ ns
  pub in_range : InRange (message_from kind mark ns)

-- there is one number for each field
one_each : (fs : List Field) (ns : List ℕ) → has_room fs ns ≡ true → length ns ≡ length fs
unfolding has_room
one_each [] [] room = refl
one_each [] (n ∷ ns) room = absurd cc
one_each (f ∷ fs) [] room = absurd cc
one_each (f ∷ fs) (n ∷ ns) room = omega (arith, one_each fs ns (and_parts (nat_lt n (256 ^ f.width)) (has_room fs ns) room).1)

-- the first number has room, and the rest
room_first : (f : Field) (fs : List Field) (n : ℕ) (ns : List ℕ) → has_room (f ∷ fs) (n ∷ ns) ≡ true → (n < 256 ^ f.width) × (has_room fs ns ≡ true)
unfolding has_room
room_first f fs n ns room = let both = and_parts (nat_lt n (256 ^ f.width)) (has_room fs ns) room in (ltb-true n (256 ^ f.width) both.0, both.1)

-- the first field may hold its number, and the rest
holds_first : (f : Field) (fs : List Field) (n : ℕ) (ns : List ℕ) → all_hold (f ∷ fs) (n ∷ ns) ≡ true → (f.holds n ≡ true) × (all_hold fs ns ≡ true)
unfolding all_hold
holds_first f fs n ns hold = and_parts (f.holds n) (all_hold fs ns) hold

-- ---- numbers

-- the number of a side is that of the side that it stands for
side_again : (n : ℕ) → (nat_le 0 n && nat_le n 1) ≡ true → side_number (side_at n) ≡ n
side_again zero h = refl
side_again (suc zero) h = refl
side_again (suc (suc n)) h = absurd (let le : suc (suc n) ≤ 1 = grind (arith, nat_tests) in omega arith)

-- eight bytes of two's complement are a value of the type
fits_signed : (n : ℕ) → n < 256 ^ 8 → FitsSigned w64 (cast_signed w64 n)
fits_signed n lt = grind (arith, ints)

-- and are its two's complement
signed_again : (n : ℕ) → n < 256 ^ 8 → cast_unsigned w64 (cast_signed w64 n) ≡ n
signed_again n lt = of_z-to_z w64 n lt

-- ---- rows

-- rows of these numbers are made again
record MadeRows {T : Type 0} (said : T → List ℕ) (in_range : T → Type 0) (k : ℕ) (ns : List ℕ) (items : List T) : Type 0 where
  its_count : length items ≡ k
  its_numbers : flat_map said items ≡ ns
  all_in_range : All in_range items

-- no fields, no numbers
no_rows : (ns : List ℕ) → has_room [] ns ≡ true → ns ≡ []
unfolding has_room
no_rows [] room = refl
no_rows (n ∷ ns) room = absurd cc

-- one more row
more_rows : {T : Type 0} (said : T → List ℕ) (in_range : T → Type 0) (k : ℕ) (head ns : List ℕ) (x : T) (items : List T) → said x ≡ head → in_range x → MadeRows said in_range k ns items → MadeRows said in_range (suc k) (head ++ ns) (x ∷ items)
more_rows said in_range k head ns x items is fit made = record {
  its_count = omega (arith, made.its_count);
  its_numbers = flat_map-cons said x items ∙ rw (is, made.its_numbers) refl;
  all_in_range = All-cons in_range x items fit made.all_in_range;
}

-- there are numbers for a first row
has_row : (k : ℕ) (layout : List Field) (ns : List ℕ) → has_room (repeat (suc k) layout) ns ≡ true → length layout ≤ length ns
has_row k layout ns room = omega (arith, one_each (layout ++ repeat k layout) ns room, length-append layout (repeat k layout))

-- a delta is a value of its type
abbrev delta_range : Update → Type 0
delta_range u = FitsSigned w64 u.delta

-- updates are made again
updates_again : (version : Version) (k : ℕ) (ns : List ℕ) → has_room (repeat k (update_fields version)) ns ≡ true → all_hold (repeat k (update_fields version)) ns ≡ true → MadeRows update_numbers delta_range k ns (updates_from k ns)
updates_again version zero ns room hold = record { its_count = refl; its_numbers = sym (no_rows ns room); all_in_range = All-nil delta_range }
updates_again version (suc k) [] room hold = absurd (let len = has_row k (update_fields version) [] room in omega arith)
updates_again version (suc k) (s ∷ []) room hold = absurd (let len = has_row k (update_fields version) (s ∷ []) room in omega arith)
updates_again version (suc k) (s ∷ i ∷ []) room hold = absurd (let len = has_row k (update_fields version) (s ∷ i ∷ []) room in omega arith)
updates_again version (suc k) (s ∷ i ∷ d ∷ ns) room hold =
    let rest = repeat k (update_fields version) in
    let r = room_first _ rest d ns (room_first _ _ i (d ∷ ns) (room_first _ _ s (i ∷ d ∷ ns) room).1).1 in
    let h = holds_first _ _ s (i ∷ d ∷ ns) hold in
    let later = holds_first _ rest d ns (holds_first _ _ i (d ∷ ns) h.1).1 in
    more_rows update_numbers delta_range k (s ∷ i ∷ d ∷ []) ns _ (updates_from k ns) (rw (side_again s h.0, signed_again d r.0) refl) (fits_signed d r.0) (updates_again version k ns r.1 later.1)

-- entries are made again
entries_again : (version : Version) (k : ℕ) (ns : List ℕ) → has_room (repeat k (entry_fields version)) ns ≡ true → MadeRows entry_numbers value_range k ns (entries_from k ns)
entries_again version zero ns room = record { its_count = refl; its_numbers = sym (no_rows ns room); all_in_range = All-nil value_range }
entries_again version (suc k) [] room = absurd (let len = has_row k (entry_fields version) [] room in omega arith)
entries_again version (suc k) (i ∷ []) room = absurd (let len = has_row k (entry_fields version) (i ∷ []) room in omega arith)
entries_again version (suc k) (i ∷ v ∷ ns) room =
    let r = room_first _ (repeat k (entry_fields version)) v ns (room_first _ _ i (v ∷ ns) room).1 in
    more_rows entry_numbers value_range k (i ∷ v ∷ []) ns _ (entries_from k ns) (rw (signed_again v r.0) refl) (fits_signed v r.0) (entries_again version k ns r.1)

-- nothing is asked of a leaf
abbrev any_leaf : Leaf → Type 0
any_leaf _ = Unit {0}

-- leaves are made again
leaves_again : (version : Version) (k : ℕ) (ns : List ℕ) → has_room (repeat k (leaf_fields version)) ns ≡ true → MadeRows leaf_numbers any_leaf k ns (leaves_from k ns)
leaves_again version zero ns room = record { its_count = refl; its_numbers = sym (no_rows ns room); all_in_range = All-nil any_leaf }
leaves_again version (suc k) [] room = absurd (let len = has_row k (leaf_fields version) [] room in omega arith)
leaves_again version (suc k) (i ∷ []) room = absurd (let len = has_row k (leaf_fields version) (i ∷ []) room in omega arith)
leaves_again version (suc k) (i ∷ n ∷ ns) room =
    let r = room_first _ (repeat k (leaf_fields version)) n ns (room_first _ _ i (n ∷ ns) room).1 in
    more_rows leaf_numbers any_leaf k (i ∷ n ∷ []) ns _ (leaves_from k ns) refl tt (leaves_again version k ns r.1)

-- nothing is asked of a node
abbrev any_node : Node → Type 0
any_node _ = Unit {0}

-- nodes are made again
nodes_again : (version : Version) (k : ℕ) (ns : List ℕ) → has_room (repeat k (node_fields version)) ns ≡ true → MadeRows node_numbers any_node k ns (nodes_from k ns)
nodes_again version zero ns room = record { its_count = refl; its_numbers = sym (no_rows ns room); all_in_range = All-nil any_node }
nodes_again version (suc k) [] room = absurd (let len = has_row k (node_fields version) [] room in omega arith)
nodes_again version (suc k) (i ∷ []) room = absurd (let len = has_row k (node_fields version) (i ∷ []) room in omega arith)
nodes_again version (suc k) (i ∷ h ∷ []) room = absurd (let len = has_row k (node_fields version) (i ∷ h ∷ []) room in omega arith)
nodes_again version (suc k) (i ∷ h ∷ n ∷ ns) room =
    let r = room_first _ (repeat k (node_fields version)) n ns (room_first _ _ h (n ∷ ns) (room_first _ _ i (h ∷ n ∷ ns) room).1).1 in
    more_rows node_numbers any_node k (i ∷ h ∷ n ∷ []) ns _ (nodes_from k ns) refl tt (nodes_again version k ns r.1)

-- a value is one of its type
abbrev mark_range : Mark → Type 0
mark_range m = FitsSigned w64 m.value

-- marks are made again
marks_again : (k : ℕ) (ns : List ℕ) → has_room (repeat k mark_fields) ns ≡ true → MadeRows mark_numbers mark_range k ns (marks_from k ns)
marks_again zero ns room = record { its_count = refl; its_numbers = sym (no_rows ns room); all_in_range = All-nil mark_range }
marks_again (suc k) [] room = absurd (let len = has_row k mark_fields [] room in omega arith)
marks_again (suc k) (i ∷ []) room = absurd (let len = has_row k mark_fields (i ∷ []) room in omega arith)
marks_again (suc k) (i ∷ v ∷ []) room = absurd (let len = has_row k mark_fields (i ∷ v ∷ []) room in omega arith)
marks_again (suc k) (i ∷ v ∷ w ∷ ns) room =
    let a = room_first _ _ v (w ∷ ns) (room_first _ _ i (v ∷ w ∷ ns) room).1 in
    let r = room_first _ (repeat k mark_fields) w ns a.1 in
    more_rows mark_numbers mark_range k (i ∷ v ∷ w ∷ []) ns _ (marks_from k ns) (rw (signed_again v a.0) refl) (fits_signed v a.0) (marks_again k ns r.1)

-- ---- kinds

-- so many numbers, and what is made of them
none : (ns : List ℕ) → length ns ≡ 0 → ns ≡ []
none [] e = refl
none (n ∷ ns) e = absurd (omega arith)

-- one number
one : (ns : List ℕ) → length ns ≡ 1 → (n : ℕ) × (ns ≡ n ∷ [])
one [] e = absurd (omega arith)
one (n ∷ []) e = (n, refl)
one (n ∷ m ∷ ns) e = absurd (omega arith)

-- two numbers
two : (ns : List ℕ) → length ns ≡ 2 → (n : ℕ) × (m : ℕ) × (ns ≡ n ∷ m ∷ [])
two [] e = absurd (omega arith)
two (n ∷ []) e = absurd (omega arith)
two (n ∷ m ∷ []) e = (n, m, refl)
two (n ∷ m ∷ k ∷ ns) e = absurd (omega arith)

-- three numbers
three : (ns : List ℕ) → length ns ≡ 3 → (n : ℕ) × (m : ℕ) × (k : ℕ) × (ns ≡ n ∷ m ∷ k ∷ [])
three [] e = absurd (omega arith)
three (n ∷ []) e = absurd (omega arith)
three (n ∷ m ∷ []) e = absurd (omega arith)
three (n ∷ m ∷ k ∷ []) e = (n, m, k, refl)
three (n ∷ m ∷ k ∷ l ∷ ns) e = absurd (omega arith)

-- four numbers
four : (ns : List ℕ) → length ns ≡ 4 → (n : ℕ) × (m : ℕ) × (k : ℕ) × (l : ℕ) × (ns ≡ n ∷ m ∷ k ∷ l ∷ [])
four [] e = absurd (omega arith)
four (n ∷ []) e = absurd (omega arith)
four (n ∷ m ∷ []) e = absurd (omega arith)
four (n ∷ m ∷ k ∷ []) e = absurd (omega arith)
four (n ∷ m ∷ k ∷ l ∷ []) e = (n, m, k, l, refl)
four (n ∷ m ∷ k ∷ l ∷ i ∷ ns) e = absurd (omega arith)

-- a query of a code and its numbers
record MadeQuery (code : ℕ) (ns : List ℕ) : Type 0 where
  its_code : query_code (query_from code ns) ≡ code
  its_numbers : query_numbers (query_from code ns) ≡ ns

-- a first field that is a side
side_first : (n : ℕ) (fs : List Field) (ns : List ℕ) → all_hold (side ∷ fs) (n ∷ ns) ≡ true → side_number (side_at n) ≡ n
side_first n fs ns hold = side_again n (holds_first side fs n ns hold).0

-- a range is made again
range_again : (version : Version) (n lo hi : ℕ) → all_hold (query_fields version 2) (n ∷ lo ∷ hi ∷ []) ≡ true → MadeQuery 2 (n ∷ lo ∷ hi ∷ [])
range_again version n lo hi hold = record { its_code = refl; its_numbers = rw (side_first n _ _ hold) refl }

-- a second moment is made again
moment_again : (version : Version) (n : ℕ) → all_hold (query_fields version 3) (n ∷ []) ≡ true → MadeQuery 3 (n ∷ [])
moment_again version n hold = record { its_code = refl; its_numbers = rw (side_first n _ _ hold) refl }

-- heavy items are made again
heavy_again : (version : Version) (n least : ℕ) → all_hold (query_fields version 5) (n ∷ least ∷ []) ≡ true → MadeQuery 5 (n ∷ least ∷ [])
heavy_again version n least hold = record { its_code = refl; its_numbers = rw (side_first n _ _ hold) refl }

-- the items of a share are made again
share_again : (version : Version) (n num den : ℕ) → all_hold (query_fields version 6) (n ∷ num ∷ den ∷ []) ≡ true → MadeQuery 6 (n ∷ num ∷ den ∷ [])
share_again version n num den hold = record { its_code = refl; its_numbers = rw (side_first n _ _ hold) refl }

-- the large items of any stream are made again
above_again : (version : Version) (n least : ℕ) → all_hold (query_fields version 7) (n ∷ least ∷ []) ≡ true → MadeQuery 7 (n ∷ least ∷ [])
above_again version n least hold = record { its_code = refl; its_numbers = rw (side_first n _ _ hold) refl }

-- the codes end at 7
code_at_most : (version : Version) (code : ℕ) → (query_shape version).is_mark code ≡ true → code ≤ 7
code_at_most One code is = grind (arith, nat_tests)
code_at_most Two code is = grind (arith, nat_tests)

-- the flags end at 3
flags_at_most : (flags : ℕ) → siblings_shape.is_mark flags ≡ true → flags ≤ 3
flags_at_most flags is = grind (arith, nat_tests)

-- the same numbers are held
held : (version : Version) (code : ℕ) (ns ms : List ℕ) → ns ≡ ms → all_hold (query_fields version code) ns ≡ true → all_hold (query_fields version code) ms ≡ true
held version code ns ms e hold = rw (← e) hold

-- each query is made again
query_again : (version : Version) (code : ℕ) (ns : List ℕ) → (query_shape version).is_mark code ≡ true → has_room (query_fields version code) ns ≡ true → all_hold (query_fields version code) ns ≡ true → MadeQuery code ns
query_again One zero ns is room hold = absurd cc
query_again Two zero ns is room hold = absurd cc
query_again version (suc zero) ns is room hold = let x = two ns (one_each (query_fields version 1) ns room) in rw x.2 (record { its_code = refl; its_numbers = refl })
query_again version (suc (suc zero)) ns is room hold = let x = three ns (one_each (query_fields version 2) ns room) in subst (MadeQuery 2) (sym x.3) (range_again version x.0 x.1 x.2 (held version 2 ns _ x.3 hold))
query_again version (suc (suc (suc zero))) ns is room hold = let x = one ns (one_each (query_fields version 3) ns room) in subst (MadeQuery 3) (sym x.1) (moment_again version x.0 (held version 3 ns _ x.1 hold))
query_again version (suc (suc (suc (suc zero)))) ns is room hold = let x = none ns (one_each (query_fields version 4) ns room) in rw x (record { its_code = refl; its_numbers = refl })
query_again version (suc (suc (suc (suc (suc zero))))) ns is room hold = let x = two ns (one_each (query_fields version 5) ns room) in subst (MadeQuery 5) (sym x.2) (heavy_again version x.0 x.1 (held version 5 ns _ x.2 hold))
query_again version (suc (suc (suc (suc (suc (suc zero)))))) ns is room hold = let x = three ns (one_each (query_fields version 6) ns room) in subst (MadeQuery 6) (sym x.3) (share_again version x.0 x.1 x.2 (held version 6 ns _ x.3 hold))
query_again version (suc (suc (suc (suc (suc (suc (suc zero))))))) ns is room hold = let x = two ns (one_each (query_fields version 7) ns room) in subst (MadeQuery 7) (sym x.2) (above_again version x.0 x.1 (held version 7 ns _ x.2 hold))
query_again version (suc (suc (suc (suc (suc (suc (suc (suc code)))))))) ns is room hold = absurd (let le = code_at_most version (suc (suc (suc (suc (suc (suc (suc (suc code)))))))) is in omega arith)

-- siblings are made again
siblings_again : (flags : ℕ) (ns : List ℕ) → siblings_shape.is_mark flags ≡ true → has_room (sibling_fields flags) ns ≡ true → Made kinds.Siblings flags ns
siblings_again zero ns is room = let x = none ns (one_each (sibling_fields 0) ns room) in rw x (record { its_kind = refl; its_mark = refl; its_numbers = refl; in_range = tt })
siblings_again (suc zero) ns is room = let x = one ns (one_each (sibling_fields 1) ns room) in rw x.1 (record { its_kind = refl; its_mark = refl; its_numbers = refl; in_range = tt })
siblings_again (suc (suc zero)) ns is room = let x = one ns (one_each (sibling_fields 2) ns room) in rw x.1 (record { its_kind = refl; its_mark = refl; its_numbers = refl; in_range = tt })
siblings_again (suc (suc (suc zero))) ns is room = let x = two ns (one_each (sibling_fields 3) ns room) in rw x.2 (record { its_kind = refl; its_mark = refl; its_numbers = refl; in_range = tt })
siblings_again (suc (suc (suc (suc flags)))) ns is room = absurd (let le = flags_at_most (suc (suc (suc (suc flags)))) is in omega arith)

-- a claim is made again
claim_again : (n : ℕ) → n < 256 ^ 8 → Made kinds.Claim 0 (n ∷ [])
claim_again n lt = record { its_kind = refl; its_mark = refl; its_numbers = rw (signed_again n lt) refl; in_range = fits_signed n lt }

-- as many fields as rows
repeat_length : (k : ℕ) (f : Field) → length (repeat k (f ∷ [])) ≡ k
repeat_length zero f = refl
repeat_length (suc k) f = ap suc (repeat_length k f)

-- a power is made again
power_again : (degree : ℕ) (ns : List ℕ) → has_room (repeat (suc degree) (element ∷ [])) ns ≡ true → Made (kinds.Power degree) 0 ns
power_again degree ns room =
    let many : length ns ≡ suc degree = one_each (repeat (suc degree) (element ∷ [])) ns room ∙ repeat_length (suc degree) element in
    let same : length ns - 1 ≡ degree = omega (arith, many) in
    record { its_kind = ap kinds.Power same; its_mark = refl; its_numbers = coefficients_back ns; in_range = tt }

-- the mark of a kind without one
unmarked : (kind : Kind) (mark : ℕ) (ns : List ℕ) → mark ≡ 0 → Made kind 0 ns → Made kind mark ns
unmarked kind mark ns e made = rw e made

-- so for each kind
by_kind : (version : Version) (kind : Kind) (mark : ℕ) (ns : List ℕ) → FitsAll (shape version kind) mark ns → Made kind mark ns
by_kind version kinds.Open mark ns fit = let x = two ns (one_each _ ns fit.room) in unmarked kinds.Open mark ns (eqb-true mark 0 fit.is_mark) (rw x.2 (record { its_kind = refl; its_mark = refl; its_numbers = refl; in_range = tt }))
by_kind version kinds.Updates mark ns fit = let x = updates_again version mark ns fit.room fit.hold in record { its_kind = refl; its_mark = x.its_count; its_numbers = x.its_numbers; in_range = x.all_in_range }
by_kind version kinds.EndStream mark ns fit = unmarked kinds.EndStream mark ns (eqb-true mark 0 fit.is_mark) (rw (no_rows ns fit.room) (record { its_kind = refl; its_mark = refl; its_numbers = refl; in_range = tt }))
by_kind version kinds.Query mark ns fit = let x = query_again version mark ns fit.is_mark fit.room fit.hold in record { its_kind = refl; its_mark = x.its_code; its_numbers = x.its_numbers; in_range = tt }
by_kind version kinds.Reveal mark ns fit = let x = one ns (one_each _ ns fit.room) in unmarked kinds.Reveal mark ns (eqb-true mark 0 fit.is_mark) (rw x.1 (record { its_kind = refl; its_mark = refl; its_numbers = refl; in_range = tt }))
by_kind version kinds.Bye mark ns fit = unmarked kinds.Bye mark ns (eqb-true mark 0 fit.is_mark) (rw (no_rows ns fit.room) (record { its_kind = refl; its_mark = refl; its_numbers = refl; in_range = tt }))
by_kind version kinds.Claim mark ns fit =
    let x = one ns (one_each _ ns fit.room) in
    let room = rw x.1 at fit.room in
    unmarked kinds.Claim mark ns (eqb-true mark 0 fit.is_mark) (subst (Made kinds.Claim 0) (sym x.1) (claim_again x.0 (room_first _ [] x.0 [] room).0))
by_kind version kinds.Poly mark ns fit = let x = three ns (one_each _ ns fit.room) in unmarked kinds.Poly mark ns (eqb-true mark 0 fit.is_mark) (rw x.3 (record { its_kind = refl; its_mark = refl; its_numbers = refl; in_range = tt }))
by_kind version kinds.Entries mark ns fit = let x = entries_again version mark ns fit.room in record { its_kind = refl; its_mark = x.its_count; its_numbers = x.its_numbers; in_range = x.all_in_range }
by_kind version kinds.Siblings mark ns fit = siblings_again mark ns fit.is_mark fit.room
by_kind version kinds.Leaves mark ns fit = let x = leaves_again version mark ns fit.room in record { its_kind = refl; its_mark = x.its_count; its_numbers = x.its_numbers; in_range = tt }
by_kind version kinds.Nodes mark ns fit = let x = nodes_again version mark ns fit.room in record { its_kind = refl; its_mark = x.its_count; its_numbers = x.its_numbers; in_range = tt }
by_kind version kinds.LevelEnd mark ns fit = unmarked kinds.LevelEnd mark ns (eqb-true mark 0 fit.is_mark) (rw (no_rows ns fit.room) (record { its_kind = refl; its_mark = refl; its_numbers = refl; in_range = tt }))
by_kind version kinds.Refuse mark ns fit = let x = one ns (one_each _ ns fit.room) in unmarked kinds.Refuse mark ns (eqb-true mark 0 fit.is_mark) (rw x.1 (record { its_kind = refl; its_mark = refl; its_numbers = refl; in_range = tt }))
by_kind version kinds.AskLook mark ns fit = let x = two ns (one_each _ ns fit.room) in unmarked kinds.AskLook mark ns (eqb-true mark 0 fit.is_mark) (rw x.2 (record { its_kind = refl; its_mark = refl; its_numbers = refl; in_range = tt }))
by_kind version kinds.Found mark ns fit = let x = two ns (one_each _ ns fit.room) in unmarked kinds.Found mark ns (eqb-true mark 0 fit.is_mark) (rw x.2 (record { its_kind = refl; its_mark = refl; its_numbers = refl; in_range = tt }))
by_kind version kinds.End mark ns fit = unmarked kinds.End mark ns (eqb-true mark 0 fit.is_mark) (rw (no_rows ns fit.room) (record { its_kind = refl; its_mark = refl; its_numbers = refl; in_range = tt }))
by_kind version kinds.AskMoment mark ns fit = let x = two ns (one_each _ ns fit.room) in unmarked kinds.AskMoment mark ns (eqb-true mark 0 fit.is_mark) (rw x.2 (record { its_kind = refl; its_mark = refl; its_numbers = refl; in_range = tt }))
by_kind version (kinds.Power degree) mark ns fit = unmarked (kinds.Power degree) mark ns (eqb-true mark 0 (and_parts (nat_le degree most_degree) (mark == 0) fit.is_mark).1) (power_again degree ns fit.room)
by_kind version kinds.Held mark ns fit = let x = four ns (one_each _ ns fit.room) in unmarked kinds.Held mark ns (eqb-true mark 0 fit.is_mark) (rw x.4 (record { its_kind = refl; its_mark = refl; its_numbers = refl; in_range = tt }))
by_kind version kinds.Recall mark ns fit = let x = one ns (one_each _ ns fit.room) in unmarked kinds.Recall mark ns (eqb-true mark 0 fit.is_mark) (rw x.1 (record { its_kind = refl; its_mark = refl; its_numbers = refl; in_range = tt }))
by_kind version kinds.Marks mark ns fit = let x = marks_again mark ns fit.room in record { its_kind = refl; its_mark = x.its_count; its_numbers = x.its_numbers; in_range = x.all_in_range }

-- what is made of a mark and numbers that fit has them
pub made : (version : Version) (kind : Kind) (mark : ℕ) (ns : List ℕ) → fits_shape (shape version kind) mark ns ≡ true → Made kind mark ns
made version kind mark ns fit = by_kind version kind mark ns (fit_parts (shape version kind) mark ns fit)
