-- What holds of the shapes in the table, and the two directions of a body.
use Rattle.std.proofs.Common.{◌≡◌, ℕ, zero, suc, ◌+◌, ◌*◌, ◌-◌, ◌%◌, ◌^◌, ◌<◌, ◌≤◌, Bool, true, false, not, ◌&&◌, cond, nat_le, ◌==◌, Some, None, List, [], ◌∷◌, length, take, drop, refl, sym, ap, ◌∙◌, arith, length-append, length-drop}
use Rattle.std.proofs.lemmas.Bool.{and_from, and_parts, leb-true, le-leb, eqb-true, eq-eqb}
use Rattle.std.proofs.lemmas.Bool.Decides.{nat_tests}
use Rattle.std.proofs.lemmas.List.{drop_at, take-append-drop}
use Rattle.std.proofs.Math.Nat.{mul-mod_left, mul-le-mul_right}
use Rattle.byteorder.specs.Endian.{big_bytes}
use Rattle.byteorder.specs.Numbers.{big_number-reads_back, length-bytes_high_first}
use Rattle.sip_wire.specs.declared.kind.Kind.{Kind}
use Rattle.sip_wire.specs.declared.kind.Kind.TheVariants as kinds
use Rattle.sip_wire.specs.declared.message.WireFault.{WireFault}
use Rattle.sip_wire.specs.declared.message.WireFault.TheVariants as faults
use Rattle.sip_wire.specs.declared.version.Version.{Version}
use Rattle.sip_wire.specs.declared.version.Version.TheVariants.{One, Two}
use Rattle.sip_wire.specs.Table.{Field, Shape, size, repeat, ordered, plain, counted, query_shape, siblings_shape, query_fields, sibling_fields, element, mark_fields, marks_shape, most_nodes, power_shape, most_degree, longest_body, shape, stands_in}
use Rattle.sip_wire.specs.Spelling.{in_bytes, spelled, has_room, all_hold, fits_shape, body_in, mark_in, mark_fits, said_in, body_fault, Stands}
use Rattle.sip_wire.proofs.Bytes.{IsBytes, IsBytes-drop, bytes_back}
use Rattle.sip_wire.proofs.Fields.{fields_back, fields_room, fields_size, fields_again}
use Rattle.sip_wire.proofs.Counting.{size_repeat}

-- a mark has room in its bytes and its body has a length of the kind, and no body is too long for
-- two bytes
pub record IsShape (s : Shape) : Type 0 where
  pub mark_room : (m : ℕ) → s.is_mark m ≡ true → m < 256 ^ s.mark_width
  pub lengths : (m : ℕ) → s.is_mark m ≡ true → s.has_length (s.mark_width + size (s.fields m)) ≡ true
  pub short : (n : ℕ) → s.has_length n ≡ true → n ≤ longest_body

-- the same fields in each body
ordered_shape : (fs : List Field) (in_order : List ℕ → Bool) → size fs ≤ longest_body → IsShape (ordered fs in_order)
ordered_shape fs in_order le = record {
  mark_room = λ m h. let e = eqb-true m 0 h in omega arith;
  lengths = λ m h. eq-eqb (0 + size fs) (size fs) (omega arith);
  short = λ n h. let e = eqb-true n (size fs) h in omega arith;
}

plain_shape : (fs : List Field) → size fs ≤ longest_body → IsShape (plain fs)
plain_shape fs le = ordered_shape fs (λ _. true) le

-- a count is in its range
le_mark : (m most : ℕ) → (nat_le 1 m && nat_le m most) ≡ true → (1 ≤ m) × (m ≤ most)
le_mark m most h = (grind (arith, nat_tests), grind (arith, nat_tests))

-- so many rows have a length of counted rows
rows_length : (most c m total : ℕ) → 0 < c → total ≡ m * c → 1 ≤ m → m ≤ most → (nat_le (2 + c) (2 + total) && nat_le (2 + total) (2 + most * c) && ((2 + total - 2) % c == 0)) ≡ true
rows_length most c m total some is least le =
    let low : 1 * c ≤ m * c = mul-le-mul_right c least in
    let high : m * c ≤ most * c = mul-le-mul_right c le in
    let behind : 2 + total - 2 ≡ m * c = omega arith in
    let whole : (2 + total - 2) % c ≡ 0 = ap (λ (x : ℕ). x % c) behind ∙ mul-mod_left m c in
    let first : 2 + c ≤ 2 + total = omega arith in
    let second : 2 + total ≤ 2 + most * c = omega arith in
    and_from _ _ (and_from _ _ (le-leb _ _ first) (le-leb _ _ second)) (eq-eqb _ _ whole)

-- counted rows
counted_shape : (most : ℕ) (layout : List Field) → most ≤ 512 → 0 < size layout → most * size layout ≤ 8704 → IsShape (counted most layout)
counted_shape most layout le some narrow = record {
  mark_room = λ m h. grind (arith, nat_tests);
  lengths = λ m h. let both = le_mark m most h in rows_length most (size layout) m (size (repeat m layout)) some (size_repeat m layout) both.0 both.1;
  short = λ n h. let high : n ≤ 2 + most * size layout = leb-true n (2 + most * size layout) (and_parts _ _ (and_parts _ _ h).0).1 in omega arith;
}

-- each code has a length of a query
query_lengths : (version : Version) (m : ℕ) → (query_shape version).is_mark m ≡ true → (query_shape version).has_length (1 + size (query_fields version m)) ≡ true
query_lengths One zero h = refl
query_lengths One (suc zero) h = refl
query_lengths One (suc (suc zero)) h = refl
query_lengths One (suc (suc (suc zero))) h = refl
query_lengths One (suc (suc (suc (suc zero)))) h = refl
query_lengths One (suc (suc (suc (suc (suc zero))))) h = refl
query_lengths One (suc (suc (suc (suc (suc (suc zero)))))) h = refl
query_lengths One (suc (suc (suc (suc (suc (suc (suc zero))))))) h = refl
query_lengths One (suc (suc (suc (suc (suc (suc (suc (suc m)))))))) h = refl
query_lengths Two zero h = refl
query_lengths Two (suc zero) h = refl
query_lengths Two (suc (suc zero)) h = refl
query_lengths Two (suc (suc (suc zero))) h = refl
query_lengths Two (suc (suc (suc (suc zero)))) h = refl
query_lengths Two (suc (suc (suc (suc (suc zero))))) h = refl
query_lengths Two (suc (suc (suc (suc (suc (suc zero)))))) h = refl
query_lengths Two (suc (suc (suc (suc (suc (suc (suc zero))))))) h = refl
query_lengths Two (suc (suc (suc (suc (suc (suc (suc (suc m)))))))) h = refl

-- a code of a query has room in a byte, and its body in a frame
query_is : (version : Version) → IsShape (query_shape version)
query_is One = record {
  mark_room = λ m h. grind (arith, nat_tests);
  lengths = query_lengths One;
  short = λ n h. grind (arith, nat_tests);
}
query_is Two = record {
  mark_room = λ m h. grind (arith, nat_tests);
  lengths = query_lengths Two;
  short = λ n h. grind (arith, nat_tests);
}

-- each flags have a length of siblings
sibling_lengths : (m : ℕ) → siblings_shape.is_mark m ≡ true → siblings_shape.has_length (1 + size (sibling_fields m)) ≡ true
sibling_lengths zero h = refl
sibling_lengths (suc zero) h = refl
sibling_lengths (suc (suc zero)) h = refl
sibling_lengths (suc (suc (suc zero))) h = refl
sibling_lengths (suc (suc (suc (suc m)))) h = refl

-- siblings
siblings_is : IsShape siblings_shape
siblings_is = record {
  mark_room = λ m h. grind (arith, nat_tests);
  lengths = sibling_lengths;
  short = λ n h. grind (arith, nat_tests);
}

-- a degree that there is, and no mark
power_mark : (degree m : ℕ) → (power_shape degree).is_mark m ≡ true → (degree ≤ most_degree) × (m ≡ 0)
power_mark degree m h = let both = and_parts (nat_le degree most_degree) (m == 0) h in (leb-true degree most_degree both.0, eqb-true m 0 both.1)

-- coefficients
power_is : (degree : ℕ) → IsShape (power_shape degree)
power_is degree = record {
  mark_room = λ m h. let e = power_mark degree m h in omega (arith, e.1);
  lengths = λ m h.
      let e = power_mark degree m h in
      let total : 0 + size (repeat (suc degree) (element ∷ [])) ≡ 8 * (degree + 1) = omega (arith, size_repeat (suc degree) (element ∷ [])) in
      and_from _ _ (le-leb degree most_degree e.0) (eq-eqb _ _ total);
  short = λ n h.
      let both = and_parts (nat_le degree most_degree) (n == 8 * (degree + 1)) h in
      omega (arith, leb-true degree most_degree both.0, eqb-true n (8 * (degree + 1)) both.1);
}

-- marks, where they stand
marks_is : (stands : Bool) → IsShape (marks_shape stands)
marks_is true = let is = counted_shape most_nodes mark_fields (omega arith) (omega arith) (omega arith) in record { mark_room = is.mark_room; lengths = is.lengths; short = is.short }
marks_is false = record {
  mark_room = λ m h. absurd cc;
  lengths = λ m h. absurd cc;
  short = λ n h. absurd cc;
}

-- each kind's
pub is_shape : (version : Version) (kind : Kind) → IsShape (shape version kind)
is_shape version kinds.Open = ordered_shape _ _ (omega arith)
is_shape One kinds.Updates = counted_shape _ _ (omega arith) (omega arith) (omega arith)
is_shape Two kinds.Updates = counted_shape _ _ (omega arith) (omega arith) (omega arith)
is_shape version kinds.EndStream = plain_shape _ (omega arith)
is_shape version kinds.Query = query_is version
is_shape version kinds.Reveal = plain_shape _ (omega arith)
is_shape version kinds.Bye = plain_shape _ (omega arith)
is_shape version kinds.Claim = plain_shape _ (omega arith)
is_shape version kinds.Poly = plain_shape _ (omega arith)
is_shape One kinds.Entries = counted_shape _ _ (omega arith) (omega arith) (omega arith)
is_shape Two kinds.Entries = counted_shape _ _ (omega arith) (omega arith) (omega arith)
is_shape version kinds.Siblings = siblings_is
is_shape One kinds.Leaves = counted_shape _ _ (omega arith) (omega arith) (omega arith)
is_shape Two kinds.Leaves = counted_shape _ _ (omega arith) (omega arith) (omega arith)
is_shape One kinds.Nodes = counted_shape _ _ (omega arith) (omega arith) (omega arith)
is_shape Two kinds.Nodes = counted_shape _ _ (omega arith) (omega arith) (omega arith)
is_shape version kinds.LevelEnd = plain_shape _ (omega arith)
is_shape version kinds.Refuse = plain_shape _ (omega arith)
is_shape version kinds.AskLook = plain_shape _ (omega arith)
is_shape version kinds.Found = ordered_shape _ _ (omega arith)
is_shape version kinds.End = plain_shape _ (omega arith)
is_shape version kinds.AskMoment = plain_shape _ (omega arith)
is_shape version (kinds.Power degree) = power_is degree
is_shape version kinds.Held = plain_shape _ (omega arith)
is_shape version kinds.Recall = plain_shape _ (omega arith)
is_shape version kinds.Marks = marks_is (stands_in kinds.Marks version)

-- ---- what fits a shape

-- the four tests, each by its name
pub record FitsAll (s : Shape) (mark : ℕ) (ns : List ℕ) : Type 0 where
  pub is_mark : s.is_mark mark ≡ true
  pub room : has_room (s.fields mark) ns ≡ true
  pub in_order : s.in_order mark ns ≡ true
  pub hold : all_hold (s.fields mark) ns ≡ true

-- a mark and numbers that fit pass each
pub fit_parts : (s : Shape) (mark : ℕ) (ns : List ℕ) → fits_shape s mark ns ≡ true → FitsAll s mark ns
fit_parts s mark ns fit =
    let a = and_parts (s.is_mark mark && has_room (s.fields mark) ns && s.in_order mark ns) (all_hold (s.fields mark) ns) fit in
    let b = and_parts (s.is_mark mark && has_room (s.fields mark) ns) (s.in_order mark ns) a.0 in
    let c = and_parts (s.is_mark mark) (has_room (s.fields mark) ns) b.0 in
    record { is_mark = c.0; room = c.1; in_order = b.1; hold = a.1 }

-- ---- from bytes to the value and back

-- no fault where both tests passed
two_tests : (a b : Bool) (x y : WireFault) → cond (not a) (Some x) (cond (not b) (Some y) None) ≡ None → (a ≡ true) × (b ≡ true)
two_tests true true x y e = (refl, refl)
two_tests true false x y e = absurd cc
two_tests false b x y e = absurd cc

-- what stands in a body spells it
pub body_back : (s : Shape) (body : List ℕ) (mark : ℕ) (ns : List ℕ) → IsBytes body → Stands s body mark ns → (fits_shape s mark ns ≡ true) × (body ≡ body_in s mark ns)
unfolding body_fault in_bytes
body_back s body mark ns fits stands =
    let m = mark_in s body in
    let said = said_in s body in
    let tests = two_tests (mark_fits s m (length body)) (s.in_order m said && all_hold (s.fields m) said) faults.BadCount faults.BadNumber stands.no_fault in
    let marks = and_parts (s.is_mark m) (s.mark_width + size (s.fields m) == length body) tests.0 in
    let len : s.mark_width + size (s.fields m) ≡ length body = eqb-true _ _ marks.1 in
    let after = IsBytes-drop s.mark_width body fits in
    let back : spelled (s.fields m) said ≡ drop s.mark_width body = fields_back (s.fields m) (drop s.mark_width body) after (omega (arith, length-drop s.mark_width body)) in
    let front : big_bytes s.mark_width m ≡ take s.mark_width body = bytes_back s.mark_width body fits (omega arith) in
    let fit : fits_shape s m said ≡ true = and_from _ _ (and_from _ _ (and_from _ _ marks.0 (fields_room (s.fields m) (drop s.mark_width body) after)) (and_parts _ _ tests.1).0) (and_parts _ _ tests.1).1 in
    let whole : body ≡ body_in s m said = sym (rw (front, back) (take-append-drop s.mark_width body)) in
    rw (stands.its_mark, stands.its_numbers) (fit, whole)

-- and both tests leave no fault
pub no_fault_in : (s : Shape) (body : List ℕ) → mark_fits s (mark_in s body) (length body) ≡ true → (s.in_order (mark_in s body) (said_in s body) && all_hold (s.fields (mark_in s body)) (said_in s body)) ≡ true → body_fault s body ≡ None
unfolding body_fault in_bytes
no_fault_in s body a b = rw (a, b) refl

-- what spells a mark and numbers is read as them
pub body_again : (s : Shape) (mark : ℕ) (ns : List ℕ) → IsShape s → fits_shape s mark ns ≡ true → Stands s (body_in s mark ns) mark ns
unfolding in_bytes
body_again s mark ns is fit =
    let parts = fit_parts s mark ns fit in
    let body = body_in s mark ns in
    let front = length-bytes_high_first s.mark_width mark in
    let mark_is : mark_in s body ≡ mark = big_number-reads_back s.mark_width mark (spelled (s.fields mark) ns) (is.mark_room mark parts.is_mark) in
    let rest : drop s.mark_width body ≡ spelled (s.fields mark) ns = drop_at (big_bytes s.mark_width mark) (spelled (s.fields mark) ns) s.mark_width front in
    let said_is : said_in s body ≡ ns = rw (mark_is, rest) (fields_again (s.fields mark) ns parts.room) in
    let len : length body ≡ s.mark_width + size (s.fields mark) = length-append (big_bytes s.mark_width mark) (spelled (s.fields mark) ns) ∙ omega (arith, front, fields_size (s.fields mark) ns parts.room) in
    let counts : mark_fits s mark (length body) ≡ true = and_from _ _ parts.is_mark (eq-eqb _ _ (sym len)) in
    let tests : (s.in_order mark ns && all_hold (s.fields mark) ns) ≡ true = and_from _ _ parts.in_order parts.hold in
    record { its_mark = sym mark_is; its_numbers = sym said_is; no_fault = no_fault_in s body (rw mark_is counts) (rw (said_is, mark_is) tests) }

-- how long the body of a mark and numbers that fit is
pub body_length : (s : Shape) (mark : ℕ) (ns : List ℕ) → fits_shape s mark ns ≡ true → length (body_in s mark ns) ≡ s.mark_width + size (s.fields mark)
unfolding in_bytes
body_length s mark ns fit =
    let parts = fit_parts s mark ns fit in
    length-append (big_bytes s.mark_width mark) (spelled (s.fields mark) ns) ∙ omega (arith, length-bytes_high_first s.mark_width mark, fields_size (s.fields mark) ns parts.room)

-- a mark that fits is one
pub mark_of_fit : (s : Shape) (mark : ℕ) (ns : List ℕ) → fits_shape s mark ns ≡ true → s.is_mark mark ≡ true
mark_of_fit s mark ns fit =
    (fit_parts s mark ns fit).is_mark
