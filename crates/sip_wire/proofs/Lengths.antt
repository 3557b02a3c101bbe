-- The lengths of a kind are those that its marks give, and no other.
use Rattle.std.proofs.Common.{◌≡◌, ℕ, suc, ◌+◌, ◌*◌, ◌-◌, ◌%◌, ◌/◌, ◌<◌, ◌≤◌, Bool, true, ◌&&◌, nat_le, ◌==◌, List, [], ◌∷◌, refl, sym, ap, ◌∙◌, arith, inl, inr}
use Rattle.std.specs.List.{list_any}
use Rattle.std.proofs.lemmas.Bool.{and_from, and_parts, or_cases, or_left, or_right, leb-true, eqb-true, eq-eqb}
use Rattle.std.proofs.lemmas.Bool.Decides.{nat_tests}
use Rattle.std.proofs.Math.Nat.{le_of_mul-le-mul_left}
use Rattle.sip_wire.specs.declared.kind.Kind.{Kind}
use Rattle.sip_wire.specs.declared.kind.Kind.TheVariants as kinds
use Rattle.sip_wire.specs.declared.version.Version.{Version}
use Rattle.sip_wire.specs.declared.version.Version.TheVariants.{One, Two}
use Rattle.sip_wire.specs.Table.{Field, Shape, size, ordered, plain, marked, counted, query_fields, sibling_fields, query_codes, sibling_flags, ends_in_order, element, repeat, mark_fields, marks_shape, most_nodes, power_shape, most_degree, shape, IsLengthOfMark}
use Rattle.sip_wire.proofs.Counting.{size_repeat}
use Rattle.sip_wire.proofs.Shapes.{is_shape}

-- some mark of a shape gives this length
record HasMark (s : Shape) (n : ℕ) : Type 0 where
  mark : ℕ
  is_mark : s.is_mark mark ≡ true
  long : n ≡ s.mark_width + size (s.fields mark)

-- a shape without marks has the mark 0
ordered_mark : (fs : List Field) (in_order : List ℕ → Bool) (n : ℕ) → (ordered fs in_order).has_length n ≡ true → HasMark (ordered fs in_order) n
ordered_mark fs in_order n h = record { mark = 0; is_mark = refl; long = let e = eqb-true n (size fs) h in omega arith }

plain_mark : (fs : List Field) (n : ℕ) → (plain fs).has_length n ≡ true → HasMark (plain fs) n
plain_mark fs n h = ordered_mark fs (λ _. true) n h

-- one of these marks gives this length
marks_with : (ℕ → List Field) → List ℕ → ℕ → Type 0
marks_with fields marks n = (mark : ℕ) × (list_any (λ m. mark == m) marks ≡ true) × (n ≡ 1 + size (fields mark))

-- the first does
first_mark : (fields : ℕ → List Field) (x : ℕ) (xs : List ℕ) (n : ℕ) → (n == 1 + size (fields x)) ≡ true → marks_with fields (x ∷ xs) n
unfolding marks_with
first_mark fields x xs n e = (x, or_left (x == x) (list_any (λ m. x == m) xs) (eq-eqb x x refl), eqb-true n (1 + size (fields x)) e)

-- a later one does
later_mark : (fields : ℕ → List Field) (x : ℕ) (xs : List ℕ) (n : ℕ) → marks_with fields xs n → marks_with fields (x ∷ xs) n
unfolding marks_with
later_mark fields x xs n h = (h.0, or_right (h.0 == x) (list_any (λ m. h.0 == m) xs) h.1, h.2)

-- where the test of all finds one, one does
some_mark : (fields : ℕ → List Field) (marks : List ℕ) (n : ℕ) → list_any (λ mark. n == 1 + size (fields mark)) marks ≡ true → marks_with fields marks n
some_mark fields [] n h = absurd cc
some_mark fields (x ∷ xs) n h =
    elim (or_cases (n == 1 + size (fields x)) (list_any (λ mark. n == 1 + size (fields mark)) xs) h) [
      | inl e ↦ first_mark fields x xs n e
      | inr e ↦ later_mark fields x xs n (some_mark fields xs n e)
    ]

-- a length of marks is that of one of them
marked_mark : (marks : List ℕ) (fields : ℕ → List Field) (in_order : ℕ → List ℕ → Bool) (n : ℕ) → (marked marks fields in_order).has_length n ≡ true → HasMark (marked marks fields in_order) n
unfolding marks_with
marked_mark marks fields in_order n h = let x = some_mark fields marks n h in record { mark = x.0; is_mark = x.1; long = x.2 }

-- the test of a range is true within it
in_range : (n most : ℕ) → 1 ≤ n → n ≤ most → (nat_le 1 n && nat_le n most) ≡ true
in_range n most a b = grind (arith, nat_tests)

-- the count of rows by the length of the body
count_of : (most c n : ℕ) → 0 < c → 2 + c ≤ n → n ≤ 2 + most * c → (n - 2) % c ≡ 0 → (k : ℕ) × (1 ≤ k) × (k ≤ most) × (n ≡ 2 + k * c)
count_of most c n some low high whole =
    let k = (n - 2) / c in
    let exact : c * k ≡ n - 2 = omega arith in
    let one : c * 1 ≤ c * k = omega arith in
    let all : c * k ≤ c * most = omega arith in
    (k, le_of_mul-le-mul_left one some, le_of_mul-le-mul_left all some, omega arith)

-- a length of counted rows is that of their count
counted_mark : (most : ℕ) (layout : List Field) (n : ℕ) → 0 < size layout → (counted most layout).has_length n ≡ true → HasMark (counted most layout) n
counted_mark most layout n some h =
    let c = size layout in
    let a = and_parts (nat_le (2 + c) n && nat_le n (2 + most * c)) ((n - 2) % c == 0) h in
    let b = and_parts (nat_le (2 + c) n) (nat_le n (2 + most * c)) a.0 in
    let x = count_of most c n some (leb-true _ _ b.0) (leb-true _ _ b.1) (eqb-true _ _ a.1) in
    record { mark = x.0; is_mark = in_range x.0 most x.1 x.2; long = x.3 ∙ ap (λ (m : ℕ). 2 + m) (sym (size_repeat x.0 layout)) }

-- a length of marks is that of their count
marks_mark : (n : ℕ) → (marks_shape true).has_length n ≡ true → HasMark (marks_shape true) n
marks_mark n h = let x = counted_mark most_nodes mark_fields n (omega arith) h in record { mark = x.mark; is_mark = x.is_mark; long = x.long }

-- a length of coefficients is that of their degree
power_mark : (degree n : ℕ) → (power_shape degree).has_length n ≡ true → HasMark (power_shape degree) n
power_mark degree n h =
    let both = and_parts (nat_le degree most_degree) (n == 8 * (degree + 1)) h in
    let total : n ≡ 0 + size (repeat (suc degree) (element ∷ [])) = omega (arith, eqb-true n (8 * (degree + 1)) both.1, size_repeat (suc degree) (element ∷ [])) in
    record { mark = 0; is_mark = and_from _ _ both.0 refl; long = total }

-- so for each kind
by_kind : (version : Version) (kind : Kind) (n : ℕ) → (shape version kind).has_length n ≡ true → HasMark (shape version kind) n
by_kind version kinds.Open n h = ordered_mark _ _ n h
by_kind One kinds.Updates n h = counted_mark _ _ n (omega arith) h
by_kind Two kinds.Updates n h = counted_mark _ _ n (omega arith) h
by_kind version kinds.EndStream n h = plain_mark _ n h
by_kind version kinds.Query n h = marked_mark (query_codes version) (query_fields version) ends_in_order n h
by_kind version kinds.Reveal n h = plain_mark _ n h
by_kind version kinds.Bye n h = plain_mark _ n h
by_kind version kinds.Claim n h = plain_mark _ n h
by_kind version kinds.Poly n h = plain_mark _ n h
by_kind One kinds.Entries n h = counted_mark _ _ n (omega arith) h
by_kind Two kinds.Entries n h = counted_mark _ _ n (omega arith) h
by_kind version kinds.Siblings n h = marked_mark sibling_flags sibling_fields (λ _ _. true) n h
by_kind One kinds.Leaves n h = counted_mark _ _ n (omega arith) h
by_kind Two kinds.Leaves n h = counted_mark _ _ n (omega arith) h
by_kind One kinds.Nodes n h = counted_mark _ _ n (omega arith) h
by_kind Two kinds.Nodes n h = counted_mark _ _ n (omega arith) h
by_kind version kinds.LevelEnd n h = plain_mark _ n h
by_kind version kinds.Refuse n h = plain_mark _ n h
by_kind version kinds.AskLook n h = plain_mark _ n h
by_kind version kinds.Found n h = ordered_mark _ _ n h
by_kind version kinds.End n h = plain_mark _ n h
by_kind version kinds.AskMoment n h = plain_mark _ n h
by_kind version (kinds.Power degree) n h = power_mark degree n h
by_kind version kinds.Held n h = plain_mark _ n h
by_kind version kinds.Recall n h = plain_mark _ n h
by_kind One kinds.Marks n h = absurd cc
by_kind Two kinds.Marks n h = marks_mark n h

-- a length that a kind has is that of a mark
pub length_of_mark : (version : Version) (kind : Kind) (n : ℕ) → (shape version kind).has_length n ≡ true → IsLengthOfMark version kind n
length_of_mark version kind n h = let x = by_kind version kind n h in record { mark = x.mark; is_mark = x.is_mark; long = x.long }

-- and the length of a mark is one that the kind has
pub has_length_of_mark : (version : Version) (kind : Kind) (n : ℕ) → IsLengthOfMark version kind n → (shape version kind).has_length n ≡ true
has_length_of_mark version kind n h = rw h.long ((is_shape version kind).lengths h.mark h.is_mark)
