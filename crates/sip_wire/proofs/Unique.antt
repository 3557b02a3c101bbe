-- No spelling begins another.
use Rattle.std.proofs.Common.{◌≡◌, ℕ, suc, ◌+◌, ◌-◌, ◌/◌, ◌≤◌, ◌==◌, if◌then◌else◌, true, Some, List, [], ◌∷◌, ◌++◌, length, take, drop, refl, sym, ap, subst, ◌∙◌, arith, drop_at, take_at}
use Rattle.std.specs.Prelude.{IsTrue, slice_index}
use Rattle.byteorder.specs.Numbers.{big_number-reads_back}
use Rattle.sip_wire.specs.declared.kind.Kind.{Kind}
use Rattle.sip_wire.specs.declared.kind.Kind.TheVariants as kinds
use Rattle.sip_wire.specs.declared.message.Message.{Message}
use Rattle.sip_wire.specs.declared.version.Version.{Version}
use Rattle.sip_wire.specs.Table.{longest_body, Shape, shape, byte_of, element, repeat, size}
use Rattle.sip_wire.specs.Spelling.{in_bytes, kind_of, mark_of, numbers, fits, fits_shape, body_in, body_of, spelling, length_in, mark_in, said_in}
use Rattle.sip_wire.proofs.Shapes.{IsShape, is_shape, body_again, body_length, mark_of_fit}
use Rattle.sip_wire.proofs.Counting.{size_repeat}
use Rattle.sip_wire.proofs.Whole.{degree_in, kind_by, kind_by_again}

-- the length that a spelling states, whatever follows
pub stated : (version : Version) (m : Message) (x : List ℕ) → fits version m ≡ true → length_in (spelling version m ++ x) ≡ length (body_of version m)
unfolding fits spelling in_bytes
stated version m x fit =
    let s = shape version (kind_of m) in
    let is = is_shape version (kind_of m) in
    let long = body_length s (mark_of m) (numbers m) fit in
    let short : length (body_of version m) ≤ longest_body = is.short (length (body_of version m)) (rw long (is.lengths (mark_of m) (mark_of_fit s (mark_of m) (numbers m) fit))) in
    big_number-reads_back 2 (length (body_of version m)) (body_of version m ++ x) (omega arith)

-- behind the head stands the body
pub behind : (version : Version) (m : Message) (x : List ℕ) → drop 3 (spelling version m ++ x) ≡ body_of version m ++ x
unfolding spelling in_bytes
behind version m x = refl

-- in front stands the kind
pub first : (version : Version) (m : Message) (x : List ℕ) → slice_index (spelling version m ++ x) 0 ≡ byte_of (kind_of m)
unfolding spelling
first version m x = refl

-- what is there is the same
some_is : (a b : Kind) → Some a ≡ Some b → a ≡ b
some_is a b e = cc

-- the mark and the numbers of a body of a shape
same_body : (s : Shape) (m n : ℕ) (xs ys : List ℕ) → IsShape s → fits_shape s m xs ≡ true → fits_shape s n ys ≡ true → body_in s m xs ≡ body_in s n ys → (m ≡ n) × (xs ≡ ys)
same_body s m n xs ys is fm fn e =
    let a = body_again s m xs is fm in
    let b = body_again s n ys is fn in
    (a.its_mark ∙ ap (mark_in s) e ∙ sym b.its_mark, a.its_numbers ∙ ap (said_in s) e ∙ sym b.its_numbers)

-- ---- a power's degree by the length of its body

-- the degree that a byte and a length say
degree_by : ℕ → ℕ → ℕ
degree_by byte len = if byte == 0x25 then len / 8 - 1 else 0

-- one coefficient more than the degree, of eight bytes each
power_length : (degree : ℕ) → (0 + size (repeat (suc degree) (element ∷ []))) / 8 - 1 ≡ degree
power_length degree = let e = size_repeat (suc degree) (element ∷ []) in omega (arith, e)

-- the byte of a kind and the length of its body say its degree
says_degree : (version : Version) (kind : Kind) (mark : ℕ) → degree_by (byte_of kind) ((shape version kind).mark_width + size ((shape version kind).fields mark)) ≡ degree_in kind
unfolding degree_by degree_in
says_degree version kinds.Open mark = refl
says_degree version kinds.Updates mark = refl
says_degree version kinds.EndStream mark = refl
says_degree version kinds.Query mark = refl
says_degree version kinds.Reveal mark = refl
says_degree version kinds.Bye mark = refl
says_degree version kinds.Claim mark = refl
says_degree version kinds.Poly mark = refl
says_degree version kinds.Entries mark = refl
says_degree version kinds.Siblings mark = refl
says_degree version kinds.Leaves mark = refl
says_degree version kinds.Nodes mark = refl
says_degree version kinds.LevelEnd mark = refl
says_degree version kinds.Refuse mark = refl
says_degree version kinds.AskLook mark = refl
says_degree version kinds.Found mark = refl
says_degree version kinds.End mark = refl
says_degree version kinds.AskMoment mark = refl
says_degree version (kinds.Power degree) mark = power_length degree
says_degree version kinds.Held mark = refl
says_degree version kinds.Recall mark = refl
says_degree version kinds.Marks mark = refl

-- the kinds of one byte and one length are the same
same_kind : (version : Version) (a b : Kind) (m n : ℕ) → byte_of a ≡ byte_of b
    → (shape version a).mark_width + size ((shape version a).fields m) ≡ (shape version b).mark_width + size ((shape version b).fields n) → a ≡ b
same_kind version a b m n bytes lens =
    let degrees : degree_in a ≡ degree_in b = sym (says_degree version a m) ∙ ap (λ (k : ℕ). degree_by k ((shape version a).mark_width + size ((shape version a).fields m))) bytes ∙ ap (degree_by (byte_of b)) lens ∙ says_degree version b n in
    some_is _ _ (sym (kind_by_again a) ∙ ap (λ (k : ℕ). kind_by k (byte_of a)) degrees ∙ ap (kind_by (degree_in b)) bytes ∙ kind_by_again b)

-- two spellings with whatever follows that are the same bytes have one kind, one mark and one list
-- of numbers
pub prefix_free : (version : Version) (m n : Message) (x y : List ℕ) → IsTrue (fits version m) → IsTrue (fits version n) → spelling version m ++ x ≡ spelling version n ++ y → (kind_of m ≡ kind_of n) × (mark_of m ≡ mark_of n) × (numbers m ≡ numbers n) × (x ≡ y)
unfolding fits
prefix_free version m n x y fm fn e =
    let bytes : byte_of (kind_of m) ≡ byte_of (kind_of n) = sym (first version m x) ∙ ap (λ (b : List ℕ). slice_index b 0) e ∙ first version n y in
    let len : length (body_of version m) ≡ length (body_of version n) = sym (stated version m x fm) ∙ ap length_in e ∙ stated version n y fn in
    let long_m = body_length (shape version (kind_of m)) (mark_of m) (numbers m) fm in
    let long_n = body_length (shape version (kind_of n)) (mark_of n) (numbers n) fn in
    let kinds : kind_of m ≡ kind_of n = same_kind version (kind_of m) (kind_of n) (mark_of m) (mark_of n) bytes (sym long_m ∙ len ∙ long_n) in
    let rest : body_of version m ++ x ≡ body_of version n ++ y = sym (behind version m x) ∙ ap (drop 3) e ∙ behind version n y in
    let bodies : body_of version m ≡ body_of version n = sym (take_at (body_of version m) x (length (body_of version m)) refl) ∙ ap (take (length (body_of version m))) rest ∙ take_at (body_of version n) y (length (body_of version m)) (sym len) in
    let after : x ≡ y = sym (drop_at (body_of version m) x (length (body_of version m)) refl) ∙ ap (drop (length (body_of version m))) rest ∙ drop_at (body_of version n) y (length (body_of version m)) (sym len) in
    let fit : fits_shape (shape version (kind_of n)) (mark_of m) (numbers m) ≡ true = subst (λ (k : Kind). fits_shape (shape version k) (mark_of m) (numbers m) ≡ true) kinds fm in
    let same : body_in (shape version (kind_of n)) (mark_of m) (numbers m) ≡ body_of version n = ap (λ (k : Kind). body_in (shape version k) (mark_of m) (numbers m)) (sym kinds) ∙ bodies in
    let both = same_body (shape version (kind_of n)) (mark_of m) (mark_of n) (numbers m) (numbers n) (is_shape version (kind_of n)) fit fn same in
    (kinds, both.0, both.1, after)
