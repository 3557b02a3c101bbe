-- The table of frames: which byte stands for each kind, where it may stand, and the fields of its
-- body. A frame is the byte of its kind, the length of the body in two bytes, and the body.
use Rattle.std.specs.Prelude.{◌≡◌, ℕ, zero, suc, ◌+◌, ◌*◌, ◌-◌, ◌%◌, ◌^◌, nat_abs, Bool, true}
use Rattle.std.specs.Prelude.{false, not, ◌&&◌, ◌==◌, nat_lt, nat_le, List, [], ◌∷◌, ◌++◌, find}
use Rattle.std.specs.Prelude.{Option, Some, None}
use Rattle.std.specs.Int.{w64, cast_signed}
use Rattle.std.specs.List.{list_any}
use Rattle.sip_field.specs.Moduli.{m61_modulus}
use Rattle.sip_vector.specs.Limits.{most_depth, most_share}
use Rattle.sip_wire.specs.declared.kind.Kind.{Kind}
use Rattle.sip_wire.specs.declared.kind.Kind.TheVariants as kinds
use Rattle.sip_wire.specs.declared.kind.Place.{Place}
use Rattle.sip_wire.specs.declared.kind.Place.TheVariants as places
use Rattle.sip_wire.specs.declared.version.Version.{Version}
use Rattle.sip_wire.specs.declared.version.Version.TheVariants.{One, Two}
use Rattle.sip_wire.specs.Versions.{version_at, deepest, index_width}

-- the byte of a kind
abbrev pub byte_of : Kind → ℕ
byte_of kinds.Open = 0x01
byte_of kinds.Updates = 0x02
byte_of kinds.EndStream = 0x03
byte_of kinds.Query = 0x04
byte_of kinds.Reveal = 0x05
byte_of kinds.Bye = 0x06
byte_of kinds.Claim = 0x11
byte_of kinds.Poly = 0x12
byte_of kinds.Entries = 0x13
byte_of kinds.Siblings = 0x14
byte_of kinds.Leaves = 0x15
byte_of kinds.Nodes = 0x16
byte_of kinds.LevelEnd = 0x17
byte_of kinds.Refuse = 0x18
byte_of kinds.AskLook = 0x21
byte_of kinds.Found = 0x22
byte_of kinds.End = 0x23
byte_of kinds.AskMoment = 0x24
byte_of (kinds.Power degree) = 0x25
byte_of kinds.Held = 0x26
byte_of kinds.Recall = 0x27
byte_of kinds.Marks = 0x28

-- each kind, and of the powers that of one degree
abbrev pub all_kinds : ℕ → List Kind
all_kinds degree =
    kinds.Open ∷ kinds.Updates ∷ kinds.EndStream ∷ kinds.Query ∷ kinds.Reveal ∷ kinds.Bye
    ∷ kinds.Claim ∷ kinds.Poly ∷ kinds.Entries ∷ kinds.Siblings ∷ kinds.Leaves ∷ kinds.Nodes
    ∷ kinds.LevelEnd ∷ kinds.Refuse ∷ kinds.AskLook ∷ kinds.Found ∷ kinds.End ∷ kinds.AskMoment
    ∷ kinds.Power degree ∷ kinds.Held ∷ kinds.Recall ∷ kinds.Marks ∷ []

-- the degree of the power that is awaited at a place, where one is
abbrev pub degree_at : Place → ℕ
degree_at (places.Power degree) = degree
degree_at _ = 0

-- The kind that a byte stands for at a place. The byte of a power does not say its degree: the
-- place does.
abbrev pub kind_at : Place → ℕ → Option Kind
kind_at place byte = find (λ kind. byte == byte_of kind) (all_kinds (degree_at place))

-- which kinds stand in a version: marks in version 2 alone
abbrev pub stands_in : Kind → Version → Bool
stands_in kinds.Marks One = false
stands_in _ _ = true

-- which kinds may stand at a place
abbrev pub allows : Place → Kind → Bool
allows places.ToHelper kinds.Open = true
allows places.ToHelper kinds.Updates = true
allows places.ToHelper kinds.EndStream = true
allows places.ToHelper kinds.Query = true
allows places.ToHelper kinds.Reveal = true
allows places.ToHelper kinds.Bye = true
allows places.ToHelper _ = false
allows places.ToVerifier kinds.Open = false
allows places.ToVerifier kinds.Updates = false
allows places.ToVerifier kinds.EndStream = false
allows places.ToVerifier kinds.Query = false
allows places.ToVerifier kinds.Reveal = false
allows places.ToVerifier kinds.Bye = false
allows places.ToVerifier kinds.AskLook = false
allows places.ToVerifier kinds.Found = false
allows places.ToVerifier kinds.End = false
allows places.ToVerifier kinds.AskMoment = false
allows places.ToVerifier (kinds.Power degree) = false
allows places.ToVerifier kinds.Held = false
allows places.ToVerifier kinds.Recall = false
allows places.ToVerifier kinds.Marks = false
allows places.ToVerifier _ = true
allows places.AskedLook kinds.AskLook = true
allows places.AskedLook kinds.End = true
allows places.AskedLook _ = false
allows places.AskedMoment kinds.AskMoment = true
allows places.AskedMoment kinds.End = true
allows places.AskedMoment _ = false
allows places.AskedQuestion kinds.Open = true
allows places.AskedQuestion kinds.Updates = true
allows places.AskedQuestion kinds.EndStream = true
allows places.AskedQuestion kinds.Query = true
allows places.AskedQuestion kinds.Reveal = true
allows places.AskedQuestion kinds.Bye = true
allows places.AskedQuestion kinds.AskLook = true
allows places.AskedQuestion kinds.AskMoment = true
allows places.AskedQuestion kinds.Recall = true
allows places.AskedQuestion _ = false
allows places.Held kinds.Held = true
allows places.Held _ = false
allows places.Entries kinds.Entries = true
allows places.Entries kinds.Siblings = true
allows places.Siblings kinds.Siblings = true
allows places.Claim kinds.Claim = true
allows places.Poly kinds.Poly = true
allows places.Leaves kinds.Leaves = true
allows places.Leaves kinds.LevelEnd = true
allows places.Nodes kinds.Nodes = true
allows places.Nodes kinds.LevelEnd = true
allows places.Found kinds.Found = true
allows places.Marks kinds.Marks = true
allows places.Marks kinds.LevelEnd = true
allows (places.Power awaited) (kinds.Power degree) = degree == awaited
allows _ kinds.Refuse = true
allows _ _ = false

-- ---- numbers

-- how many queries a talk has at most
abbrev pub most_queries : ℕ
most_queries = 16

-- the codes of a refusal are 1 to 4
abbrev pub most_refusal : ℕ
most_refusal = 4

-- how many updates, entries or leaves a frame has at most
abbrev pub most_rows : ℕ
most_rows = 512

-- how many nodes or marks it has at most
abbrev pub most_nodes : ℕ
most_nodes = 256

-- the greatest degree of a power
abbrev pub most_degree : ℕ
most_degree = 8

-- the greatest absolute value of a claim and of an entry
abbrev pub most_claim : ℕ
most_claim = 2 ^ 60 - 1

-- the greatest threshold
abbrev pub most_threshold : ℕ
most_threshold = 2 ^ 63 - 1

-- how many bytes a body has at most, that of updates in full with wide items, and the frame around
-- it
abbrev pub longest_body : ℕ
longest_body = 8706

abbrev pub longest_frame : ℕ
longest_frame = 8709

-- a residue modulo 2^61 - 1
abbrev pub is_element : ℕ → Bool
is_element n = nat_lt n m61_modulus

-- the two's complement of a signed number that a claim may be
abbrev pub is_small : ℕ → Bool
is_small n = nat_le (nat_abs (cast_signed w64 n)) most_claim

-- ---- fields

-- a field of a body: its width in bytes, and which numbers it may hold
pub record Field : Type 0 where
  pub width : ℕ
  pub holds : ℕ → Bool

-- a field by its parts
abbrev pub field : ℕ → (ℕ → Bool) → Field
field width holds = record { width = width; holds = holds }

-- a number from `least` to `most`
abbrev pub ranging : ℕ → ℕ → ℕ → Field
ranging width least most = field width (λ n. nat_le least n && nat_le n most)

-- any number that has room
abbrev pub any_number : ℕ → Field
any_number width = field width (λ _. true)

-- an item, or the index of an entry or a node
abbrev pub index : Version → Field
index version = any_number (index_width version)

-- 0 or 1
abbrev pub side : Field
side = ranging 1 0 1

-- an element of the field
abbrev pub element : Field
element = field 8 is_element

-- an opening: the number of a version, and a depth
abbrev pub opening_fields : List Field
opening_fields = ranging 1 1 2 ∷ ranging 1 1 most_depth ∷ []

-- the code of a lookup, and its item; which of them may be asked is not said here
abbrev pub look_fields : List Field
look_fields = any_number 1 ∷ any_number 8 ∷ []

-- whether a place was found, and which
abbrev pub found_fields : List Field
found_fields = ranging 1 0 1 ∷ any_number 8 ∷ []

-- the side and the degree of a moment; which of them may be asked is not said here
abbrev pub moment_fields : List Field
moment_fields = any_number 1 ∷ any_number 1 ∷ []

-- how many records a helper holds, the weight of each side, and their fingerprint
abbrev pub held_fields : List Field
held_fields = any_number 8 ∷ any_number 8 ∷ any_number 8 ∷ any_number 8 ∷ []

-- how many records are to be held
abbrev pub recall_fields : List Field
recall_fields = any_number 8 ∷ []

-- a record of the stream: its side, its item and its delta
abbrev pub update_fields : Version → List Field
update_fields version = side ∷ index version ∷ field 8 (λ n. not (n == 0)) ∷ []

-- an entry: its index and its value
abbrev pub entry_fields : Version → List Field
entry_fields version = index version ∷ field 8 (λ n. not (n == 0) && is_small n) ∷ []

-- an item and its count
abbrev pub leaf_fields : Version → List Field
leaf_fields version = index version ∷ element ∷ []

-- a node's index, hash and count
abbrev pub node_fields : Version → List Field
node_fields version = index version ∷ element ∷ element ∷ []

-- an item, its value and its weight
abbrev pub mark_fields : List Field
mark_fields = any_number 8 ∷ field 8 is_small ∷ element ∷ []

-- the codes of the queries
abbrev pub query_codes : Version → List ℕ
query_codes One = 1 ∷ 2 ∷ 3 ∷ 4 ∷ 5 ∷ []
query_codes Two = 1 ∷ 2 ∷ 3 ∷ 4 ∷ 5 ∷ 6 ∷ 7 ∷ []

-- the flags of siblings
abbrev pub sibling_flags : List ℕ
sibling_flags = 0 ∷ 1 ∷ 2 ∷ 3 ∷ []

-- the fields behind the code of a query: the sub-vector, the range, the second moment, the inner
-- product, the heavy items, the items of a share, the large items of any stream
abbrev pub query_fields : Version → ℕ → List Field
query_fields version (suc zero) = index version ∷ index version ∷ []
query_fields version (suc (suc zero)) = side ∷ index version ∷ index version ∷ []
query_fields version (suc (suc (suc zero))) = side ∷ []
query_fields version (suc (suc (suc (suc (suc zero))))) = side ∷ ranging 8 1 most_threshold ∷ []
query_fields version (suc (suc (suc (suc (suc (suc zero)))))) =
    side ∷ ranging 4 1 most_share ∷ ranging 4 1 most_share ∷ []
query_fields version (suc (suc (suc (suc (suc (suc (suc zero))))))) =
    side ∷ ranging 8 1 most_threshold ∷ []
query_fields version _ = []

-- the fields behind the flags of siblings: the left one at bit 0, the right one at bit 1
abbrev pub sibling_fields : ℕ → List Field
sibling_fields (suc zero) = element ∷ []
sibling_fields (suc (suc zero)) = element ∷ []
sibling_fields (suc (suc (suc zero))) = element ∷ element ∷ []
sibling_fields _ = []

-- the fields of so many rows
abbrev pub repeat : ℕ → List Field → List Field
repeat zero fields = []
repeat (suc n) fields = fields ++ repeat n fields

-- how many bytes fields take
abbrev pub size : List Field → ℕ
size [] = 0
size (f ∷ fs) = f.width + size fs

-- ---- shapes

-- What bodies look like. A body begins with a mark, in so many bytes: a count, the code of a query
-- or the flags of siblings. The mark of the other kinds is 0 and takes none. Behind it stand the
-- fields that go with the mark. `in_order` is what is asked of several numbers at once, and
-- `has_length` says which lengths the marks give a body.
pub record Shape : Type 0 where
  pub mark_width : ℕ
  pub is_mark : ℕ → Bool
  pub fields : ℕ → List Field
  pub in_order : ℕ → List ℕ → Bool
  pub has_length : ℕ → Bool

-- one of a few marks of one byte, and the fields that go with it
abbrev pub marked : List ℕ → (ℕ → List Field) → (ℕ → List ℕ → Bool) → Shape
marked marks fields in_order = record {
  mark_width = 1;
  is_mark = λ n. list_any (λ mark. n == mark) marks;
  fields = fields;
  in_order = in_order;
  has_length = λ n. list_any (λ mark. n == 1 + size (fields mark)) marks;
}

-- the same fields in each body, whose numbers are in order
abbrev pub ordered : List Field → (List ℕ → Bool) → Shape
ordered fs in_order = record {
  mark_width = 0;
  is_mark = λ n. n == 0;
  fields = λ _. fs;
  in_order = λ _. in_order;
  has_length = λ n. n == size fs;
}

-- the same fields in each body
abbrev pub plain : List Field → Shape
plain fs = ordered fs (λ _. true)

-- a count from 1 to `most` in two bytes, and that many rows
abbrev pub counted : ℕ → List Field → Shape
counted most layout = record {
  mark_width = 2;
  is_mark = λ n. nat_le 1 n && nat_le n most;
  fields = λ n. repeat n layout;
  in_order = λ _ _. true;
  has_length =
      λ n. nat_le (2 + size layout) n && nat_le n (2 + most * size layout)
      && ((n - 2) % size layout == 0);
}

-- an opening is of a version that there is, and no deeper than that goes
abbrev pub opens : List ℕ → Bool
opens (number ∷ depth ∷ []) =
    elim (version_at number) [ Some version ↦ nat_le depth (deepest version) | None ↦ false ]
opens _ = false

-- the ends of an interval are in order, and a share is 1 at the most
abbrev pub ends_in_order : ℕ → List ℕ → Bool
ends_in_order (suc zero) (lo ∷ hi ∷ []) = nat_le lo hi
ends_in_order (suc (suc zero)) (_ ∷ lo ∷ hi ∷ []) = nat_le lo hi
ends_in_order (suc (suc (suc (suc (suc (suc zero)))))) (_ ∷ num ∷ den ∷ []) = nat_le num den
ends_in_order _ _ = true

-- the code of a query, and its fields
abbrev pub query_shape : Version → Shape
query_shape version = marked (query_codes version) (query_fields version) ends_in_order

-- flags, and the siblings that are present
abbrev pub siblings_shape : Shape
siblings_shape = marked sibling_flags sibling_fields (λ _ _. true)

-- a place is 0 where none was found
abbrev pub found_in_order : List ℕ → Bool
found_in_order (zero ∷ index ∷ []) = index == 0
found_in_order _ = true

-- the coefficients of a power, of one more than its degree, and of no higher one than there is
abbrev pub power_shape : ℕ → Shape
power_shape degree = record {
  mark_width = 0;
  is_mark = λ n. nat_le degree most_degree && (n == 0);
  fields = λ _. repeat (suc degree) (element ∷ []);
  in_order = λ _ _. true;
  has_length = λ n. nat_le degree most_degree && (n == 8 * (degree + 1));
}

-- the value of each mark is at most its weight
abbrev pub within_weights : List ℕ → Bool
within_weights (item ∷ value ∷ weight ∷ ns) =
    nat_le (nat_abs (cast_signed w64 value)) weight && within_weights ns
within_weights _ = true

-- a count and that many marks, where marks stand in a version
abbrev pub marks_shape : Bool → Shape
marks_shape stands = record {
  mark_width = 2;
  is_mark = λ n. stands && (counted most_nodes mark_fields).is_mark n;
  fields = λ n. repeat n mark_fields;
  in_order = λ _ ns. within_weights ns;
  has_length = λ n. stands && (counted most_nodes mark_fields).has_length n;
}

-- what bodies of each kind look like in a version
abbrev pub shape : Version → Kind → Shape
shape version kinds.Open = ordered opening_fields opens
shape version kinds.Updates = counted most_rows (update_fields version)
shape version kinds.EndStream = plain []
shape version kinds.Query = query_shape version
shape version kinds.Reveal = plain (element ∷ [])
shape version kinds.Bye = plain []
shape version kinds.Claim = plain (field 8 is_small ∷ [])
shape version kinds.Poly = plain (element ∷ element ∷ element ∷ [])
shape version kinds.Entries = counted most_rows (entry_fields version)
shape version kinds.Siblings = siblings_shape
shape version kinds.Leaves = counted most_rows (leaf_fields version)
shape version kinds.Nodes = counted most_nodes (node_fields version)
shape version kinds.LevelEnd = plain []
shape version kinds.Refuse = plain (ranging 1 1 most_refusal ∷ [])
shape version kinds.AskLook = plain look_fields
shape version kinds.Found = ordered found_fields found_in_order
shape version kinds.End = plain []
shape version kinds.AskMoment = plain moment_fields
shape version (kinds.Power degree) = power_shape degree
shape version kinds.Held = plain held_fields
shape version kinds.Recall = plain recall_fields
shape version kinds.Marks = marks_shape (stands_in kinds.Marks version)

-- a body of this kind is so long with some mark
pub record IsLengthOfMark (version : Version) (kind : Kind) (n : ℕ) : Type 0 where
  pub mark : ℕ
  pub is_mark : (shape version kind).is_mark mark ≡ true
  pub long : n ≡ (shape version kind).mark_width + size ((shape version kind).fields mark)
