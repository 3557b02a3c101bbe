-- The one spelling of a message, and which fault comes where bytes are none.
use Rattle.std.specs.Prelude.{◌≡◌, ℕ, ◌+◌, ◌-◌, ◌^◌, Bool, true, false, not, ◌&&◌, ◌==◌, nat_lt}
use Rattle.std.specs.Prelude.{List, [], ◌∷◌, ◌++◌, length, drop, slice_index, Option, Some, None}
use Rattle.std.specs.Prelude.{Result, MatchResult, All, if◌then◌else◌}
use Rattle.std.specs.List.{flat_map}
use Rattle.std.specs.Int.{w64, cast_unsigned}
use Rattle.byteorder.specs.Endian.{big_number, big_bytes}
use Rattle.sip_vector.specs.declared.update.Side.{Side}
use Rattle.sip_vector.specs.declared.update.Side.TheVariants as sides
use Rattle.sip_vector.specs.declared.update.Update.{Update}
use Rattle.sip_vector.specs.declared.update.Entry.{Entry}
use Rattle.sip_vector.specs.declared.query.Query.{Query}
use Rattle.sip_vector.specs.declared.query.Query.TheVariants as queries
use Rattle.sip_wire.specs.declared.message.Leaf.{Leaf}
use Rattle.sip_wire.specs.declared.message.Node.{Node}
use Rattle.sip_wire.specs.declared.message.Held.{Held}
use Rattle.sip_wire.specs.declared.message.Mark.{Mark}
use Rattle.sip_wire.specs.declared.message.Message.{Message}
use Rattle.sip_wire.specs.declared.message.Message.TheVariants as messages
use Rattle.sip_wire.specs.declared.message.WireFault.{WireFault}
use Rattle.sip_wire.specs.declared.message.WireFault.TheVariants as faults
use Rattle.sip_wire.specs.declared.kind.Kind.{Kind}
use Rattle.sip_wire.specs.declared.kind.Kind.TheVariants as kinds
use Rattle.sip_wire.specs.declared.kind.Place.{Place}
use Rattle.sip_wire.specs.declared.version.Version.{Version}
use Rattle.sip_wire.specs.Table.{Field, size, Shape, shape, query_fields, ends_in_order, kind_at}
use Rattle.sip_wire.specs.Table.{byte_of, allows, stands_in}
use Rattle.sip_wire.specs.Values.{InRange}
use Rattle.arrayvec.specs.ArrayVec.{ArrayVec}

-- the number of a side
abbrev pub side_number : Side → ℕ
side_number sides.First = 0
side_number sides.Second = 1

-- the numbers of a row, a signed one as two's complement
abbrev pub update_numbers : Update → List ℕ
update_numbers u = side_number u.side ∷ u.item ∷ cast_unsigned w64 u.delta ∷ []

abbrev pub entry_numbers : Entry → List ℕ
entry_numbers e = e.index ∷ cast_unsigned w64 e.value ∷ []

abbrev pub leaf_numbers : Leaf → List ℕ
leaf_numbers l = l.item ∷ l.count ∷ []

abbrev pub node_numbers : Node → List ℕ
node_numbers n = n.index ∷ n.hash ∷ n.count ∷ []

abbrev pub mark_numbers : Mark → List ℕ
mark_numbers m = m.item ∷ cast_unsigned w64 m.value ∷ m.weight ∷ []

abbrev pub coefficient_numbers : ℕ → List ℕ
coefficient_numbers c = c ∷ []

-- the numbers of what a helper holds
abbrev pub held_numbers : Held → List ℕ
held_numbers h = h.records ∷ h.first ∷ h.second ∷ h.fingerprint ∷ []

-- the code of a query
abbrev pub query_code : Query → ℕ
query_code (queries.Sub _ _) = 1
query_code (queries.Range _ _ _) = 2
query_code (queries.F2 _) = 3
query_code queries.Inner = 4
query_code (queries.Heavy _ _) = 5
query_code (queries.Share _ _ _) = 6
query_code (queries.Above _ _) = 7

-- the numbers behind it
abbrev pub query_numbers : Query → List ℕ
query_numbers (queries.Sub lo hi) = lo ∷ hi ∷ []
query_numbers (queries.Range side lo hi) = side_number side ∷ lo ∷ hi ∷ []
query_numbers (queries.F2 side) = side_number side ∷ []
query_numbers queries.Inner = []
query_numbers (queries.Heavy side at_least) = side_number side ∷ at_least ∷ []
query_numbers (queries.Share side num den) = side_number side ∷ num ∷ den ∷ []
query_numbers (queries.Above side at_least) = side_number side ∷ at_least ∷ []

-- a bit that says whether a number is there
abbrev pub flag : Option ℕ → ℕ → ℕ
flag None bit = 0
flag (Some _) bit = bit

-- the number, if it is there
abbrev pub present : Option ℕ → List ℕ
present None = []
present (Some n) = n ∷ []

-- the kind of a message; a power of as many coefficients is of one degree less
abbrev pub kind_of : Message → Kind
kind_of (messages.Open _ _) = kinds.Open
kind_of (messages.Updates _) = kinds.Updates
kind_of messages.EndStream = kinds.EndStream
kind_of (messages.Query _) = kinds.Query
kind_of (messages.Reveal _) = kinds.Reveal
kind_of messages.Bye = kinds.Bye
kind_of (messages.Claim _) = kinds.Claim
kind_of (messages.Poly _ _ _) = kinds.Poly
kind_of (messages.Entries _) = kinds.Entries
kind_of (messages.Siblings _ _) = kinds.Siblings
kind_of (messages.Leaves _) = kinds.Leaves
kind_of (messages.Nodes _) = kinds.Nodes
kind_of messages.LevelEnd = kinds.LevelEnd
kind_of (messages.Refuse _) = kinds.Refuse
kind_of (messages.AskLook _ _) = kinds.AskLook
kind_of (messages.Found _ _) = kinds.Found
kind_of messages.End = kinds.End
kind_of (messages.AskMoment _ _) = kinds.AskMoment
kind_of (messages.Power v) = kinds.Power (length v.items - 1)
kind_of (messages.Held _) = kinds.Held
kind_of (messages.Recall _) = kinds.Recall
kind_of (messages.Marks _) = kinds.Marks

-- the count, the code or the flags
abbrev pub mark_of : Message → ℕ
mark_of (messages.Updates v) = length v.items
mark_of (messages.Query q) = query_code q
mark_of (messages.Entries v) = length v.items
mark_of (messages.Siblings left right) = flag left 1 + flag right 2
mark_of (messages.Leaves v) = length v.items
mark_of (messages.Nodes v) = length v.items
mark_of (messages.Marks v) = length v.items
mark_of _ = 0

-- the numbers behind the mark
abbrev pub numbers : Message → List ℕ
numbers (messages.Open version depth) = version ∷ depth ∷ []
numbers (messages.Updates v) = flat_map update_numbers v.items
numbers (messages.Query q) = query_numbers q
numbers (messages.Reveal challenge) = challenge ∷ []
numbers (messages.Claim value) = cast_unsigned w64 value ∷ []
numbers (messages.Poly c0 c1 c2) = c0 ∷ c1 ∷ c2 ∷ []
numbers (messages.Entries v) = flat_map entry_numbers v.items
numbers (messages.Siblings left right) = present left ++ present right
numbers (messages.Leaves v) = flat_map leaf_numbers v.items
numbers (messages.Nodes v) = flat_map node_numbers v.items
numbers (messages.Refuse code) = code ∷ []
numbers (messages.AskLook code item) = code ∷ item ∷ []
numbers (messages.Found flag index) = flag ∷ index ∷ []
numbers (messages.AskMoment side degree) = side ∷ degree ∷ []
numbers (messages.Power v) = flat_map coefficient_numbers v.items
numbers (messages.Held held) = held_numbers held
numbers (messages.Recall count) = count ∷ []
numbers (messages.Marks v) = flat_map mark_numbers v.items
numbers _ = []

-- ---- fields as bytes

-- a number in so many bytes, the highest first
unfoldable pub in_bytes : ℕ → ℕ → List ℕ
in_bytes width n = big_bytes width n

-- the bytes of the numbers, each in its field's width
unfoldable pub spelled : List Field → List ℕ → List ℕ
spelled [] ns = []
spelled (f ∷ fs) [] = []
spelled (f ∷ fs) (n ∷ ns) = in_bytes f.width n ++ spelled fs ns

-- the numbers that bytes hold in these fields
unfoldable pub numbers_in : List Field → List ℕ → List ℕ
numbers_in [] bytes = []
numbers_in (f ∷ fs) bytes = big_number f.width bytes ∷ numbers_in fs (drop f.width bytes)

-- there is one number for each field, and it has room there
unfoldable pub has_room : List Field → List ℕ → Bool
has_room [] [] = true
has_room [] (n ∷ ns) = false
has_room (f ∷ fs) [] = false
has_room (f ∷ fs) (n ∷ ns) = nat_lt n (256 ^ f.width) && has_room fs ns

-- each field may hold its number
unfoldable pub all_hold : List Field → List ℕ → Bool
all_hold [] ns = true
all_hold (f ∷ fs) [] = false
all_hold (f ∷ fs) (n ∷ ns) = f.holds n && all_hold fs ns

-- ---- spelling

-- the mark and the numbers fit a shape
abbrev pub fits_shape : Shape → ℕ → List ℕ → Bool
fits_shape s mark ns =
    s.is_mark mark && has_room (s.fields mark) ns && s.in_order mark ns
    && all_hold (s.fields mark) ns

-- the body of a mark and numbers
abbrev pub body_in : Shape → ℕ → List ℕ → List ℕ
body_in s mark ns = in_bytes s.mark_width mark ++ spelled (s.fields mark) ns

-- whether a message has a spelling in a version
unfoldable pub fits : Version → Message → Bool
fits version m = fits_shape (shape version (kind_of m)) (mark_of m) (numbers m)

-- the body of a message
abbrev pub body_of : Version → Message → List ℕ
body_of version m = body_in (shape version (kind_of m)) (mark_of m) (numbers m)

-- the one spelling of a message that fits: the byte of its kind, the length of its body, and the
-- body
unfoldable pub spelling : Version → Message → List ℕ
spelling version m =
    byte_of (kind_of m) ∷ in_bytes 2 (length (body_of version m)) ++ body_of version m

-- ---- what bytes say

-- the mark of a body
abbrev pub mark_in : Shape → List ℕ → ℕ
mark_in s body = big_number s.mark_width body

-- whether a mark asks for a body of this length
abbrev pub mark_fits : Shape → ℕ → ℕ → Bool
mark_fits s mark len = s.is_mark mark && (s.mark_width + size (s.fields mark) == len)

-- the numbers behind it
abbrev pub said_in : Shape → List ℕ → List ℕ
said_in s body = numbers_in (s.fields (mark_in s body)) (drop s.mark_width body)

-- the fault of a body of a length that its kind has
unfoldable pub body_fault : Shape → List ℕ → Option WireFault
body_fault s body =
    if not (mark_fits s (mark_in s body) (length body)) then Some faults.BadCount
    else if not
    (s.in_order (mark_in s body) (said_in s body)
    && all_hold (s.fields (mark_in s body)) (said_in s body)) then Some faults.BadNumber
    else None

-- a mark and numbers are what stands in a body
pub record Stands (s : Shape) (body : List ℕ) (mark : ℕ) (ns : List ℕ) : Type 0 where
  pub its_mark : mark ≡ mark_in s body
  pub its_numbers : ns ≡ said_in s body
  pub no_fault : body_fault s body ≡ None

-- what reading a body answers: the message that it says, or its fault
abbrev pub ReadsBody : Version → Kind → List ℕ → Result Message WireFault → Type 0
ReadsBody version kind body result = MatchResult result
    (λ m. (kind_of m ≡ kind) × Stands (shape version kind) body (mark_of m) (numbers m) × InRange m)
    (λ f. body_fault (shape version kind) body ≡ Some f)

-- the same for a query behind its code
abbrev pub ReadsQuery : Version → ℕ → List ℕ → Option Query → Type 0
ReadsQuery version code rest result =
    let ns = numbers_in (query_fields version code) rest in
    let holds = ends_in_order code ns && all_hold (query_fields version code) ns in
    elim result [
      | Some query ↦ (query_code query ≡ code) × (query_numbers query ≡ ns) × (holds ≡ true)
      | None ↦ holds ≡ false
    ]

-- the same for rows behind their count
abbrev pub ReadsRows : {T : Type 0} → (T → List ℕ) → (T → Type 0) → Shape → List ℕ
    → Result (ArrayVec T) WireFault → Type 0
ReadsRows said in_range s body result = MatchResult result
    (λ v. Stands s body (length v.items) (flat_map said v.items) × All in_range v.items)
    (λ f. body_fault s body ≡ Some f)

-- ---- frames

-- how long the body is, by the bytes behind the kind
abbrev pub length_in : List ℕ → ℕ
length_in bytes = big_number 2 (drop 1 bytes)

-- the fault of what begins with three bytes, by its kind
unfoldable pub kind_fault : Version → Place → Option Kind → List ℕ → Option WireFault
kind_fault version place None bytes = Some faults.BadKind
kind_fault version place (Some kind) bytes =
    if not (allows place kind && stands_in kind version) then Some faults.BadKind
    else if not ((shape version kind).has_length (length_in bytes)) then Some faults.BadLength
    else if nat_lt (length bytes) (3 + length_in bytes) then Some faults.Closed
    else body_fault (shape version kind) (drop 3 bytes)

-- the fault of what was received of a frame, up to the end of the link or of the frame
unfoldable pub frame_fault : Version → Place → List ℕ → Option WireFault
frame_fault version place bytes =
    if nat_lt (length bytes) 3 then Some faults.Closed
    else kind_fault version place (kind_at place (slice_index bytes 0)) bytes

-- how many bytes a frame has that begins so: three, and the body where kind and length pass
abbrev pub asked_by : Version → Place → Option Kind → List ℕ → ℕ
asked_by version place None bytes = 3
asked_by version place (Some kind) bytes =
    if allows place kind && (shape version kind).has_length (length_in bytes)
    then 3 + length_in bytes else 3

-- the same, by the byte in front
unfoldable pub asked : Version → Place → List ℕ → ℕ
asked version place bytes = asked_by version place (kind_at place (slice_index bytes 0)) bytes
