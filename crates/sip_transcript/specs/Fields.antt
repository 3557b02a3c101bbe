-- The fields of a transcript's head, one behind the other, and the first that is not there.
use Rattle.std.specs.Prelude.{◌≡◌, ℕ, zero, suc, ◌+◌, ◌^◌, Bool, true, false, ◌&&◌, ◌==◌, nat_le}
use Rattle.std.specs.Prelude.{nat_lt, List, [], ◌∷◌, ◌++◌, length, drop, slice_index, Option, Some}
use Rattle.std.specs.Prelude.{None, Result, Ok, Err, if◌then◌else◌}
use Rattle.byteorder.specs.Endian.{big_number}
use Rattle.sip_vector.specs.Limits.{most_share}
use Rattle.sip_vector.specs.declared.query.Query.{Query}
use Rattle.sip_vector.specs.declared.query.Query.TheVariants as queries
use Rattle.sip_wire.specs.declared.kind.Place.TheVariants.{ToHelper}
use Rattle.sip_wire.specs.declared.message.Message.{Message}
use Rattle.sip_wire.specs.declared.message.Message.TheVariants as messages
use Rattle.sip_wire.specs.declared.message.WireFault.{WireFault}
use Rattle.sip_wire.specs.declared.version.Version.{Version}
use Rattle.sip_wire.specs.declared.version.Version.TheVariants.{One}
use Rattle.sip_wire.specs.Reading.{read_frame}
use Rattle.sip_wire.specs.Spelling.{spelling}
use Rattle.sip_wire.specs.Table.{is_element, most_queries}
use Rattle.sip_wire.specs.Transcript.{magic}
use Rattle.sip_wire.specs.Versions.{version_at, deepest}

-- A field says how many bytes it has in front of these; None where they begin with no value of it,
-- or end in it.
abbrev pub Field : Type 0
Field = List ℕ → Option ℕ

-- ---- the fields

-- the bytes begin with these
abbrev pub begins : List ℕ → List ℕ → Bool
begins [] bytes = true
begins (x ∷ xs) [] = false
begins (x ∷ xs) (b ∷ bytes) = b == x && begins xs bytes

-- these bytes
abbrev pub text_field : List ℕ → Field
text_field text bytes = if begins text bytes then Some (length text) else None

-- a byte that passes a test
abbrev pub byte_field : (ℕ → Bool) → Field
byte_field test [] = None
byte_field test (b ∷ bytes) = if test b then Some 1 else None

-- the number of a version
abbrev pub is_version : ℕ → Bool
is_version b = elim (version_at b) [ Some version ↦ true | None ↦ false ]

-- a depth that a version goes to
abbrev pub is_depth : Version → ℕ → Bool
is_depth version b = nat_le 1 b && nat_le b (deepest version)

-- how many queries there may be
abbrev pub is_count : ℕ → Bool
is_count b = nat_le 1 b && nat_le b most_queries

-- whether a query can be asked at a depth, which one of a kind that is not built cannot
abbrev pub fits_at : ℕ → Query → Bool
fits_at depth (queries.Sub lo hi) = nat_le lo hi && nat_lt hi (2 ^ depth)
fits_at depth (queries.Range side lo hi) = nat_le lo hi && nat_lt hi (2 ^ depth)
fits_at depth (queries.F2 side) = true
fits_at depth queries.Inner = true
fits_at depth (queries.Heavy side at_least) = nat_le 1 at_least && nat_lt at_least (2 ^ 63)
fits_at depth (queries.Share side num den) =
    nat_le 1 num && (nat_le num den && nat_le den most_share)
fits_at depth (queries.Above side at_least) = false

-- the query that a message asks, if it asks one
abbrev pub query_of : Message → Option Query
query_of (messages.Query query) = Some query
query_of _ = None

-- the query, if there is one that can be asked at this depth
abbrev pub if_fits : ℕ → Option Query → Option Query
if_fits depth None = None
if_fits depth (Some query) = if fits_at depth query then Some query else None

-- the query that reading a frame gave, if it gave one that can be asked at this depth
abbrev pub asked_at : ℕ → Result (Message × List ℕ) WireFault → Option Query
asked_at depth (Ok (message, rest)) = if_fits depth (query_of message)
asked_at depth (Err fault) = None

-- the frame of a query that can be asked at a depth
abbrev pub query_field : Version → ℕ → Field
query_field version depth bytes =
    elim (asked_at depth (read_frame version ToHelper bytes)) [
      | Some query ↦ Some (length (spelling version (messages.Query query)))
      | None ↦ None
    ]

-- an element in eight bytes
abbrev pub element_field : Field
element_field bytes =
    if nat_le 8 (length bytes) && is_element (big_number 8 bytes) then Some 8 else None

-- ---- the fields of a head

-- fields, so many times
abbrev pub times : ℕ → List Field → List Field
times zero fields = []
times (suc n) fields = fields ++ times n fields

-- a query, and a challenge for each level
abbrev pub ask_fields : Version → ℕ → List Field
ask_fields version depth = query_field version depth ∷ times depth (element_field ∷ [])

-- the version that a byte stands for, and the first where it stands for none
abbrev pub version_of : ℕ → Version
version_of b = elim (version_at b) [ Some version ↦ version | None ↦ One ]

-- The magic, the version, the depth, the number of queries, and each query with its challenges. How
-- many they are, and which values they have, is said by the three bytes behind the magic.
abbrev pub head_fields : List ℕ → List Field
head_fields bytes =
    let version = version_of (slice_index bytes 4) in
    text_field magic ∷ byte_field is_version ∷ byte_field (is_depth version) ∷ byte_field is_count
    ∷ times (slice_index bytes 6) (ask_fields version (slice_index bytes 5))

-- ---- faults

-- where the first field begins that is not there, if one is not
abbrev pub first_fault : List Field → ℕ → List ℕ → Option ℕ
first_fault [] at bytes = None
first_fault (field ∷ fields) at bytes = elim (field bytes) [
  | None ↦ Some at
  | Some size ↦ first_fault fields (at + size) (drop size bytes)
]

-- where bytes stop being a transcript's head, if they do
unfoldable pub head_fault : List ℕ → Option ℕ
head_fault bytes = first_fault (head_fields bytes) 0 bytes

-- ---- fields that are there, and fields that are not

-- these bytes are the fields' values, whatever fields and bytes follow
abbrev pub Passes : List Field → List ℕ → Type 0
Passes fields got = (after : List Field) (at : ℕ) (more : List ℕ)
    → first_fault (fields ++ after) at (got ++ more) ≡ first_fault after (at + length got) more

-- the first of the fields that is not there begins so far behind the front, whatever fields follow
abbrev pub FailsAt : List Field → List ℕ → ℕ → Type 0
FailsAt fields bytes n = (after : List Field) (at : ℕ)
    → first_fault (fields ++ after) at bytes ≡ Some (at + n)
