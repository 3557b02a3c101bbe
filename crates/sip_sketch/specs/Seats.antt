-- What a seat keeps of a stream, and the two numbers by which its file says it.
use Rattle.std.specs.Prelude.{◌≡◌, ℕ, ◌*◌, ◌<◌, ◌≤◌, pos, ◌+ℤ◌, ◌-ℤ◌, nat_abs, ⊤}
use Rattle.sip_field.specs.Moduli.{m61_modulus}
use Rattle.sip_vector.specs.declared.query.Query.{Query}
use Rattle.sip_vector.specs.declared.query.Query.TheVariants as queries
use Rattle.sip_vector.specs.declared.update.Side.{Side}
use Rattle.sip_vector.specs.declared.update.Side.TheVariants.{First}
use Rattle.sip_vector.specs.Streams.{most_weight}
use Rattle.sip_verifier.specs.QuerySeats.{RunningNumbers, root_is, point_is, points_are}
use Rattle.sip_verifier.specs.QuerySeats.{aug_root_is, split_root_is}
use Rattle.sip_sketch.specs.declared.kind.SeatKind.{SeatKind}
use Rattle.sip_sketch.specs.declared.kind.SeatKind.TheVariants.{Above, Entries, Heavy, Products, Sums}

-- a query that a seat of this kind serves: for each of them the same numbers are kept
abbrev pub query_of : SeatKind → Query
query_of Entries = queries.Sub 0 0
query_of (Sums side) = queries.F2 side
query_of Products = queries.Inner
query_of (Heavy side) = queries.Heavy side 1
query_of (Above side) = queries.Above side 1

-- the side whose vector it is about; of both the first
abbrev pub side_of : SeatKind → Side
side_of Entries = First
side_of (Sums side) = side
side_of Products = First
side_of (Heavy side) = side
side_of (Above side) = side

-- the first number: a root, an extension or a hash
abbrev pub first_number : RunningNumbers → ℕ
first_number (root_is value) = value
first_number (point_is value) = value
first_number (points_are first second) = first
first_number (aug_root_is hash total) = hash
first_number (split_root_is hash weight) = hash

-- The second one: the other side's extension, or the total of the side and the greatest weight,
-- which is not below 0; or the weight that is kept beside a hash, which is 0 in a seat: the sketch
-- tells the weights of the sides; and else 0.
abbrev pub second_number : RunningNumbers → ℕ
second_number (root_is value) = 0
second_number (point_is value) = 0
second_number (points_are first second) = second
second_number (aug_root_is hash total) = nat_abs (total +ℤ pos most_weight)
second_number (split_root_is hash weight) = weight

-- what two numbers say that a seat of this kind keeps
abbrev pub numbers_kept : SeatKind → ℕ → ℕ → RunningNumbers
numbers_kept Entries first second = root_is first
numbers_kept (Sums side) first second = point_is first
numbers_kept Products first second = points_are first second
numbers_kept (Heavy side) first second = aug_root_is first (pos second -ℤ pos most_weight)
numbers_kept (Above side) first second = split_root_is first second

-- a number that may stand second in a seat of this kind, whatever is told of the stream
abbrev pub IsSecond : SeatKind → ℕ → Type 0
IsSecond Entries second = second ≡ 0
IsSecond (Sums side) second = second ≡ 0
IsSecond Products second = second < m61_modulus
IsSecond (Heavy side) second = second ≤ 2 * most_weight
IsSecond (Above side) second = second ≡ 0

-- the same numbers, where the weight beside a hash is this one
abbrev pub beside : ℕ → RunningNumbers → RunningNumbers
beside weight (split_root_is hash kept) = split_root_is hash weight
beside weight numbers = numbers

-- no weight is kept beside a hash
abbrev pub IsUnweighed : RunningNumbers → Type 0
IsUnweighed (split_root_is hash weight) = weight ≡ 0
IsUnweighed _ = ⊤
