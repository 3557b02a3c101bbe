-- Running numbers as they are kept, with their challenges, and how those of two streams add up.
use Rattle.std.specs.Prelude.{ℕ, ◌+◌, ◌%◌, ◌≤◌, Bool, true, false, ◌+ℤ◌, nat_abs, List}
use Rattle.sip_field.specs.Elements.{m61_number}
use Rattle.sip_field.specs.Moduli.{m61_modulus}
use Rattle.sip_vector.specs.declared.query.Query.{Query}
use Rattle.sip_vector.specs.declared.update.Update.{Update}
use Rattle.sip_vector.specs.Streams.{most_weight}
use Rattle.sip_verifier.specs.declared.running.Running.{Running}
use Rattle.sip_verifier.specs.declared.running.Running.TheVariants.{Root, Point, Points, AugRoot}
use Rattle.sip_verifier.specs.declared.running.Running.TheVariants.{SplitRoot}
use Rattle.sip_verifier.specs.QuerySeats.{RunningNumbers, RunsOn, root_is, point_is, points_are}
use Rattle.sip_verifier.specs.QuerySeats.{aug_root_is, split_root_is}

-- their challenges
abbrev pub block_of : Running → List ℕ
block_of (Root root) = root.seat
block_of (Point point) = point.seat
block_of (Points points) = points.first.seat
block_of (AugRoot root) = root.seat
block_of (SplitRoot root) = root.seat

-- their values
abbrev pub numbers_of : Running → RunningNumbers
numbers_of (Root root) = root_is root.value
numbers_of (Point point) = point_is point.value
numbers_of (Points points) = points_are points.first.value (m61_number points.second)
numbers_of (AugRoot root) = aug_root_is root.hash root.total
numbers_of (SplitRoot root) = split_root_is root.hash root.weight

-- they are those of the stream for this query
pub record RunsFor (depth : ℕ) (stream : List Update) (query : Query)
    (running : Running) : Type 0 where
  pub runs : RunsOn depth stream query (block_of running) (numbers_of running)

-- ---- the numbers of two streams

-- both are of one kind
abbrev pub same_kind : RunningNumbers → RunningNumbers → Bool
same_kind (root_is one) (root_is other) = true
same_kind (point_is one) (point_is other) = true
same_kind (points_are one second) (points_are other more) = true
same_kind (aug_root_is one total) (aug_root_is other more) = true
same_kind (split_root_is one weight) (split_root_is other more) = true
same_kind _ _ = false

-- a sum or a weight that is kept stays within the greatest weight
abbrev pub FitTogether : RunningNumbers → RunningNumbers → Type 0
FitTogether (aug_root_is one total) (aug_root_is other more) =
    nat_abs (total +ℤ more) ≤ most_weight
FitTogether (split_root_is one weight) (split_root_is other more) = weight + more ≤ most_weight
FitTogether _ _ = Unit {0}

-- The numbers of one stream and of another, added up: each modulo the order of the field, and the
-- sum of a vector or of its weights as it is. Of two kinds there is no such sum.
abbrev pub added_up : RunningNumbers → RunningNumbers → RunningNumbers
added_up (root_is one) (root_is other) = root_is ((one + other) % m61_modulus)
added_up (point_is one) (point_is other) = point_is ((one + other) % m61_modulus)
added_up (points_are one second) (points_are other more) =
    points_are ((one + other) % m61_modulus) ((second + more) % m61_modulus)
added_up (aug_root_is one total) (aug_root_is other more) =
    aug_root_is ((one + other) % m61_modulus) (total +ℤ more)
added_up (split_root_is one weight) (split_root_is other more) =
    split_root_is ((one + other) % m61_modulus) (weight + more)
added_up one _ = one
