-- A query's seat: its challenges, its running numbers, and which streams these stand for.
use Rattle.std.specs.Prelude.{◌≡◌, ℕ, ◌^◌, ◌==◌, ◌≤◌, Bool, true, false, ◌&&◌, nat_le, nat_lt, ℤ}
use Rattle.std.specs.Prelude.{nat_abs, List, length, take, All, IsTrue}
use Rattle.sip_field.specs.Moduli.{m61_modulus}
use Rattle.sip_mle.specs.StandsFor.{PointStandsFor}
use Rattle.sip_tree.specs.Blocks.{total_after, weight_after}
use Rattle.sip_tree.specs.StandsFor.{RootStandsFor, AugRootStandsFor, SplitRootStandsFor}
use Rattle.sip_vector.specs.declared.query.Query.{Query}
use Rattle.sip_vector.specs.declared.query.Query.TheVariants.{Sub, Range, F2, Inner, Heavy, Share}
use Rattle.sip_vector.specs.declared.query.Query.TheVariants.{Above}
use Rattle.sip_vector.specs.declared.update.Side.{Side}
use Rattle.sip_vector.specs.declared.update.Side.TheVariants.{First, Second}
use Rattle.sip_vector.specs.declared.update.Update.{Update}
use Rattle.sip_vector.specs.Built.{is_built}
use Rattle.sip_vector.specs.Limits.{most_share}
use Rattle.sip_vector.specs.Splits.{weights}
use Rattle.sip_vector.specs.Streams.{same_side, of_side, most_weight, vector}

-- the running numbers of a seat, by what they are
pub data RunningNumbers : Type 0 where
  -- the root of a side's vector
  root_is : ℕ → RunningNumbers
  -- the extension of a side's vector
  point_is : ℕ → RunningNumbers
  -- the extensions of both sides' vectors
  points_are : ℕ → ℕ → RunningNumbers
  -- the hash of the augmented root of a side's vector, and that vector's sum
  aug_root_is : ℕ → ℤ → RunningNumbers
  -- the hash of the root of a side's split tree, and the sum of that side's weights
  split_root_is : ℕ → ℕ → RunningNumbers

-- what is seen of a seat: its query, a block of challenges, and what it keeps of a stream
pub record Seated : Type 0 where
  pub query : Query
  pub block : List ℕ
  pub running : RunningNumbers

-- the query fits the depth
abbrev pub does_fit : ℕ → Query → Bool
does_fit depth (Sub lo hi) = nat_le lo hi && nat_lt hi (2 ^ depth)
does_fit depth (Range side lo hi) = nat_le lo hi && nat_lt hi (2 ^ depth)
does_fit depth (F2 side) = true
does_fit depth Inner = true
does_fit depth (Heavy side at_least) = nat_le 1 at_least && nat_lt at_least (2 ^ 63)
does_fit depth (Share side num den) = nat_le 1 num && (nat_le num den && nat_le den most_share)
does_fit depth (Above side at_least) = nat_le 1 at_least && nat_lt at_least (2 ^ 63)

-- the query is of a kind whose check stands here, and fits the depth
abbrev pub can_be_asked : ℕ → Query → Bool
can_be_asked depth query = is_built query && does_fit depth query

-- the running numbers are those that a query of this kind needs
abbrev pub keeps : Query → RunningNumbers → Bool
keeps (Sub lo hi) (root_is value) = true
keeps (Range side lo hi) (point_is value) = true
keeps (F2 side) (point_is value) = true
keeps Inner (points_are first second) = true
keeps (Heavy side at_least) (aug_root_is hash total) = true
keeps (Share side num den) (aug_root_is hash total) = true
keeps (Above side at_least) (split_root_is hash weight) = true
keeps _ running = false

-- there is a challenge for each level, and the running numbers are those of the query's kind
abbrev pub is_seat : ℕ → Seated → Bool
is_seat depth s =
    can_be_asked depth s.query && ((length s.block == depth) && keeps s.query s.running)

-- updates of a side change the running numbers of a query
abbrev pub concerns : Query → Side → Bool
concerns (Sub lo hi) side = same_side side First
concerns (Range own lo hi) side = same_side side own
concerns (F2 own) side = same_side side own
concerns Inner side = true
concerns (Heavy own at_least) side = same_side side own
concerns (Share own num den) side = same_side side own
concerns (Above own at_least) side = same_side side own

-- the running numbers of a query, at its block, are those of the stream
abbrev pub RunsOn : ℕ → List Update → Query → List ℕ → RunningNumbers → Type 0
RunsOn depth stream (Sub lo hi) block (root_is value) =
    RootStandsFor m61_modulus block value (vector depth stream First)
RunsOn depth stream (Range side lo hi) block (point_is value) =
    PointStandsFor m61_modulus block value (vector depth stream side)
RunsOn depth stream (F2 side) block (point_is value) =
    PointStandsFor m61_modulus block value (vector depth stream side)
RunsOn depth stream Inner block (points_are first second) =
    PointStandsFor m61_modulus block first (vector depth stream First)
    × PointStandsFor m61_modulus block second (vector depth stream Second)
RunsOn depth stream (Heavy side at_least) block (aug_root_is hash total) =
    AugRootStandsFor m61_modulus block hash total (vector depth stream side)
RunsOn depth stream (Share side num den) block (aug_root_is hash total) =
    AugRootStandsFor m61_modulus block hash total (vector depth stream side)
RunsOn depth stream (Above side at_least) block (split_root_is hash weight) =
    SplitRootStandsFor m61_modulus block hash weight (vector depth stream side)
    (weights depth stream side)
RunsOn depth stream _ block running = ⊥

abbrev pub StandsFor : ℕ → List Update → Seated → Type 0
StandsFor depth stream s = RunsOn depth stream s.query s.block s.running

-- ---- room for more updates

-- A sum that is kept stays within the greatest weight behind each of these updates, and so does a
-- weight behind all of them.
pub record HasRoom (running : RunningNumbers) (updates : List Update) : Type 0 where
  pub sums : (hash : ℕ) (total : ℤ) → running ≡ aug_root_is hash total
      → (k : ℕ) → k ≤ length updates → nat_abs (total_after total (take k updates)) ≤ most_weight
  pub weights : (hash weight : ℕ) → running ≡ split_root_is hash weight
      → weight_after weight updates ≤ most_weight

-- the query is for heavy hitters of this side
abbrev pub is_heavy_of : Query → Side → Bool
is_heavy_of (Heavy own at_least) side = same_side side own
is_heavy_of (Share own num den) side = same_side side own
is_heavy_of _ side = false

-- so does the sum of each seat for heavy hitters of a side, behind this side's updates
abbrev pub HaveRoom : List Seated → List Update → Side → Type 0
HaveRoom seats updates side =
    All (λ s. IsTrue (is_heavy_of s.query side) → HasRoom s.running (of_side updates side)) seats
