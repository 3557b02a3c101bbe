-- The versions of a talk's frames. They differ in the width of an item, and in what version 2
-- alone has: two codes of queries, and a kind of frames.
use Rattle.std.specs.Prelude.{ℕ, zero, suc, ◌≤◌, Bool, true, false, not, ◌||◌, nat_lt, IsTrue, List}
use Rattle.std.specs.Prelude.{Option, Some, None, if◌then◌else◌}
use Rattle.std.specs.List.{list_any}
use Rattle.sip_vector.specs.declared.query.Query.{Query}
use Rattle.sip_vector.specs.declared.query.Query.TheVariants as queries
use Rattle.sip_vector.specs.Limits.{most_depth, most_narrow_depth}
use Rattle.sip_wire.specs.declared.version.Version.{Version}
use Rattle.sip_wire.specs.declared.version.Version.TheVariants.{One, Two}

-- the number of a version
abbrev pub number_of : Version → ℕ
number_of One = 1
number_of Two = 2

-- the version of a number
abbrev pub version_at : ℕ → Option Version
version_at (suc zero) = Some One
version_at (suc (suc zero)) = Some Two
version_at _ = None

-- the greatest depth of a talk
abbrev pub deepest : Version → ℕ
deepest One = most_narrow_depth
deepest Two = most_depth

-- how many bytes an index has, of an item or of a node
abbrev pub index_width : Version → ℕ
index_width One = 4
index_width Two = 8

-- the query has a code in version 2 alone
abbrev pub is_of_two : Query → Bool
is_of_two (queries.Share _ _ _) = true
is_of_two (queries.Above _ _) = true
is_of_two _ = false

-- which queries have a code
abbrev pub speaks : Version → Query → Bool
speaks One query = not (is_of_two query)
speaks Two query = true

-- a query can be asked at a depth
pub record Speaks (version : Version) (depth : ℕ) (query : Query) : Type 0 where
  pub shallow : depth ≤ deepest version
  pub has_code : IsTrue (speaks version query)

-- the least version in which these queries can be asked at a depth
abbrev pub needed : ℕ → List Query → Version
needed depth queries =
    if nat_lt most_narrow_depth depth || list_any is_of_two queries then Two else One
