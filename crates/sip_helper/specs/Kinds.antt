-- The kinds of query, a line for each: its items, its row, and its prover.
use Rattle.std.specs.Prelude.{ℕ, ◌^◌, Bool, true, nat_lt, List}
use Rattle.sip_vector.specs.declared.query.Query.{Query}
use Rattle.sip_vector.specs.declared.query.Query.TheVariants.{Sub, Range, F2, Inner, Heavy, Share}
use Rattle.sip_vector.specs.declared.query.Query.TheVariants.{Above}
use Rattle.sip_helper.specs.declared.kinds.KindProver.{KindProver}
use Rattle.sip_helper.specs.declared.kinds.KindProver.TheVariants as provers
use Rattle.sip_helper.specs.declared.hitters.Least.TheVariants as least
use Rattle.sip_helper.specs.declared.sums.SumQuery.TheVariants as sums
use Rattle.sip_helper.specs.Vectors.{Vectors}
use Rattle.sip_helper.specs.KindRows.{HelpRow, missing_row}
use Rattle.sip_helper.specs.Hitters.{HasNodes, heavy_row, hitters_query}
use Rattle.sip_helper.specs.SubVectors.{HasLevel, sub_query, sub_row}
use Rattle.sip_helper.specs.Sums.{HasFolded, sum_query, sum_row}

-- the query's items are below 2 ^ depth
abbrev pub is_below : ℕ → Query → Bool
is_below depth (Sub lo hi) = nat_lt hi (2 ^ depth)
is_below depth (Range _ lo hi) = nat_lt hi (2 ^ depth)
is_below depth (F2 _) = true
is_below depth Inner = true
is_below depth (Heavy _ _) = true
is_below depth (Share _ _ _) = true
is_below depth (Above _ _) = true

-- the row of a query
abbrev pub help_row : Query → HelpRow
help_row (Sub lo hi) = sub_row lo hi
help_row (Range side lo hi) = sum_row (sums.Range side lo hi)
help_row (F2 side) = sum_row (sums.F2 side)
help_row Inner = sum_row sums.Inner
help_row (Heavy side at_least) = heavy_row side (least.Count at_least)
help_row (Share side num den) = heavy_row side (least.Share num den)
help_row (Above _ _) = missing_row

-- the query of a prover
abbrev pub query_proved : KindProver → Query
query_proved (provers.Sub s) = sub_query s
query_proved (provers.Sum s) = sum_query s
query_proved (provers.Heavy s) = hitters_query s

-- it stands for the vectors of this depth, behind these challenges
abbrev pub HasLearnt : ℕ → Vectors → List ℕ → KindProver → Type 0
HasLearnt depth v revealed (provers.Sub s) = HasLevel depth v revealed s
HasLearnt depth v revealed (provers.Sum s) = HasFolded depth v revealed s
HasLearnt depth v revealed (provers.Heavy s) = HasNodes depth v revealed s
