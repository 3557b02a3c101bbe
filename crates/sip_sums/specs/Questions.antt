-- Which sum each kind of query is for.
use Rattle.std.specs.Prelude.{ℕ, ℤ, List, Option, Some, None}
use Rattle.sip_vector.specs.declared.query.Query.{Query}
use Rattle.sip_vector.specs.declared.query.Query.TheVariants.{Sub, Range, F2, Inner, Heavy, Share}
use Rattle.sip_vector.specs.declared.query.Query.TheVariants.{Above}
use Rattle.sip_vector.specs.declared.update.Side.TheVariants.{First, Second}
use Rattle.sip_vector.specs.declared.update.Update.{Update}
use Rattle.sip_vector.specs.Extensions.{ones}
use Rattle.sip_vector.specs.Streams.{vector}

-- the two lists whose entries are multiplied: for a range sum the second is 1 at the items of the
-- range and 0 elsewhere
pub record Lists : Type 0 where
  pub first : List ℤ
  pub second : List ℤ

abbrev pub lists : List ℤ → List ℤ → Lists
lists first second = record { first = first; second = second }

-- those of a query for a sum; the other queries have none
abbrev pub lists_of : ℕ → List Update → Query → Option Lists
lists_of depth stream (F2 side) = Some (lists (vector depth stream side) (vector depth stream side))
lists_of depth stream Inner =
    Some (lists (vector depth stream First) (vector depth stream Second))
lists_of depth stream (Range side lo hi) =
    Some (lists (vector depth stream side) (ones depth lo hi))
lists_of depth stream (Sub lo hi) = None
lists_of depth stream (Heavy side at_least) = None
lists_of depth stream (Share side num den) = None
lists_of depth stream (Above side at_least) = None
