-- What holds of a helper of questions at every moment, and how many turns it has left at most.
use Rattle.std.specs.Prelude.{◌≡◌, ℕ, ◌+◌, ◌-◌, ◌*◌, ◌≤◌, IfSome, false, length, Option, None, Some}
use Rattle.sip_vector.specs.declared.update.Side.{Side}
use Rattle.sip_vector.specs.Vectors.{StoredVector}
use Rattle.sip_vector.specs.Limits.{most_depth}
use Rattle.sip_wire.specs.Table.{most_queries}
use Rattle.sip_wire.specs.declared.version.Version.TheVariants.{Two}
use Rattle.sip_helper.specs.Turns.{HelperState, depth_of, whole_of}
use Rattle.sip_above.specs.declared.under_way.LargeUnderWay.{LargeUnderWay}
use Rattle.sip_above.specs.Serving.{OpenLarge}
use Rattle.sip_above.specs.UnderWay as larges
use Rattle.sip_above.specs.UnderWay.{weighed_by}
use Rattle.sip_helper.specs.inside.Measures.{turns_left}
use Rattle.sip_lookup.specs.declared.lookup.Lookup.{Lookup}
use Rattle.sip_lookup.specs.Lookups.{CanLook}
use Rattle.sip_moments.specs.declared.under_way.MomentUnderWay.{MomentUnderWay}
use Rattle.sip_moments.specs.inside.Keeping.{challenges_left}
use Rattle.sip_moments.specs.UnderWay.{CanReply}
use Rattle.sip_questions.specs.declared.sizes.Sizes.{Sizes}
use Rattle.sip_questions.specs.declared.sizes.Sizes.TheVariants.{Unheard, Deltas, Heard}
use Rattle.sip_questions.specs.Serving.{QuestionHelper, weighed}

-- a lookup can be answered: its item is one of the stream's, which has ended
pub record CanSay (helper : HelperState) (l : Lookup) : Type 0 where
  pub depth : ℕ
  pub whole : whole_of helper.heard ≡ Some depth
  pub can : CanLook depth l

-- what was heard of a stream, without what was asked about it
abbrev pub stream_of : HelperState → HelperState
stream_of s = record s { queries = 0; open_query = None; done = false; spent = false }

-- what has heard the sizes of the deltas, where they are known
abbrev pub again_of : HelperState → Sizes → Option HelperState
again_of helper Unheard = None
again_of helper Deltas = Some (stream_of helper)
again_of helper (Heard again) = Some again.value

-- these are the vectors of a side's entries and of their weights
pub record IsKnown (s : QuestionHelper) (side : Side) (values weights : StoredVector) : Type 0 where
  pub depth : values.depth ≡ depth_of s.helper.heard
  pub weighed : weighed s.helper s.again side ≡ Some (weighed_by values weights)

-- the sizes of the deltas were heard, and their end, at the depth of the stream, which has ended
pub record IsReadAgain (helper again : HelperState) : Type 0 where
  pub depth : ℕ
  pub whole : whole_of helper.heard ≡ Some depth
  pub same : whole_of again.heard ≡ Some depth

-- an open question for large entries can be answered, behind the whole stream, in version 2
pub record IsShown (helper : HelperState) (again : Option HelperState) (q : LargeUnderWay)
    : Type 0 where
  pub whole : whole_of helper.heard ≡ Some (depth_of helper.heard)
  pub two : helper.version ≡ Two
  pub can : larges.CanReply (depth_of helper.heard) (weighed helper again q.large.side) q

-- the challenges of open large entries
abbrev pub levels_left : Option OpenLarge → ℕ
levels_left None = 0
levels_left (Some o) = most_depth - 1 - length o.revealed

-- few lookups and few moments were asked, and the place that is owed can be said, and what is
-- open answered
pub record IsCoherent (helper : HelperState) (lookups : ℕ) (sought : Option Lookup) (moments : ℕ)
    (moment : Option MomentUnderWay) (again : Option HelperState) (large : Option LargeUnderWay)
    : Type 0 where
  pub few_lookups : lookups ≤ most_queries
  pub few_moments : moments ≤ most_queries
  pub sayable : IfSome sought (CanSay helper)
  pub ready : IfSome moment (CanReply helper)
  pub read : IfSome again (IsReadAgain helper)
  pub shown : IfSome large (IsShown helper again)

-- those of the stream and of the queries, one for each lookup, and those of the moments: each has
-- fewer challenges than a talk has levels
abbrev pub questions_left : QuestionHelper → ℕ
questions_left s =
    turns_left s.helper + (most_queries - s.lookups) + most_depth * (most_queries - s.moments)
    + challenges_left s.moment + levels_left s.large
