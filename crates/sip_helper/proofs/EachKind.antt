-- The kinds of query, a line for each: what fits, and which refusals the rows have.
use Rattle.std.proofs.Common.{◌≡◌, ℕ, ◌^◌, ◌<◌, Bool, true, false, Some, None, List, ℤ, if◌then◌else◌, refl, arith}
use Rattle.std.specs.Prelude.{IsTrue, IfSome}
use Rattle.std.proofs.lemmas.Bool.{ltb-true}
use Rattle.std.proofs.lemmas.Bool.Decides.{nat_tests}
use Rattle.sip_vector.specs.declared.query.Query.{Query}
use Rattle.sip_vector.specs.declared.query.Query.TheVariants.{Sub, Range, F2, Inner, Heavy, Share, Above}
use Rattle.sip_vector.specs.Answers.{Fits}
use Rattle.sip_vector.specs.declared.update.Side.{Side}
use Rattle.sip_vector.specs.Built.{is_built}
use Rattle.sip_vector.specs.Streams.{int_sum}
use Rattle.sip_vector.specs.Thresholds.{is_wide}
use Rattle.sip_wire.specs.declared.message.Message.TheVariants as messages
use Rattle.sip_wire.specs.declared.version.Version.{Version}
use Rattle.sip_wire.specs.declared.version.Version.TheVariants.{One, Two}
use Rattle.sip_wire.specs.Spelling.{fits, has_room, all_hold}
use Rattle.sip_helper.specs.declared.hitters.Least.{Least}
use Rattle.sip_helper.specs.declared.hitters.Least.TheVariants as least
use Rattle.sip_helper.specs.Vectors.{Vectors, vector_of}
use Rattle.sip_helper.specs.Kinds.{is_below, help_row}
use Rattle.sip_helper.specs.KindRows.{not_strict, out_of_turn, too_many, want_of_memory}
use Rattle.sip_helper.specs.Hitters.{heavy_row, is_strict, threshold}
use Rattle.sip_helper.specs.SubVectors.{is_too_long}

-- a query with a spelling, whose items are below 2 ^ depth, fits the depth
pub fits_below : (version : Version) (depth : ℕ) (q : Query) → IsTrue (fits version (messages.Query q)) → is_below depth q ≡ true → Fits depth q
unfolding fits has_room all_hold
fits_below version depth (Sub lo hi) h below = (grind (arith, nat_tests), ltb-true hi (2 ^ depth) below)
fits_below version depth (Range side lo hi) h below = (grind (arith, nat_tests), ltb-true hi (2 ^ depth) below)
fits_below version depth (F2 side) h below = tt
fits_below version depth Inner h below = tt
fits_below version depth (Heavy side at_least) h below = (grind (arith, nat_tests), grind (arith, nat_tests))
fits_below One depth (Share side num den) h below = absurd cc
fits_below Two depth (Share side num den) h below = (grind (arith, nat_tests), grind (arith, nat_tests), grind (arith, nat_tests))
fits_below One depth (Above side at_least) h below = absurd cc
fits_below Two depth (Above side at_least) h below = (grind (arith, nat_tests), grind (arith, nat_tests))

-- ---- rows

-- a negative entry and an answer that is too wide are codes between these two
hitters_row : (side : Side) (l : Least) (v : Vectors) → IfSome ((heavy_row side l).refused_by v) (λ code. (want_of_memory < code) × (code < out_of_turn))
hitters_row side l v = by_tests (is_strict numbers) (is_wide (threshold l (int_sum numbers)) (int_sum numbers))
  where
    numbers : List ℤ
    numbers = (vector_of v side).numbers

    by_tests : (strict wide : Bool) → IfSome (if strict then (if wide then Some too_many else None) else Some not_strict) (λ code. (want_of_memory < code) × (code < out_of_turn))
    by_tests true true = (omega arith, omega arith)
    by_tests true false = tt
    by_tests false wide = (omega arith, omega arith)

-- the refusal of a kind that is built lies between that for want of memory and that of a message out of turn
pub built_row : (q : Query) (v : Vectors) → IsTrue (is_built q) → IfSome ((help_row q).refused_by v) (λ code. (want_of_memory < code) × (code < out_of_turn))
built_row (Sub lo hi) v is = by_length (is_too_long lo hi v)
  where
    by_length : (long : Bool) → IfSome (if long then Some too_many else None) (λ code. (want_of_memory < code) × (code < out_of_turn))
    by_length true = (omega arith, omega arith)
    by_length false = tt
built_row (Range _ _ _) v is = tt
built_row (F2 _) v is = tt
built_row Inner v is = tt
built_row (Heavy side at_least) v is = hitters_row side (least.Count at_least) v
built_row (Share side num den) v is = hitters_row side (least.Share num den) v
built_row (Above _ _) v is = absurd cc

-- and that of a kind that is not built is that of a message out of turn
pub other_row : (q : Query) (v : Vectors) → is_built q ≡ false → (help_row q).refused_by v ≡ Some out_of_turn
other_row (Sub lo hi) v is = absurd cc
other_row (Range _ _ _) v is = absurd cc
other_row (F2 _) v is = absurd cc
other_row Inner v is = absurd cc
other_row (Heavy _ _) v is = absurd cc
other_row (Share _ _ _) v is = absurd cc
other_row (Above _ _) v is = refl
