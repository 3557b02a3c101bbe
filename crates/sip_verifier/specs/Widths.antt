-- Queries for heavy hitters whose answers may be too wide.
use Rattle.std.specs.Prelude.{ℕ, suc, Bool, true, false, List, [], ◌∷◌, map, Option, Some, None}
use Rattle.std.specs.Option.{option_map}
use Rattle.sip_vector.specs.declared.query.Query.{Query}
use Rattle.sip_vector.specs.declared.query.Query.TheVariants.{Heavy, Share}
use Rattle.sip_vector.specs.declared.update.Update.{Update}
use Rattle.sip_vector.specs.Streams.{total}
use Rattle.sip_vector.specs.Thresholds.{is_wide, share_of}
use Rattle.sip_verifier.specs.QuerySeats.{RunningNumbers, Seated, aug_root_is}

-- the total of the query's side of a stream may have more entries of at least the threshold than
-- are asked for
abbrev pub is_too_wide : List Update → Query → Bool
is_too_wide stream (Heavy side at_least) = is_wide at_least (total stream side)
is_too_wide stream (Share side num den) =
    is_wide (share_of num den (total stream side)) (total stream side)
is_too_wide stream _ = false

-- likewise by the sum that a seat keeps
abbrev pub is_wide_seat : Query → RunningNumbers → Bool
is_wide_seat (Heavy side at_least) (aug_root_is hash sum) = is_wide at_least sum
is_wide_seat (Share side num den) (aug_root_is hash sum) = is_wide (share_of num den sum) sum
is_wide_seat _ _ = false

-- the place of the first test that passes, counted from 1
abbrev pub first_true : List Bool → Option ℕ
first_true [] = None
first_true (true ∷ tests) = Some 1
first_true (false ∷ tests) = option_map suc (first_true tests)

-- the number of the first query whose answer may be too wide
abbrev pub first_wide : List Update → List Query → Option ℕ
first_wide stream queries = first_true (map (is_too_wide stream) queries)

-- the same by seats
abbrev pub first_wide_seat : List Seated → Option ℕ
first_wide_seat seats = first_true (map (λ s. is_wide_seat s.query s.running) seats)
