-- A query that fits a depth and has a code in a version has a spelling there, of 21 bytes at most.
use Rattle.std.proofs.Common.{◌≡◌, Bool, true, false, not, cond, nat_lt, List, [], ◌∷◌, ap, ℕ, ◌+◌, ◌^◌, ◌<◌, ◌≤◌, length, arith, refl}
use Rattle.std.specs.Prelude.{IsTrue, All, ◌||◌}
use Rattle.std.specs.List.{list_any}
use Rattle.std.proofs.lemmas.Bool.{ltb-false, or_parts}
use Rattle.std.proofs.lemmas.List.Elements.{All-nil, All-cons}
use Rattle.std.proofs.lemmas.Bool.Decides.{nat_tests}
use Rattle.std.proofs.Math.Nat.{pow-le-pow_right}
use Rattle.sip_vector.specs.Answers.{Fits}
use Rattle.sip_vector.specs.Limits.{most_depth, most_narrow_depth}
use Rattle.sip_vector.specs.declared.query.Query.{Query}
use Rattle.sip_vector.specs.declared.query.Query.TheVariants as queries
use Rattle.sip_vector.specs.declared.update.Side.TheVariants as sides
use Rattle.sip_wire.specs.declared.message.Message.TheVariants as messages
use Rattle.sip_wire.specs.declared.version.Version.{Version}
use Rattle.sip_wire.specs.declared.version.Version.TheVariants.{One, Two}
use Rattle.sip_wire.specs.Versions.{Speaks, deepest, index_width, is_of_two, needed}
use Rattle.sip_wire.specs.Table.{query_shape, query_fields, size}
use Rattle.sip_wire.specs.Spelling.{fits, fits_shape, has_room, all_hold, spelling, query_code, query_numbers}
use Rattle.sip_wire.proofs.Shapes.{body_length}
use Rattle.sip_wire.proofs.ReadingLaws.{length-spelling}

-- an index of a depth that a version goes to has room in its bytes
below : (version : Version) (depth hi : ℕ) → depth ≤ deepest version → hi < 2 ^ depth → hi < 256 ^ index_width version
below One depth hi le lt = let powers : 2 ^ depth ≤ 2 ^ 32 = pow-le-pow_right {n = 2} (omega arith) le in omega arith
below Two depth hi le lt = let powers : 2 ^ depth ≤ 2 ^ 48 = pow-le-pow_right {n = 2} (omega arith) le in omega arith

-- a query that fits a depth and has a code has a spelling
pub query-fits : (version : Version) (depth : ℕ) (query : Query) → Speaks version depth query → Fits depth query → IsTrue (fits version (messages.Query query))
unfolding fits has_room all_hold
query-fits One depth (queries.Sub lo hi) can fit = let small = below One depth hi can.shallow fit.1 in grind (arith, nat_tests)
query-fits One depth (queries.Range sides.First lo hi) can fit = let small = below One depth hi can.shallow fit.1 in grind (arith, nat_tests)
query-fits One depth (queries.Range sides.Second lo hi) can fit = let small = below One depth hi can.shallow fit.1 in grind (arith, nat_tests)
query-fits One depth (queries.F2 sides.First) can fit = refl
query-fits One depth (queries.F2 sides.Second) can fit = refl
query-fits One depth queries.Inner can fit = refl
query-fits One depth (queries.Heavy sides.First at_least) can fit = grind (arith, nat_tests)
query-fits One depth (queries.Heavy sides.Second at_least) can fit = grind (arith, nat_tests)
query-fits One depth (queries.Share side num den) can fit = absurd (let no : false ≡ true = can.has_code in cc)
query-fits One depth (queries.Above side at_least) can fit = absurd (let no : false ≡ true = can.has_code in cc)
query-fits Two depth (queries.Sub lo hi) can fit = let small = below Two depth hi can.shallow fit.1 in grind (arith, nat_tests)
query-fits Two depth (queries.Range sides.First lo hi) can fit = let small = below Two depth hi can.shallow fit.1 in grind (arith, nat_tests)
query-fits Two depth (queries.Range sides.Second lo hi) can fit = let small = below Two depth hi can.shallow fit.1 in grind (arith, nat_tests)
query-fits Two depth (queries.F2 sides.First) can fit = refl
query-fits Two depth (queries.F2 sides.Second) can fit = refl
query-fits Two depth queries.Inner can fit = refl
query-fits Two depth (queries.Heavy sides.First at_least) can fit = grind (arith, nat_tests)
query-fits Two depth (queries.Heavy sides.Second at_least) can fit = grind (arith, nat_tests)
query-fits Two depth (queries.Share sides.First num den) can fit = grind (arith, nat_tests)
query-fits Two depth (queries.Share sides.Second num den) can fit = grind (arith, nat_tests)
query-fits Two depth (queries.Above sides.First at_least) can fit = grind (arith, nat_tests)
query-fits Two depth (queries.Above sides.Second at_least) can fit = grind (arith, nat_tests)

-- a query that has a spelling fits the shape of one
pub query-shape-fits : (version : Version) (query : Query) → IsTrue (fits version (messages.Query query)) → IsTrue (fits_shape (query_shape version) (query_code query) (query_numbers query))
unfolding fits
query-shape-fits version query fit = fit

-- the body of a query has 18 bytes at most
of_length : (version : Version) (query : Query) → 1 + size (query_fields version (query_code query)) ≤ 18
of_length One (queries.Sub lo hi) = omega arith
of_length Two (queries.Sub lo hi) = omega arith
of_length One (queries.Range side lo hi) = omega arith
of_length Two (queries.Range side lo hi) = omega arith
of_length version (queries.F2 side) = omega arith
of_length version queries.Inner = omega arith
of_length version (queries.Heavy side at_least) = omega arith
of_length version (queries.Share side num den) = omega arith
of_length version (queries.Above side at_least) = omega arith

-- the frame of a query has 21 bytes at most
pub query-length : (version : Version) (query : Query) → IsTrue (fits version (messages.Query query)) → length (spelling version (messages.Query query)) ≤ 21
unfolding fits
query-length version query fit = omega (arith, length-spelling version (messages.Query query), body_length (query_shape version) (query_code query) (query_numbers query) fit, of_length version query)

-- ---- the least version

-- where no query has its code in version 2 alone, each has one in version 1
none_of_two : (queries : List Query) → list_any is_of_two queries ≡ false → All (λ q. is_of_two q ≡ false) queries
none_of_two [] none = All-nil (λ q. is_of_two q ≡ false)
none_of_two (q ∷ queries) none =
    let both = or_parts (is_of_two q) (list_any is_of_two queries) none in
    All-cons (λ q. is_of_two q ≡ false) q queries both.0 (none_of_two queries both.1)

-- in the least version each of the queries can be asked
pub needed-speaks : (depth : ℕ) (queries : List Query) → depth ≤ most_depth → All (Speaks (needed depth queries) depth) queries
needed-speaks depth queries most = by_tests (nat_lt most_narrow_depth depth) (list_any is_of_two queries) refl refl
  where
    by_tests : (deep wide : Bool) → nat_lt most_narrow_depth depth ≡ deep → list_any is_of_two queries ≡ wide
        → All (Speaks (cond (deep || wide) Two One) depth) queries
    by_tests true wide e f = λ i other less. record { shallow = most; has_code = refl }
    by_tests false true e f = λ i other less. record { shallow = most; has_code = refl }
    by_tests false false e f = λ i other less. record { shallow = ltb-false _ _ e; has_code = ap not (none_of_two queries f i other less) }
