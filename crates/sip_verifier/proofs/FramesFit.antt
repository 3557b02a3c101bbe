-- A frame of updates that each have a spelling has one.
use Rattle.std.proofs.Common.{◌≡◌, ◌≢◌, ℕ, zero, suc, ◌^◌, ◌<◌, ◌≤◌, true, false, not, ◌&&◌, nat_lt, nat_le, eqb, ℤ, pos, negsuc, nat_abs, List, [], ◌∷◌, length, refl, sym, ap, ◌∙◌, arith, w64, ◌++◌, All, append-nil, append_assoc, FitsSigned}
use Rattle.std.specs.Prelude.{IsTrue}
use Rattle.std.specs.List.{flat_map, list_all}
use Rattle.std.specs.Int.{cast_unsigned}
use Rattle.std.proofs.lemmas.Bool.{and_from, and_parts, lt-ltb, ltb-true, leb-true, le-leb, ne_eqb}
use Rattle.std.proofs.lemmas.Int.{ints}
use Rattle.std.proofs.lemmas.List.Elements.{All-head, All-tail}
use Rattle.sip_stream.specs.Reading.{IsFair}
use Rattle.std.proofs.lemmas.Bool.Decides.{nat_tests}
use Rattle.std.proofs.Math.Nat.{pow-le-pow_right}
use Rattle.sip_wire.specs.declared.version.Version.TheVariants.{One, Two}
use Rattle.sip_wire.specs.Versions.{deepest, index_width, number_of}
use Rattle.sip_wire.specs.declared.version.Version.{Version}
use Rattle.sip_vector.specs.declared.update.Side.{Side}
use Rattle.sip_vector.specs.declared.update.Side.TheVariants.{First, Second}
use Rattle.sip_vector.specs.declared.update.Update.{Update}
use Rattle.sip_vector.specs.Answers.{is_zero}
use Rattle.sip_vector.proofs.Kept.{is_zero-false}
use Rattle.sip_wire.specs.declared.message.Message.TheVariants as messages
use Rattle.sip_wire.specs.Table.{most_rows, repeat, update_fields}
use Rattle.sip_wire.specs.Spelling.{fits, has_room, all_hold, update_numbers, side_number}
use Rattle.sip_verifier.specs.Feeding.{has_spelling}

-- the numbers of an update as its fields may hold them
record IsRow (version : Version) (u : Update) : Type 0 where
  side : side_number u.side ≤ 1
  item : u.item < 256 ^ index_width version
  delta : cast_unsigned w64 u.delta < 256 ^ 8
  some : eqb (cast_unsigned w64 u.delta) 0 ≡ false

bits_fit : (z : ℤ) → nat_abs z ≤ 2 ^ 63 → cast_unsigned w64 z < 256 ^ 8
bits_fit (pos n) lt = omega (arith, lt)
bits_fit (negsuc n) lt = omega (arith, lt)

bits_some : (z : ℤ) → not (is_zero z) ≡ true → nat_abs z ≤ 2 ^ 63 → eqb (cast_unsigned w64 z) 0 ≡ false
bits_some (pos zero) some lt = absurd cc
bits_some (pos (suc n)) some lt = ne_eqb (suc n) 0 (λ e. absurd (omega (arith, e)))
bits_some (negsuc n) some lt = ne_eqb (cast_unsigned w64 (negsuc n)) 0 (λ e. absurd (omega (arith, e, lt)))

side_small : (s : Side) → side_number s ≤ 1
side_small First = omega arith
side_small Second = omega arith

side_holds : (s : Side) → (nat_le 0 (side_number s) && nat_le (side_number s) 1) ≡ true
side_holds First = refl
side_holds Second = refl

is_row : (version : Version) (u : Update) → has_spelling version u ≡ true → IsRow version u
is_row version u h =
    let both = and_parts (nat_lt u.item (256 ^ index_width version) && not (is_zero u.delta)) (nat_le (nat_abs u.delta) (2 ^ 63)) h in
    let front = and_parts (nat_lt u.item (256 ^ index_width version)) (not (is_zero u.delta)) both.0 in
    let small = leb-true (nat_abs u.delta) (2 ^ 63) both.1 in
    record {
      side = side_small u.side;
      item = ltb-true u.item (256 ^ index_width version) front.0;
      delta = bits_fit u.delta small;
      some = bits_some u.delta front.1 small;
    }

rows_have_room : (version : Version) (us : List Update) → list_all (has_spelling version) us ≡ true → has_room (repeat (length us) (update_fields version)) (flat_map update_numbers us) ≡ true
unfolding has_room
rows_have_room version [] h = refl
rows_have_room version (u ∷ us) h =
    let both = and_parts (has_spelling version u) (list_all (has_spelling version) us) h in
    let row = is_row version u both.0 in
    and_from _ _ (lt-ltb (side_number u.side) (256 ^ 1) (let small = row.side in omega arith)) (and_from _ _ (lt-ltb u.item (256 ^ index_width version) row.item) (and_from _ _ (lt-ltb (cast_unsigned w64 u.delta) (256 ^ 8) row.delta) (rows_have_room version us both.1)))

rows_hold : (version : Version) (us : List Update) → list_all (has_spelling version) us ≡ true → all_hold (repeat (length us) (update_fields version)) (flat_map update_numbers us) ≡ true
unfolding all_hold
rows_hold version [] h = refl
rows_hold version (u ∷ us) h =
    let both = and_parts (has_spelling version u) (list_all (has_spelling version) us) h in
    let row = is_row version u both.0 in
    and_from _ _ (side_holds u.side) (and_from _ _ refl (and_from _ _ (ap not row.some) (rows_hold version us both.1)))

-- one more
pub spelled_more : (version : Version) (us : List Update) (u : Update) → list_all (has_spelling version) us ≡ true → has_spelling version u ≡ true → list_all (has_spelling version) (us ++ u ∷ []) ≡ true
spelled_more version [] u all one = and_from _ _ one refl
spelled_more version (x ∷ us) u all one = let both = and_parts (has_spelling version x) (list_all (has_spelling version) us) all in and_from _ _ both.0 (spelled_more version us u both.1 one)

-- a delta of its type
bits_most : (z : ℤ) → FitsSigned w64 z → nat_abs z ≤ 2 ^ 63
bits_most z fits = omega (arith, ints, fits)

pub spelled_one : (version : Version) (u : Update) → u.item < 256 ^ index_width version → u.delta ≢ pos 0 → FitsSigned w64 u.delta → has_spelling version u ≡ true
spelled_one version u item some fits = and_from _ _ (and_from _ _ (lt-ltb u.item (256 ^ index_width version) item) (ap not (is_zero-false u.delta some))) (le-leb (nat_abs u.delta) (2 ^ 63) (bits_most u.delta fits))

-- an item of a depth that a version goes to has room in its bytes
pub item_below : (version : Version) (depth item : ℕ) → depth ≤ deepest version → item < 2 ^ depth → item < 256 ^ index_width version
item_below One depth item le lt = let powers : 2 ^ depth ≤ 2 ^ 32 = pow-le-pow_right {n = 2} (omega arith) le in omega arith
item_below Two depth item le lt = let powers : 2 ^ depth ≤ 2 ^ 48 = pow-le-pow_right {n = 2} (omega arith) le in omega arith

-- more of a legal stream
pub spelled_fair : (version : Version) (depth : ℕ) (us more : List Update) → depth ≤ deepest version → list_all (has_spelling version) us ≡ true → All (IsFair depth) more → list_all (has_spelling version) (us ++ more) ≡ true
spelled_fair version depth us [] most all fair = ap (list_all (has_spelling version)) (append-nil us) ∙ all
spelled_fair version depth us (u ∷ more) most all fair =
    let here = All-head (IsFair depth) u more fair in
    let one = and_from _ _ (and_from _ _ (lt-ltb u.item (256 ^ index_width version) (item_below version depth u.item most here.item)) (ap not (is_zero-false u.delta here.delta))) (le-leb (nat_abs u.delta) (2 ^ 63) (omega (arith, here.size))) in
    ap (list_all (has_spelling version)) (sym (append_assoc us (u ∷ []) more))
    ∙ spelled_fair version depth (us ++ u ∷ []) more most (spelled_more version us u all one) (All-tail (IsFair depth) u more fair)

pub frame_fits : (version : Version) (us : List Update) → 0 < length us → length us ≤ most_rows → list_all (has_spelling version) us ≡ true → IsTrue (fits version (messages.Updates (record { items = us })))
unfolding fits
frame_fits version us some most spelled =
    let count : (nat_le 1 (length us) && nat_le (length us) most_rows) ≡ true = grind (arith, nat_tests) in
    and_from _ _ (and_from _ _ (and_from _ _ count (rows_have_room version us spelled)) refl) (rows_hold version us spelled)

pub open_fits : (version : Version) (depth : ℕ) → 1 ≤ depth → depth ≤ deepest version → IsTrue (fits version (messages.Open (number_of version) depth))
unfolding fits has_room all_hold
open_fits One depth some most = grind (arith, nat_tests)
open_fits Two depth some most = grind (arith, nat_tests)

pub end_fits : (version : Version) → IsTrue (fits version messages.EndStream)
unfolding fits has_room all_hold
end_fits version = refl
