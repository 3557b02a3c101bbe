-- The longest spelling, and the claims that have one.
use Rattle.std.proofs.Common.{◌≡◌, ◌<◌, ◌≤◌, ◌^◌, true, ◌&&◌, nat_lt, nat_le, refl, ℤ, length, FitsSigned, ◌∙◌, ap, sym, arith}
use Rattle.std.specs.Prelude.{IsTrue, nat_abs}
use Rattle.std.specs.Int.{w64, cast_unsigned}
use Rattle.std.proofs.lemmas.Bool.{and_parts, and_from, leb-true, le-leb, lt-ltb}
use Rattle.std.proofs.lemmas.Int.{ints, to_z-of_z}
use Rattle.sip_wire.specs.declared.message.Message.{Message}
use Rattle.sip_wire.specs.declared.message.Message.TheVariants as messages
use Rattle.sip_wire.specs.declared.version.Version.{Version}
use Rattle.sip_wire.specs.Table.{shape, is_small, most_claim, longest_frame}
use Rattle.sip_wire.specs.Spelling.{fits, kind_of, mark_of, numbers, has_room, all_hold, body_of, spelling}
use Rattle.sip_wire.proofs.Shapes.{is_shape, body_length, mark_of_fit}
use Rattle.sip_wire.proofs.ReadingLaws.{length-spelling}

-- no spelling is longer than the longest frame
pub spelling_at_most : (version : Version) (m : Message) → IsTrue (fits version m) → length (spelling version m) ≤ longest_frame
unfolding fits
spelling_at_most version m fit =
    let s = shape version (kind_of m) in
    let is = is_shape version (kind_of m) in
    let long = body_length s (mark_of m) (numbers m) fit in
    let short = is.short (length (body_of version m)) (rw long (is.lengths (mark_of m) (mark_of_fit s (mark_of m) (numbers m) fit))) in
    omega (arith, length-spelling version m)

-- the test of two's complement is that of the absolute value
small : (value : ℤ) → FitsSigned w64 value → is_small (cast_unsigned w64 value) ≡ nat_le (nat_abs value) most_claim
small value range = ap (λ (z : ℤ). nat_le (nat_abs z) most_claim) (to_z-of_z w64 value range)

-- two's complement has eight bytes
cast_unsigned_below : (value : ℤ) → FitsSigned w64 value → cast_unsigned w64 value < 256 ^ 8
cast_unsigned_below value range = grind (arith, ints)

-- a claim that has a spelling is small
pub claim_from_fits : (version : Version) (value : ℤ) → FitsSigned w64 value → IsTrue (fits version (messages.Claim value)) → nat_abs value ≤ most_claim
unfolding fits has_room all_hold
claim_from_fits version value range fit =
    let hold : (is_small (cast_unsigned w64 value) && true) ≡ true = (and_parts (nat_lt (cast_unsigned w64 value) (256 ^ 8) && true && true) (is_small (cast_unsigned w64 value) && true) fit).1 in
    let is : is_small (cast_unsigned w64 value) ≡ true = (and_parts (is_small (cast_unsigned w64 value)) true hold).0 in
    leb-true (nat_abs value) most_claim (sym (small value range) ∙ is)

-- and a small claim has one
pub claim_fits : (version : Version) (value : ℤ) → FitsSigned w64 value → nat_abs value ≤ most_claim → IsTrue (fits version (messages.Claim value))
unfolding fits has_room all_hold
claim_fits version value range le =
    let room : nat_lt (cast_unsigned w64 value) (256 ^ 8) ≡ true = lt-ltb (cast_unsigned w64 value) (256 ^ 8) (cast_unsigned_below value range) in
    let is : is_small (cast_unsigned w64 value) ≡ true = small value range ∙ le-leb (nat_abs value) most_claim le in
    and_from (nat_lt (cast_unsigned w64 value) (256 ^ 8) && true && true) (is_small (cast_unsigned w64 value) && true) (rw room refl) (rw is refl)
