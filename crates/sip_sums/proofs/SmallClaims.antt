-- The bytes of a claim have room for those alone that are small modulo 2^61 - 1.
use Rattle.std.proofs.Common.{◌≡◌, ℕ, ◌-◌, ◌/◌, ◌<◌, ◌≤◌, true, ◌&&◌, Result, Ok, Err, List, [], ◌∷◌, length, All, FitsSigned, ℤ, nat_abs, refl, arith, inl, inr}
use Rattle.std.specs.Int.{w64, cast_signed, cast_unsigned}
use Rattle.std.proofs.lemmas.Bool.{cases_lt, and_parts, leb-true, le-leb}
use Rattle.std.proofs.lemmas.Int.{to_z-of_z}
use Rattle.std.proofs.lemmas.List.{get_or_past}
use Rattle.std.proofs.lemmas.List.Elements.{All-get_or}
use Rattle.sip_field.specs.Moduli.{m61_modulus}
use Rattle.sip_wire.specs.declared.kind.Kind.TheVariants as kinds
use Rattle.sip_wire.specs.declared.kind.Place.TheVariants as places
use Rattle.sip_wire.specs.declared.message.Message.{Message}
use Rattle.sip_wire.specs.declared.message.Message.TheVariants as messages
use Rattle.sip_wire.specs.declared.message.WireFault.{WireFault}
use Rattle.sip_wire.specs.declared.version.Version.{Version}
use Rattle.sip_wire.specs.Decoding.{IsBytes}
use Rattle.sip_wire.specs.Reading.{read_frame}
use Rattle.sip_wire.specs.Spelling.{fits, has_room, all_hold}
use Rattle.sip_wire.specs.Table.{most_claim, is_small, shape}
use Rattle.sip_wire.specs.Values.{InRange}
use Rattle.sip_wire.proofs.ReadsBack.{read_frame-message}
use Rattle.sip_sums.specs.AcceptsSum.{is_small_claim}
use Rattle.sip_sums.proofs.ReadSums.{claim_in, frame_claim, message_claim}

-- a claim that has a spelling is small
claim_spelled : (version : Version) (claim : ℤ) → FitsSigned w64 claim → fits version (messages.Claim claim) ≡ true → nat_abs claim ≤ most_claim
unfolding fits all_hold
claim_spelled version claim range h =
    let n : ℕ = cast_unsigned w64 claim in
    let s = shape version kinds.Claim in
    let holds = (and_parts (s.is_mark 0 && has_room (s.fields 0) (n ∷ []) && s.in_order 0 (n ∷ [])) (all_hold (s.fields 0) (n ∷ [])) h).1 in
    let its : is_small n ≡ true = (and_parts (is_small n) true holds).0 in
    let again : cast_signed w64 n ≡ claim = to_z-of_z w64 claim range in
    rw (← again) (leb-true (nat_abs (cast_signed w64 n)) most_claim its)

bytes_at : (bytes : List ℕ) → All (λ b. b < 256) bytes → IsBytes bytes
bytes_at bytes all i = elim (cases_lt i (length bytes)) [
  | inl lt ↦ All-get_or (λ (b : ℕ). b < 256) bytes i 0 lt all
  | inr le ↦ rw (get_or_past bytes i 0 le) (omega arith)
]

-- so is that of any message that has one, where another kind's counts as 0
message_small : (version : Version) (m : Message) → InRange m → fits version m ≡ true → nat_abs (message_claim m) ≤ most_claim
unfolding message_claim
message_small version (messages.Claim claim) range h = claim_spelled version claim range h
message_small version (messages.Poly a b c) range h = omega arith
message_small version (messages.Refuse code) range h = omega arith
message_small version (messages.Open number depth) range h = omega arith
message_small version (messages.Updates us) range h = omega arith
message_small version messages.EndStream range h = omega arith
message_small version (messages.Query q) range h = omega arith
message_small version (messages.Reveal r) range h = omega arith
message_small version messages.Bye range h = omega arith
message_small version (messages.Entries v) range h = omega arith
message_small version (messages.Siblings left right) range h = omega arith
message_small version (messages.Leaves v) range h = omega arith
message_small version (messages.Nodes v) range h = omega arith
message_small version messages.LevelEnd range h = omega arith
message_small version (messages.AskLook code item) range h = omega arith
message_small version (messages.Found flag index) range h = omega arith
message_small version messages.End range h = omega arith
message_small version (messages.AskMoment side degree) range h = omega arith
message_small version (messages.Held held) range h = omega arith
message_small version (messages.Recall count) range h = omega arith
message_small version (messages.Marks v) range h = omega arith
message_small version (messages.Power v) range h = omega arith

frame_small : (version : Version) (bytes : List ℕ) → All (λ b. b < 256) bytes → (r : Result (Message × List ℕ) WireFault) → read_frame version places.Claim bytes ≡ r → nat_abs (frame_claim r) ≤ most_claim
unfolding frame_claim
frame_small version bytes are (Err fault) is = omega arith
frame_small version bytes are (Ok frame) is =
    let spelled = read_frame-message version places.Claim bytes frame.0 frame.1 (bytes_at bytes are) is in
    message_small version frame.0 spelled.in_range spelled.has_spelling

-- the claim that bytes state
pub claim_small : (version : Version) (bytes : List ℕ) → All (λ b. b < 256) bytes → is_small_claim m61_modulus (claim_in version bytes) ≡ true
unfolding claim_in
claim_small version bytes are =
    let half : (m61_modulus - 1) / 2 ≡ most_claim = refl in
    rw half (le-leb (nat_abs (frame_claim (read_frame version places.Claim bytes))) most_claim (frame_small version bytes are (read_frame version places.Claim bytes) refl))
