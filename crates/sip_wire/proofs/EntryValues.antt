-- The values of entries that have a spelling are small, and not 0.
use Rattle.std.proofs.Common.{◌≡◌, ◌≢◌, ℕ, suc, ◌≤◌, Bool, true, not, eqb, ◌&&◌, List, [], ◌∷◌, length, All, FitsSigned, pos, nat_abs, ap, sym, ◌∙◌}
use Rattle.std.specs.Int.{w64, cast_signed, cast_unsigned}
use Rattle.std.specs.List.{flat_map}
use Rattle.std.proofs.lemmas.Bool.{and_parts, leb-true, eq-eqb, not-true, both_ways}
use Rattle.std.proofs.lemmas.Int.{to_z-of_z}
use Rattle.std.proofs.lemmas.List.Concat.{flat_map-cons}
use Rattle.std.proofs.lemmas.List.Elements.{All-nil, All-cons, All-head, All-tail}
use Rattle.arrayvec.specs.ArrayVec.{ArrayVec}
use Rattle.sip_vector.specs.declared.update.Entry.{Entry}
use Rattle.sip_wire.specs.declared.kind.Kind.TheVariants as kinds
use Rattle.sip_wire.specs.declared.message.Message.TheVariants as messages
use Rattle.sip_wire.specs.declared.version.Version.{Version}
use Rattle.sip_wire.specs.Table.{entry_fields, repeat, most_claim, is_small, shape}
use Rattle.sip_wire.specs.Spelling.{all_hold, has_room, entry_numbers, fits}

-- a value is one of its type
abbrev pub value_range : Entry → Type 0
value_range e = FitsSigned w64 e.value

-- a value that a frame may have
abbrev pub IsSpelledValue : Entry → Type 0
IsSpelledValue e = (e.value ≢ pos 0) × (nat_abs e.value ≤ most_claim)

-- the number of such a value
holds_value : ℕ → Bool
holds_value n = not (eqb n 0) && is_small n

-- one value
value_spelled : (e : Entry) → FitsSigned w64 e.value → holds_value (cast_unsigned w64 e.value) ≡ true → IsSpelledValue e
unfolding holds_value
value_spelled e range h =
    let n : ℕ = cast_unsigned w64 e.value in
    let both = and_parts (not (eqb n 0)) (is_small n) h in
    let again : cast_signed w64 n ≡ e.value = to_z-of_z w64 e.value range in
    let most : nat_abs e.value ≤ most_claim = rw (← again) (leb-true (nat_abs (cast_signed w64 n)) most_claim both.1) in
    (λ zero. both_ways (eqb n 0) (not-true (eqb n 0) both.0) (eq-eqb n 0 (ap (cast_unsigned w64) zero)), most)

-- the fields of the first row hold its value, and those of the rest theirs
first_row : (version : Version) (i v : ℕ) (ns : List ℕ) (k : ℕ) → all_hold (repeat (suc k) (entry_fields version)) (i ∷ v ∷ ns) ≡ true → (holds_value v ≡ true) × (all_hold (repeat k (entry_fields version)) ns ≡ true)
unfolding all_hold holds_value
first_row version i v ns k h = and_parts (not (eqb v 0) && is_small v) (all_hold (repeat k (entry_fields version)) ns) h

-- so each value
rows_spelled : (version : Version) (es : List Entry) → All value_range es → all_hold (repeat (length es) (entry_fields version)) (flat_map entry_numbers es) ≡ true → All IsSpelledValue es
rows_spelled version [] range h = All-nil IsSpelledValue
rows_spelled version (e ∷ es) range h =
    let numbers : flat_map entry_numbers (e ∷ es) ≡ e.index ∷ cast_unsigned w64 e.value ∷ flat_map entry_numbers es = flat_map-cons entry_numbers e es in
    let row = first_row version e.index (cast_unsigned w64 e.value) (flat_map entry_numbers es) (length es) (sym (ap (all_hold (repeat (suc (length es)) (entry_fields version))) numbers) ∙ h) in
    All-cons IsSpelledValue e es (value_spelled e (All-head value_range e es range) row.0) (rows_spelled version es (All-tail value_range e es range) row.1)

-- entries that have a spelling have values that a frame may have
pub values_spelled : (version : Version) (v : ArrayVec Entry) → fits version (messages.Entries v) ≡ true → All value_range v.items → All IsSpelledValue v.items
unfolding fits
values_spelled version v h range =
    let n : ℕ = length v.items in
    let ns : List ℕ = flat_map entry_numbers v.items in
    let s = shape version kinds.Entries in
    let a = and_parts (s.is_mark n && has_room (s.fields n) ns && s.in_order n ns) (all_hold (s.fields n) ns) h in
    rows_spelled version v.items range a.1
