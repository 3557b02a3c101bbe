-- The bytes of a stated value have room for those alone that are small modulo 2^61 - 1, and not for 0.
use Rattle.std.proofs.Common.{◌≡◌, ℕ, ◌-◌, ◌/◌, ◌<◌, ◌≤◌, true, leb, Ok, List, [], ◌∷◌, ◌++◌, length, All, ℤ, pos, negsuc, nat_abs, refl, ap, ◌∙◌, arith, inl, inr}
use Rattle.std.specs.List.{list_all}
use Rattle.std.proofs.lemmas.Bool.{cases_eq, cases_lt, and_from, le-leb}
use Rattle.std.proofs.lemmas.List.{get_or_past}
use Rattle.std.proofs.lemmas.List.Elements.{All-head, All-tail, All-get_or, All-drop}
use Rattle.std.proofs.lemmas.List.Folds.{list_all-append}
use Rattle.sip_field.specs.Moduli.{m61_modulus}
use Rattle.sip_vector.specs.declared.update.Entry.{Entry}
use Rattle.sip_wire.specs.declared.kind.Place.TheVariants as places
use Rattle.sip_wire.specs.declared.message.Message.TheVariants as messages
use Rattle.sip_wire.specs.Table.{most_claim}
use Rattle.sip_wire.specs.Spelling.{asked}
use Rattle.sip_wire.specs.Decoding.{IsBytes}
use Rattle.sip_wire.proofs.EntryValues.{IsSpelledValue, values_spelled}
use Rattle.sip_wire.proofs.ReadsBack.{read_frame-message}
use Rattle.sip_wire.proofs.ReadingLaws.{read_frame-rest}
use Rattle.sip_wire.specs.declared.version.Version.{Version}
use Rattle.sip_replies.specs.Replies.{read_reply}
use Rattle.sip_subvec.specs.AcceptsSub.{Stated}
use Rattle.sip_subvec.specs.Protocol.{sub_rules}
use Rattle.sip_subvec.specs.Counting.{has_small_value, rise_within}
use Rattle.sip_subvec.proofs.StatedEntries.{rise-nil}
use Rattle.sip_subvec.proofs.FirstReply.{in_part, first_keeps}
use Rattle.sip_subvec.proofs.RisingEntries.{entries-taken}

-- ---- the values of a frame

-- a number without a size is 0
no_size : (z : ℤ) → nat_abs z ≡ 0 → z ≡ pos 0
no_size (pos n) e = ap pos e
no_size (negsuc n) e = absurd (omega arith)

-- a value that a frame may have is small modulo 2^61 - 1, and not 0
value_small : (e : Entry) → IsSpelledValue e → has_small_value m61_modulus e ≡ true
value_small e spelled =
    let half : (m61_modulus - 1) / 2 ≡ most_claim = refl in
    let some : 1 ≤ nat_abs e.value = elim (cases_eq (nat_abs e.value) 0) [ inl z ↦ absurd (spelled.0 (no_size e.value z)) | inr nz ↦ omega arith ] in
    and_from (leb 1 (nat_abs e.value)) (leb (nat_abs e.value) ((m61_modulus - 1) / 2)) (le-leb 1 (nat_abs e.value) some) (rw half (le-leb (nat_abs e.value) most_claim spelled.1))

-- so are all of them
values_small : (es : List Entry) → All IsSpelledValue es → list_all (has_small_value m61_modulus) es ≡ true
values_small [] all = refl
values_small (e ∷ es) all =
    and_from (has_small_value m61_modulus e) (list_all (has_small_value m61_modulus) es) (value_small e (All-head IsSpelledValue e es all)) (values_small es (All-tail IsSpelledValue e es all))

-- ---- reply 0

abbrev AreBytes : List ℕ → Type 0
AreBytes bytes = All (λ b. b < 256) bytes

bytes_at : (bytes : List ℕ) → AreBytes bytes → IsBytes bytes
bytes_at bytes all i = elim (cases_lt i (length bytes)) [
  | inl lt ↦ All-get_or (λ (b : ℕ). b < 256) bytes i 0 lt all
  | inr le ↦ rw (get_or_past bytes i 0 le) (omega arith)
]

-- the entries of reply 0 in bytes have small values
pub first_small : (version : Version) (lo hi : ℕ) (bytes : List ℕ) (t : Stated)
    → All (λ b. b < 256) bytes → read_reply (sub_rules version lo hi) (in_part []) bytes ≡ Ok t
    → list_all (has_small_value m61_modulus) t.entries ≡ true
first_small version lo hi bytes t are e =
    let kept = first_keeps version lo hi
    (λ l. (rise_within lo hi l ≡ true) × (list_all (has_small_value m61_modulus) l ≡ true)) AreBytes
    (λ before more from rest v fine is taken keeps.
    let t = entries-taken lo hi before v.items more keeps.0 taken in
    let spelled = read_frame-message version places.Entries from (messages.Entries v) rest (bytes_at from fine) is in
    let small = values_small v.items (values_spelled version v spelled.has_spelling spelled.in_range) in
    let both : list_all (has_small_value m61_modulus) (before ++ v.items)
    ≡ true = list_all-append (has_small_value m61_modulus) before v.items
    ∙ and_from (list_all (has_small_value m61_modulus) before) (list_all (has_small_value m61_modulus) v.items) keeps.1 small in
    let behind_it = (read_frame-rest version places.Entries from (messages.Entries v) rest is).1 in
    ((t.0, ap (list_all (has_small_value m61_modulus)) t.1 ∙ both), rw behind_it (All-drop (λ (b : ℕ). b < 256) (asked version places.Entries from) from fine)))
    bytes t are (rise-nil lo hi, refl) e in
    kept.keeps.1
