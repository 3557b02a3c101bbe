-- Marks: rows behind their count, the value of each at most its weight.
use Rattle.std.proofs.Common.{◌≡◌, ℕ, ◌≤◌, Bool, true, false, not, cond, ◌&&◌, nat_le, nat_abs, Some, None, Err, List, ◌∷◌, length, FitsSigned, refl, ap, ◌∙◌}
use Rattle.std.specs.Prelude.{IsTrue}
use Rattle.std.specs.Int.{w64}
use Rattle.std.specs.List.{flat_map}
use Rattle.std.proofs.lemmas.Int.{to_z-of_z}
use Rattle.std.proofs.lemmas.Bool.{le-leb}
use Rattle.std.proofs.lemmas.List.Concat.{flat_map-cons}
use Rattle.arrayvec.specs.ArrayVec.{ArrayVec}
use Rattle.sip_wire.specs.declared.message.Mark.{Mark}
use Rattle.sip_wire.specs.declared.message.Message.TheVariants as messages
use Rattle.sip_wire.specs.declared.message.WireFault.{WireFault}
use Rattle.sip_wire.specs.declared.message.WireFault.TheVariants as faults
use Rattle.sip_wire.specs.declared.kind.Kind.TheVariants as kinds
use Rattle.sip_wire.specs.declared.version.Version.{Version}
use Rattle.sip_wire.specs.declared.version.Version.TheVariants.{One, Two}
use Rattle.sip_wire.specs.Table.{counted, mark_fields, most_nodes, repeat, shape, stands_in, within_weights}
use Rattle.sip_wire.specs.Spelling.{ReadsBody, all_hold, body_fault, fits, in_bytes, mark_fits, mark_in, mark_numbers, said_in}
use Rattle.sip_wire.specs.Rows.{holds, rooms}

-- the value of a mark is at most its weight
abbrev pub is_within : Mark → Bool
is_within m = nat_le (nat_abs m.value) m.weight

-- ---- tested one by one

-- one mark, and those behind it
pub within_cons : (m : Mark) (ms : List Mark) → FitsSigned w64 m.value → within_weights (flat_map mark_numbers (m ∷ ms)) ≡ (is_within m && within_weights (flat_map mark_numbers ms))
within_cons m ms range =
    ap within_weights (flat_map-cons mark_numbers m ms) ∙ ap (λ z. nat_le (nat_abs z) m.weight && within_weights (flat_map mark_numbers ms)) (to_z-of_z w64 m.value range)

-- ---- read

-- the tests of rows behind their count
abbrev rows_tests : List ℕ → Bool × Bool
rows_tests body =
    (mark_fits (counted most_nodes mark_fields) (mark_in (counted most_nodes mark_fields) body) (length body), all_hold (repeat (mark_in (counted most_nodes mark_fields) body) mark_fields) (said_in (counted most_nodes mark_fields) body))

-- the faults of rows are those of marks
pub marks_fault : (version : Version) (body : List ℕ) (f : WireFault) → IsTrue ((shape version kinds.Marks).has_length (length body)) → body_fault (counted most_nodes mark_fields) body ≡ Some f → ReadsBody version kinds.Marks body (Err f)
unfolding body_fault in_bytes
marks_fault One body f has fault = absurd cc
marks_fault Two body f has fault = by_tests (rows_tests body).0 (rows_tests body).1 (within_weights (said_in (counted most_nodes mark_fields) body)) fault
  where
    by_tests : (counts hold within : Bool) → cond (not counts) (Some faults.BadCount) (cond (not hold) (Some faults.BadNumber) None) ≡ Some f
        → cond (not counts) (Some faults.BadCount) (cond (not (within && hold)) (Some faults.BadNumber) None) ≡ Some f
    by_tests false hold within e = e
    by_tests true true within e = absurd cc
    by_tests true false true e = e
    by_tests true false false e = e

-- ---- written

-- marks fit where they stand in the version, some are there, and each row and each weight passes
pub marks_fits : (version : Version) (v : ArrayVec Mark) → length v.items ≤ most_nodes → 1 ≤ length v.items → stands_in kinds.Marks version ≡ true
    → ((rooms mark_numbers mark_fields v.items && holds mark_numbers mark_fields v.items) && within_weights (flat_map mark_numbers v.items)) ≡ fits version (messages.Marks v)
unfolding fits
marks_fits version v most some stands =
    by_tests (stands_in kinds.Marks version) (nat_le 1 (length v.items)) (nat_le (length v.items) most_nodes) (rooms mark_numbers mark_fields v.items) (holds mark_numbers mark_fields v.items) (within_weights (flat_map mark_numbers v.items))
    stands (le-leb 1 (length v.items) some) (le-leb (length v.items) most_nodes most)
  where
    by_tests : (a b c d e f : Bool) → a ≡ true → b ≡ true → c ≡ true → ((d && e) && f) ≡ ((((a && (b && c)) && d) && f) && e)
    by_tests a b c true true true ea eb ec = rw (ea, eb, ec) refl
    by_tests a b c true true false ea eb ec = rw (ea, eb, ec) refl
    by_tests a b c true false true ea eb ec = rw (ea, eb, ec) refl
    by_tests a b c true false false ea eb ec = rw (ea, eb, ec) refl
    by_tests a b c false e f ea eb ec = rw (ea, eb, ec) refl
