-- The records that are read of bytes are a legal stream.
use Rattle.std.proofs.Common.{◌≡◌, ◌≢◌, ℕ, ◌^◌, ◌<◌, ◌≤◌, Bool, true, false, List, [], ◌∷◌, ◌++◌, length, pos, Option, Some, None, refl, ap, arith, if◌then◌else◌}
use Rattle.std.specs.Prelude.{nat_le, nat_lt, slice_index, option_and_then}
use Rattle.std.proofs.lemmas.Bool.Decides.{nat_tests}
use Rattle.std.proofs.lemmas.List.Elements.{All-append, All-cons, All-nil}
use Rattle.sip_vector.specs.declared.update.Side.{Side}
use Rattle.sip_vector.specs.declared.update.Side.TheVariants.{First, Second}
use Rattle.sip_vector.specs.declared.update.Update.{Update}
use Rattle.sip_vector.specs.Answers.{is_zero}
use Rattle.sip_vector.specs.Streams.{same_side, weight, most_weight, IsLegal}
use Rattle.sip_vector.proofs.Sides.{weight-append, weight-one_other_side}
use Rattle.sip_stream.specs.declared.form.Form.{Form}
use Rattle.sip_stream.specs.declared.why.Why.{Why}
use Rattle.sip_stream.specs.declared.why.Why.TheVariants.{Truncated, BadLine, BadSide, BadItem, ZeroDelta, TooHeavy}
use Rattle.sip_stream.specs.Layouts.{Layout, of_bytes, of_line, layout_of, record_size}
use Rattle.sip_stream.specs.Lines.{numbers_at, parts_at, most_line}
use Rattle.sip_stream.specs.Records.{update_fault, said, said_fault, update_at, fault_at, records_after, records, pieces_of}

-- ---- one update

-- a test that was passed, and then the rest
passed : (test : Bool) (why : Why) (rest : Option Why) → (if test then Some why else rest) ≡ None → (test ≡ false) × (rest ≡ None)
passed true why rest e = absurd (cc)
passed false why rest e = (refl, e)

-- a side's weight, once an update of this or the other side is added
still_light : (before : List Update) (u : Update) (own side : Side) → u.side ≡ own → weight (before ++ u ∷ []) own ≤ most_weight → weight before side ≤ most_weight → weight (before ++ u ∷ []) side ≤ most_weight
still_light before u First First is here old = here
still_light before u Second Second is here old = here
still_light before u First Second is here old = omega (arith, weight-append before (u ∷ []) Second, weight-one_other_side u Second (ap (λ s. same_side s Second) is))
still_light before u Second First is here old = omega (arith, weight-append before (u ∷ []) First, weight-one_other_side u First (ap (λ s. same_side s First) is))

pub legal_next : (depth : ℕ) (before : List Update) (u : Update) → IsLegal depth before → update_fault depth before u ≡ None → IsLegal depth (before ++ u ∷ [])
legal_next depth before u legal none =
    let item = passed (nat_le (2 ^ depth) u.item) BadItem _ none in
    let delta = passed (is_zero u.delta) ZeroDelta _ item.1 in
    let light = passed (nat_lt most_weight (weight (before ++ u ∷ []) u.side)) (TooHeavy u.side) None delta.1 in
    let below : u.item < 2 ^ depth = let test = item.0 in grind (arith, nat_tests) in
    let some : u.delta ≢ pos 0 = λ e. absurd (let zero : is_zero u.delta ≡ true = rw e refl in let not = delta.0 in cc) in
    let own : weight (before ++ u ∷ []) u.side ≤ most_weight = let test = light.0 in grind (arith, nat_tests) in
    record {
      items = All-append (λ (v : Update). v.item < 2 ^ depth) before (u ∷ []) legal.items (All-cons (λ (v : Update). v.item < 2 ^ depth) u [] below (All-nil (λ (v : Update). v.item < 2 ^ depth)));
      deltas = All-append (λ (v : Update). v.delta ≢ pos 0) before (u ∷ []) legal.deltas (All-cons (λ (v : Update). v.delta ≢ pos 0) u [] some (All-nil (λ (v : Update). v.delta ≢ pos 0)));
      first = still_light before u u.side First refl own legal.first;
      second = still_light before u u.side Second refl own legal.second;
    }

-- ---- one record

-- what a line's numbers say is without a fault, where the line is
line_said : {N : Type 0} (depth : ℕ) (before : List Update) (fault : N → Option Why) (say : N → Update) (none : Update) → ((n : N) → fault n ≡ None → update_fault depth before (say n) ≡ None)
    → (n : Option N) → ◌≡◌ {A = Option Why} (elim n [ None ↦ Some BadLine | Some n ↦ fault n ]) None → update_fault depth before (elim n [ None ↦ none | Some n ↦ say n ]) ≡ None
line_said depth before fault say none passes None e = absurd (cc)
line_said depth before fault say none passes (Some n) e = passes n e

line_parts : {P N : Type 0} (depth : ℕ) (before : List Update) (read : P → Option N) (fault : N → Option Why) (say : N → Update) (none : Update) → ((n : N) → fault n ≡ None → update_fault depth before (say n) ≡ None)
    → (parts : Option P) → ◌≡◌ {A = Option Why} (elim parts [ None ↦ Some Truncated | Some p ↦ elim (read p) [ None ↦ Some BadLine | Some n ↦ fault n ] ]) None
    → update_fault depth before (elim (option_and_then read parts) [ None ↦ none | Some n ↦ say n ]) ≡ None
line_parts depth before read fault say none passes None e = absurd (cc)
line_parts depth before read fault say none passes (Some p) e = line_said depth before fault say none passes (read p) e

record_passed : (depth : ℕ) (layout : Layout) (before : List Update) (piece : List ℕ) → fault_at layout depth before piece ≡ None → update_fault depth before (update_at layout piece) ≡ None
record_passed depth (of_bytes width) before piece e =
    let long = passed (nat_lt (length piece) (record_size width)) Truncated _ e in
    (passed (nat_lt 1 (slice_index piece 0)) BadSide _ long.1).1
record_passed depth of_line before piece e =
    line_parts depth before (λ (p : List ℕ × List ℕ). numbers_at p.0) (said_fault depth before) said (record { side = First; item = 0; delta = pos 0 }) (λ n none. (passed (nat_lt 1 n.side) BadSide _ none).1)
    (parts_at 10 piece) (passed (nat_lt most_line (length piece)) BadLine _ e).1

-- ---- all records

-- by the fault of the first record
by_fault : (depth : ℕ) (form : Form) (before : List Update) (piece : List ℕ) (more : List (List ℕ)) (fault : Option Why) → fault_at (layout_of form) depth before piece ≡ fault → IsLegal depth before
    → (fault_at (layout_of form) depth before piece ≡ None → IsLegal depth (records_after depth form (before ++ update_at (layout_of form) piece ∷ []) more).legal) → IsLegal depth (records_after depth form before (piece ∷ more)).legal
by_fault depth form before piece more None is legal later = rw (is, records_after) (later is)
by_fault depth form before piece more (Some why) is legal later = rw (is, records_after) legal

legal_after : (depth : ℕ) (form : Form) (before : List Update) (pieces : List (List ℕ)) → IsLegal depth before → IsLegal depth (records_after depth form before pieces).legal
legal_after depth form before [] legal = legal
legal_after depth form before (piece ∷ more) legal =
    by_fault depth form before piece more (fault_at (layout_of form) depth before piece) refl legal
    (λ none. legal_after depth form (before ++ update_at (layout_of form) piece ∷ []) more (legal_next depth before (update_at (layout_of form) piece) legal (record_passed depth (layout_of form) before piece none)))

pub records_legal : (depth : ℕ) (form : Form) (bytes : List ℕ) → IsLegal depth (records depth form bytes).legal
records_legal depth form bytes = legal_after depth form [] (pieces_of (layout_of form) bytes) (record {
  items = All-nil (λ (v : Update). v.item < 2 ^ depth);
  deltas = All-nil (λ (v : Update). v.delta ≢ pos 0);
  first = omega arith;
  second = omega arith;
})
