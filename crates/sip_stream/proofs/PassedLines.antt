-- Lines that are passed over: they are the spellings of their updates.
use Rattle.std.proofs.Common.{◌≡◌, ℕ, zero, suc, ◌^◌, ◌<◌, Bool, true, false, eqb, eqb-true, List, [], ◌∷◌, ◌++◌, ℤ, pos, negsuc, None, Some, Option, refl, sym, ap, ◌∙◌, arith}
use Rattle.std.specs.Prelude.{Result, Ok, Err, decimal, nat_lt, option_and_then, if◌then◌else◌}
use Rattle.std.specs.Fmt.{signed_decimal}
use Rattle.std.proofs.lemmas.Bool.{lt-ltb, ltb-true, true≢false}
use Rattle.std.proofs.lemmas.Option.{same_Some}
use Rattle.sip_vector.specs.declared.update.Update.{Update}
use Rattle.sip_stream.specs.declared.form.Form.{Form}
use Rattle.sip_stream.specs.declared.numbers.Numbers.{Numbers}
use Rattle.sip_stream.specs.declared.why.Why.{Why}
use Rattle.sip_stream.specs.declared.why.Why.TheVariants.{BadLine, BadSide}
use Rattle.sip_stream.specs.Layouts.{layout_of, of_line}
use Rattle.sip_stream.specs.Lines.{parts_at, decimal_at, item_at, delta_at, numbers_at, three, above_zero, below_zero}
use Rattle.sip_stream.specs.Pieces.{line_said}
use Rattle.sip_stream.specs.Records.{said}
use Rattle.sip_stream.specs.Spellings.{all_spelled, line_bytes, side_number, spelled}
use Rattle.sip_stream.proofs.Digits.{item_tells, only_spelling}
use Rattle.sip_stream.proofs.Parts.{first_step}
use Rattle.sip_stream.proofs.PassedRecords.{all_spelled-one, side_spelled}
use Rattle.sip_stream.proofs.SpelledLines.{line-text, text_of}

-- the two parts of a text and the mark between them are the text
parts_whole : (mark : ℕ) (text : List ℕ) (parts : List ℕ × List ℕ) → parts_at mark text ≡ Some parts → text ≡ parts.0 ++ mark ∷ parts.1
parts_whole mark [] parts e = cc
parts_whole mark (b ∷ bs) parts e = by (eqb b mark) (parts_at mark bs) (λ p. parts_whole mark bs p) refl refl e
  where
    by : (is : Bool) (rest : Option (List ℕ × List ℕ)) → ((p : List ℕ × List ℕ) → parts_at mark bs ≡ Some p → bs ≡ p.0 ++ mark ∷ p.1) → eqb b mark ≡ is → parts_at mark bs ≡ rest → first_step b bs is rest ≡ Some parts → b ∷ bs ≡ parts.0 ++ mark ∷ parts.1
    by true rest more found later e =
        let same = same_Some ([], bs) parts e in
        ap (λ x. x ∷ bs) (eqb-true b mark found) ∙ ap (λ (p : List ℕ × List ℕ). p.0 ++ mark ∷ p.1) same
    by false None more found later e = cc
    by false (Some p) more found later e =
        let same = same_Some (b ∷ p.0, p.1) parts e in
        ap (λ l. b ∷ l) (more p later) ∙ ap (λ (q : List ℕ × List ℕ). q.0 ++ mark ∷ q.1) same

-- what a step on what is there answers
and_then_some : {X Y : Type 0} (f : X → Option Y) (o : Option X) (y : Y) → option_and_then f o ≡ Some y → (x : X) × (o ≡ Some x) × (f x ≡ Some y)
and_then_some f None y e = cc
and_then_some f (Some x) y e = (x, refl, e)

-- three numbers are there
three_parts : (s i : Option ℕ) (d : Option ℤ) (n : Numbers) → three s i d ≡ Some n → (s ≡ Some n.side) × (i ≡ Some n.item) × (d ≡ Some n.delta)
three_parts None i d n e = cc
three_parts (Some s) None d n e = cc
three_parts (Some s) (Some i) None n e = cc
three_parts (Some s) (Some i) (Some d) n e =
    let same = same_Some (record { side = s; item = i; delta = d }) n e in
    (ap (λ (m : Numbers). Some m.side) same, ap (λ (m : Numbers). Some m.item) same, ap (λ (m : Numbers). Some m.delta) same)

-- a number that is no delta below zero, or its spelling
below_spelled : (m : ℕ) (z : ℤ) → below_zero m ≡ Some z → (m < 2 ^ 64) × (signed_decimal z ≡ 45 ∷ decimal m)
below_spelled zero z e = cc
below_spelled (suc n) z e = by (nat_lt n (2 ^ 63)) refl e
  where
    by : (is : Bool) → nat_lt n (2 ^ 63) ≡ is → (if is then Some (negsuc n) else None) ≡ Some z → (suc n < 2 ^ 64) × (signed_decimal z ≡ 45 ∷ decimal (suc n))
    by true small e = let least = ltb-true n (2 ^ 63) small in (omega (arith, least), sym (ap signed_decimal (same_Some (negsuc n) z e)))
    by false great e = cc

above_spelled : (m : ℕ) (z : ℤ) → above_zero m ≡ Some z → (m < 2 ^ 64) × (signed_decimal z ≡ decimal m)
above_spelled m z e = by (nat_lt m (2 ^ 63)) refl e
  where
    by : (is : Bool) → nat_lt m (2 ^ 63) ≡ is → (if is then Some (pos m) else None) ≡ Some z → (m < 2 ^ 64) × (signed_decimal z ≡ decimal m)
    by true small e = let least = ltb-true m (2 ^ 63) small in (omega (arith, least), sym (ap signed_decimal (same_Some (pos m) z e)))
    by false great e = cc

-- what is read as a delta is its spelling
delta_spelled : (text : List ℕ) (z : ℤ) → delta_at text ≡ Some z → text ≡ signed_decimal z
delta_spelled [] z e = cc
delta_spelled (b ∷ bs) z e = by (eqb b 45) refl e
  where
    by : (is : Bool) → eqb b 45 ≡ is → (if is then option_and_then below_zero (decimal_at bs) else option_and_then above_zero (decimal_at (b ∷ bs))) ≡ Some z → b ∷ bs ≡ signed_decimal z
    by true minus e =
        let m = and_then_some below_zero (decimal_at bs) z e in
        let is = below_spelled m.0 z m.2 in
        ap (λ x. x ∷ bs) (eqb-true b 45 minus) ∙ ap (λ l. 45 ∷ l) (only_spelling bs m.0 is.0 m.1) ∙ sym is.1
    by false plain e =
        let m = and_then_some above_zero (decimal_at (b ∷ bs)) z e in
        let is = above_spelled m.0 z m.2 in
        only_spelling (b ∷ bs) m.0 is.0 m.1 ∙ sym is.1

-- the numbers of a text, by its first part
abbrev numbers_in : Option (List ℕ × List ℕ) → Option Numbers
numbers_in None = None
numbers_in (Some first) = elim (parts_at 32 first.1) [
  | None ↦ None
  | Some second ↦ three (decimal_at first.0) (item_at second.0) (delta_at second.1)
]

abbrev numbers_behind : List ℕ → Option (List ℕ × List ℕ) → Option Numbers
numbers_behind first None = None
numbers_behind first (Some second) = three (decimal_at first) (item_at second.0) (delta_at second.1)

-- the text of three numbers is their spelling, where the first is below 2^64
text_spelled : (text : List ℕ) (n : Numbers) → n.side < 2 ^ 64 → numbers_at text ≡ Some n → text ≡ text_of n.side n.item n.delta
text_spelled text n small e = by (parts_at 32 text) refl e
  where
    all : (first second : List ℕ × List ℕ) → parts_at 32 text ≡ Some first → parts_at 32 first.1 ≡ Some second → three (decimal_at first.0) (item_at second.0) (delta_at second.1) ≡ Some n → text ≡ text_of n.side n.item n.delta
    all first second one two e =
        let p = three_parts (decimal_at first.0) (item_at second.0) (delta_at second.1) n e in
        let side = only_spelling first.0 n.side small p.0 in
        let item : second.0 ≡ decimal n.item = rw p.1 at (item_tells second.0) in
        let delta = delta_spelled second.1 n.delta p.2 in
        parts_whole 32 text first one ∙ ap (λ l. l ++ 32 ∷ first.1) side ∙ ap (λ l. decimal n.side ++ 32 ∷ l) (parts_whole 32 first.1 second two)
        ∙ ap (λ l. decimal n.side ++ 32 ∷ (l ++ 32 ∷ second.1)) item ∙ ap (λ l. decimal n.side ++ 32 ∷ (decimal n.item ++ 32 ∷ l)) delta

    behind : (first : List ℕ × List ℕ) (o : Option (List ℕ × List ℕ)) → parts_at 32 text ≡ Some first → parts_at 32 first.1 ≡ o → numbers_behind first.0 o ≡ Some n → text ≡ text_of n.side n.item n.delta
    behind first None one two e = cc
    behind first (Some second) one two e = all first second one two e

    by : (o : Option (List ℕ × List ℕ)) → parts_at 32 text ≡ o → numbers_in o ≡ Some n → text ≡ text_of n.side n.item n.delta
    by None one e = cc
    by (Some first) one e = behind first (parts_at 32 first.1) one refl e

-- what a line says
abbrev answer_in : Option Numbers → Result Update Why
answer_in None = Err BadLine
answer_in (Some n) = if nat_lt 1 n.side then Err BadSide else Ok (said n)

-- the numbers of a line that says an update
numbers_said : (text : List ℕ) (u : Update) → Ok u ≡ line_said text → (n : Numbers) × (numbers_at text ≡ Some n) × (nat_lt 1 n.side ≡ false) × (u ≡ said n)
numbers_said text u e = by (numbers_at text) refl e
  where
    side : (n : Numbers) (is : Bool) → numbers_at text ≡ Some n → nat_lt 1 n.side ≡ is → Ok u ≡ (if is then Err BadSide else Ok (said n)) → (m : Numbers) × (numbers_at text ≡ Some m) × (nat_lt 1 m.side ≡ false) × (u ≡ said m)
    side n true is one e = cc
    side n false is one e = (n, is, one, cc)

    by : (o : Option Numbers) → numbers_at text ≡ o → Ok u ≡ answer_in o → (n : Numbers) × (numbers_at text ≡ Some n) × (nat_lt 1 n.side ≡ false) × (u ≡ said n)
    by None is e = cc
    by (Some n) is e = side n (nat_lt 1 n.side) is refl e

-- a number that is at most one
small_side : (b : ℕ) → nat_lt 1 b ≡ false → b < 2 ^ 64
small_side zero e = omega arith
small_side (suc zero) e = omega arith
small_side (suc (suc b)) e = absurd (true≢false (sym (lt-ltb 1 (suc (suc b)) (omega arith)) ∙ e))

-- a line is the spelling of the update that it says
pub line_spelled : (line : List ℕ) (u : Update) → Ok u ≡ line_said line → line_bytes u ≡ line ++ 10 ∷ []
line_spelled line u e =
    let is = numbers_said line u e in
    let n = is.0 in
    let side : side_number (said n).side ≡ n.side = side_spelled n.side (nat_lt 1 n.side) refl is.2 in
    ap line_bytes is.3 ∙ line-text (said n) ∙ ap (λ s. text_of s n.item n.delta ++ 10 ∷ []) side ∙ ap (λ l. l ++ 10 ∷ []) (sym (text_spelled line n (small_side n.side is.2) is.1))

-- one more line was passed
pub passed_line : (form : Form) (us : List Update) (u : Update) (taken line : List ℕ) → layout_of form ≡ of_line → all_spelled form us ≡ taken → Ok u ≡ line_said line → all_spelled form (us ++ u ∷ []) ≡ taken ++ (line ++ 10 ∷ [])
passed_line form us u taken line layout so said =
    all_spelled-one form us u ∙ ap (λ l. l ++ spelled (layout_of form) u) so ∙ ap (λ l. taken ++ spelled l u) layout ∙ ap (λ l. taken ++ l) (line_spelled line u said)
