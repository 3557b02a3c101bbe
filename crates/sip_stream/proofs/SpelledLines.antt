-- The line of an update says that update.
use Rattle.std.proofs.Common.{◌≡◌, ◌≢◌, ℕ, suc, ◌+◌, ◌^◌, ◌<◌, ◌≤◌, true, false, List, [], ◌∷◌, ◌++◌, length, get_or, append-nil, inl, inr, All, ℤ, pos, negsuc, None, Some, refl, sym, ap, ◌∙◌, append_assoc, length-append, arith, w64}
use Rattle.std.specs.Prelude.{FitsSigned, codes, decimal, nat_le, nat_lt, option_and_then, if◌then◌else◌}
use Rattle.std.specs.Fmt.{signed_decimal}
use Rattle.std.specs.Str.{all_ascii_digits}
use Rattle.std.proofs.lemmas.Bool.{ne_eqb, lt-ltb, cases_lt}
use Rattle.std.proofs.lemmas.Bool.Decides.{Decides-eqb, eqb_tells, nat_tests}
use Rattle.std.proofs.lemmas.Fmt.{decimal_nonempty, decimal_digit, first_decimal, digits_decimal, length-decimal-le, length_signed_le}
use Rattle.std.proofs.lemmas.List.Elements.{All-head, All-tail, All-append, All-cons, All-from_get_or}
use Rattle.std.proofs.lemmas.Str.Parse.{not_in_digits}
use Rattle.sip_vector.specs.declared.update.Side.{Side}
use Rattle.sip_vector.specs.declared.update.Side.TheVariants.{First, Second}
use Rattle.sip_vector.specs.declared.update.Update.{Update}
use Rattle.sip_stream.specs.Lines.{most_line, parts_at, is_decimal, decimal_at, item_at, above_zero, below_zero, delta_at, three, numbers_at, lines_from}
use Rattle.sip_stream.specs.Spellings.{side_number, line_bytes}
use Rattle.sip_stream.proofs.Digits.{model, spelling_read}

-- no byte of these is that one
abbrev pub Lacks : ℕ → List ℕ → Type 0
Lacks mark bytes = All (λ b. b ≢ mark) bytes

lacks-decimal : (mark n : ℕ) → mark < 48 → n < 2 ^ 64 → Lacks mark (decimal n)
lacks-decimal mark n below small =
    All-from_get_or (λ b. b ≢ mark) (decimal n) 0 (λ i lt. not_in_digits model (decimal n) mark (digits_decimal model n small) (λ range. omega (arith, range.0, below)) i lt)

lacks-signed : (mark : ℕ) (z : ℤ) → mark < 45 → FitsSigned w64 z → Lacks mark (signed_decimal z)
lacks-signed mark (pos n) below fits = lacks-decimal mark n (omega arith) (omega (arith, fits.sfits))
lacks-signed mark (negsuc n) below fits =
    All-cons (λ b. b ≢ mark) 45 (decimal (suc n)) (λ e. omega (arith, e)) (lacks-decimal mark (suc n) (omega arith) (omega (arith, fits.sfits)))

-- where bytes lack the mark, they are the part in front of it
pub parts_at-mark : (mark : ℕ) (text rest : List ℕ) → Lacks mark text → parts_at mark (text ++ mark ∷ rest) ≡ Some (text, rest)
parts_at-mark mark [] rest lacks = rw ((Decides-eqb mark mark).1 refl) refl
parts_at-mark mark (b ∷ bs) rest lacks =
    let other = ne_eqb b mark (All-head (λ x. x ≢ mark) b bs lacks) in
    let later = parts_at-mark mark bs rest (All-tail (λ x. x ≢ mark) b bs lacks) in
    rw (other, later) refl

not_long : (n : ℕ) → n < most_line → nat_le most_line n ≡ false
not_long n short = grind (arith, nat_tests)

-- bytes without a line feed, and one behind them, are a line
pub lines_from-feed : (front text rest : List ℕ) → Lacks 10 text → length front + length text < most_line → lines_from front (text ++ 10 ∷ rest) ≡ (front ++ text ++ 10 ∷ []) ∷ lines_from [] rest
lines_from-feed front [] rest lacks short = rw (append-nil front) refl
lines_from-feed front (b ∷ bs) rest lacks short =
    let other = ne_eqb b 10 (All-head (λ x. x ≢ 10) b bs lacks) in
    let room = not_long (length front) (omega (arith, short)) in
    let later = lines_from-feed (front ++ b ∷ []) bs rest (All-tail (λ x. x ≢ 10) b bs lacks) (omega (arith, short, length-append front (b ∷ []))) in
    let same : (front ++ b ∷ []) ++ bs ≡ front ++ (b ∷ bs) = append_assoc front (b ∷ []) bs in
    rw (other, room) (later ∙ ap (λ l. (l ++ 10 ∷ []) ∷ lines_from [] rest) same)

-- a decimal number is `0`, or begins above it
begins_decimal : (n : ℕ) → n < 2 ^ 64 → get_or (decimal n) 0 0 ≡ 48 → length (decimal n) ≡ 1
begins_decimal n small zero_first =
    elim (cases_lt 0 n) [
      | inl above ↦ let first = first_decimal n above small in absurd (omega (arith, first, zero_first))
      | inr none ↦ let same : n ≡ 0 = omega (arith, none) in rw (same, decimal_digit 0 (omega arith)) refl
    ]

is_decimal-from : (ds : List ℕ) → all_ascii_digits ds ≡ true → 0 < length ds → (get_or ds 0 0 ≡ 48 → length ds ≡ 1) → is_decimal ds ≡ true
is_decimal-from [] all some alone = absurd (omega (arith, some))
is_decimal-from (b ∷ bs) all some alone =
    elim (eqb_tells b 48) [
      | inl t ↦ let none : length bs ≡ 0 = omega (arith, alone t.1) in rw (all, t.0, none) refl
      | inr t ↦ rw (all, t.0) refl
    ]

item_at-decimal : (n : ℕ) → n < 2 ^ 64 → item_at (decimal n) ≡ Some n
item_at-decimal n small = ap (option_and_then (λ m. if nat_lt m (2 ^ 64) then Some m else None)) (spelling_read n small) ∙ rw (lt-ltb n (2 ^ 64) small) refl

delta_at-plain : (ds : List ℕ) → 0 < length ds → get_or ds 0 0 ≢ 45 → delta_at ds ≡ option_and_then above_zero (decimal_at ds)
delta_at-plain [] some other = absurd (omega (arith, some))
delta_at-plain (b ∷ bs) some other = rw (ne_eqb b 45 other) refl

above_zero-is : (n : ℕ) → n < 2 ^ 63 → above_zero n ≡ Some (pos n)
above_zero-is n small = rw (lt-ltb n (2 ^ 63) small) refl

below_zero-is : (n : ℕ) → n < 2 ^ 63 → below_zero (suc n) ≡ Some (negsuc n)
below_zero-is n small = rw (lt-ltb n (2 ^ 63) small) refl

pub delta_at-decimal : (z : ℤ) → FitsSigned w64 z → delta_at (signed_decimal z) ≡ Some z
delta_at-decimal (pos n) fits =
    let small : n < 2 ^ 64 = omega (arith, fits.sfits) in
    let some = decimal_nonempty n small in
    let plain = delta_at-plain (decimal n) some (lacks-decimal 45 n (omega arith) small 0 0 some) in
    plain ∙ ap (option_and_then above_zero) (spelling_read n small) ∙ above_zero-is n (omega (arith, fits.sfits))
delta_at-decimal (negsuc n) fits =
    ap (option_and_then below_zero) (spelling_read (suc n) (omega (arith, fits.sfits))) ∙ below_zero-is n (omega (arith, fits.sfits))

-- the text of three numbers, without its line feed
abbrev pub text_of : ℕ → ℕ → ℤ → List ℕ
text_of s i z = decimal s ++ 32 ∷ (decimal i ++ 32 ∷ signed_decimal z)

numbers_at-parts : (text rest a b c : List ℕ) (s i : ℕ) (z : ℤ) → parts_at 32 text ≡ Some (a, rest) → parts_at 32 rest ≡ Some (b, c)
    → decimal_at a ≡ Some s → item_at b ≡ Some i → delta_at c ≡ Some z → numbers_at text ≡ three (Some s) (Some i) (Some z)
numbers_at-parts text rest a b c s i z first second side item delta = rw (first, numbers_at) (rw second (rw (side, item, delta) refl))

pub numbers_at-text : (s i : ℕ) (z : ℤ) → s < 2 ^ 64 → i < 2 ^ 64 → FitsSigned w64 z → numbers_at (text_of s i z) ≡ Some (record { side = s; item = i; delta = z })
numbers_at-text s i z side item fits =
    let rest = decimal i ++ 32 ∷ signed_decimal z in
    let first = parts_at-mark 32 (decimal s) rest (lacks-decimal 32 s (omega arith) side) in
    let second = parts_at-mark 32 (decimal i) (signed_decimal z) (lacks-decimal 32 i (omega arith) item) in
    numbers_at-parts (text_of s i z) rest (decimal s) (decimal i) (signed_decimal z) s i z first second (spelling_read s side) (item_at-decimal i item) (delta_at-decimal z fits)

pub lacks-text : (s i : ℕ) (z : ℤ) → s < 2 ^ 64 → i < 2 ^ 64 → FitsSigned w64 z → Lacks 10 (text_of s i z)
lacks-text s i z side item fits =
    let P : ℕ → Type 0 = λ b. b ≢ 10 in
    let delta = All-cons P 32 (signed_decimal z) (λ e. omega (arith, e)) (lacks-signed 10 z (omega arith) fits) in
    let rest = All-cons P 32 (decimal i ++ 32 ∷ signed_decimal z) (λ e. omega (arith, e)) (All-append P (decimal i) (32 ∷ signed_decimal z) (lacks-decimal 10 i (omega arith) item) delta) in
    All-append P (decimal s) (32 ∷ (decimal i ++ 32 ∷ signed_decimal z)) (lacks-decimal 10 s (omega arith) side) rest

length-text : (s i : ℕ) (z : ℤ) → s < 10 → i < 2 ^ 48 → FitsSigned w64 z → length (text_of s i z) ≤ 38
length-text s i z side item fits =
    let front = length-decimal-le 1 s (omega arith) (omega (arith, side)) (omega (arith, side)) in
    let middle = length-decimal-le 15 i (omega arith) (omega (arith, item)) (omega (arith, item)) in
    let back = length_signed_le 19 z (omega (arith, fits.sfits)) fits.sfits in
    omega (arith, front, middle, back, length-append (decimal s) (32 ∷ (decimal i ++ 32 ∷ signed_decimal z)), length-append (decimal i) (32 ∷ signed_decimal z))

regroup : (a b c : List ℕ) → (((a ++ 32 ∷ []) ++ b) ++ 32 ∷ []) ++ c ≡ a ++ 32 ∷ (b ++ 32 ∷ c)
regroup a b c = simp append_assoc refl

pub side_small : (s : Side) → side_number s < 10
side_small First = omega arith
side_small Second = omega arith

-- an update's line without its line feed
abbrev pub text : Update → List ℕ
text u = text_of (side_number u.side) u.item u.delta

pub line-text : (u : Update) → line_bytes u ≡ text u ++ 10 ∷ []
unfolding line_bytes
line-text u = ap (λ l. l ++ 10 ∷ []) (regroup (decimal (side_number u.side)) (decimal u.item) (signed_decimal u.delta))

pub text-lacks : (u : Update) → u.item < 2 ^ 48 → FitsSigned w64 u.delta → Lacks 10 (text u)
text-lacks u item fits = lacks-text (side_number u.side) u.item u.delta (omega (arith, side_small u.side)) (omega (arith, item)) fits

pub length-line : (u : Update) → u.item < 2 ^ 48 → FitsSigned w64 u.delta → length (line_bytes u) ≤ 39
length-line u item fits =
    let short = length-text (side_number u.side) u.item u.delta (side_small u.side) item fits in
    rw (line-text u) (omega (arith, short, length-append (text u) (10 ∷ [])))

-- a line has its line feed at least
pub some_line : (u : Update) → 0 < length (line_bytes u)
some_line u = rw (line-text u) (omega (arith, length-append (text u) (10 ∷ [])))

-- a side and a space
side_line : (s : Side) → (48 + side_number s) ∷ 32 ∷ [] ≡ decimal (side_number s) ++ codes " "
side_line First = ap (λ l. l ++ 32 ∷ []) (sym (decimal_digit 0 (omega arith)))
side_line Second = ap (λ l. l ++ 32 ∷ []) (sym (decimal_digit 1 (omega arith)))

-- the parts of a line behind others
pub line_built : (u : Update) (start one two three four all : List ℕ) → one ≡ start ++ (48 + side_number u.side) ∷ 32 ∷ [] → two ≡ one ++ decimal u.item → three ≡ two ++ codes " " → four ≡ three ++ signed_decimal u.delta → all ≡ four ++ 10 ∷ []
    → all ≡ start ++ line_bytes u
unfolding line_bytes
line_built u start one two three four all first second third fourth last =
    last ∙ ap (λ l. l ++ 10 ∷ []) (fourth ∙ ap (λ l. l ++ signed_decimal u.delta) (third ∙ ap (λ l. l ++ codes " ") (second ∙ ap (λ l. l ++ decimal u.item) (first ∙ ap (λ l. start ++ l) (side_line u.side)))))
    ∙ behind start (decimal (side_number u.side)) (codes " ") (decimal u.item) (signed_decimal u.delta) (10 ∷ [])
  where
    behind : (s a b c d e : List ℕ) → ((((s ++ (a ++ b)) ++ c) ++ b) ++ d) ++ e ≡ s ++ (((((a ++ b) ++ c) ++ b) ++ d) ++ e)
    behind s a b c d e = simp append_assoc refl
