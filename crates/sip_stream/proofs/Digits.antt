-- Decimal numbers, digit by digit.
use Rattle.std.proofs.Common.{◌≡◌, ℕ, ◌+◌, ◌*◌, ◌^◌, ◌<◌, ◌≤◌, Bool, true, false, cond, eqb, List, [], ◌∷◌, length, drop, get_or, refl, sym, ap, ◌∙◌, arith, eq-eqb, eqb-true, add-one, inl, inr}
use Rattle.std.specs.Prelude.{Option, Some, None, MatchOption, option_and_then, nat_lt, if◌then◌else◌, ◌≢◌, not, ◌&&◌, ◌||◌, decimal}
use Rattle.std.specs.Char.{digit_value, is_ascii_digit}
use Rattle.std.specs.Str.{all_ascii_digits}
use Rattle.std.specs.Str.Parse.{digits_value, digits_value_after}
use Rattle.std.proofs.Math.Nat.{pow-succ', pow-le-pow_right}
use Rattle.std.proofs.lemmas.Bool.{and_parts, ne_eqb, cases_lt, ltb-true, lt-ltb, both_ways}
use Rattle.std.proofs.lemmas.Fmt.{decimal_digit, decimal_nonempty, first_decimal, digits_decimal, digits_value-decimal, decimal-digits_value, length-decimal-le}
use Rattle.std.proofs.lemmas.Str.Parse.{IsNumeralModel, numerals_by_value, tells_all_ascii_digits}
use Rattle.sip_stream.specs.Lines.{decimal_at, item_at}
use Rattle.sip_stream.proofs.Parts.{drop_cons}

-- the digits from a place on are those behind it and the one there
pub digits_step : (text : List ℕ) (i : ℕ) → i < length text → all_ascii_digits (drop i text) ≡ is_ascii_digit (get_or text i 0) && all_ascii_digits (drop (i + 1) text)
digits_step text i l = ap all_ascii_digits (drop_cons text i l)

pub value_step : (text : List ℕ) (i n : ℕ) → i < length text → digits_value_after 10 n (drop i text) ≡ digits_value_after 10 (n * 10 + digit_value (get_or text i 0)) (drop (i + 1) text)
value_step text i n l = ap (digits_value_after 10 n) (drop_cons text i l)

-- one more digit
pub small_step : (n d i : ℕ) → n < 10 ^ i → d < 10 → n * 10 + d < 10 ^ (i + 1)
small_step n d i small digit = let more : 10 ^ (i + 1) ≡ 10 * 10 ^ i = rw add-one (pow-succ' 10 i) in omega arith

-- up to 38 digits fit
pub small_fits : (n i : ℕ) → n < 10 ^ i → i < 38 → n < 10 ^ 37
small_fits n i small short = let le : i ≤ 37 = omega arith in let most : 10 ^ i ≤ 10 ^ 37 = pow-le-pow_right (omega arith) le in omega arith

-- up to 19 digits fit
pub few_fit : (n i : ℕ) → n < 10 ^ i → i < 19 → n < 10 ^ 18
few_fit n i small short = let le : i ≤ 18 = omega arith in let most : 10 ^ i ≤ 10 ^ 18 = pow-le-pow_right (omega arith) le in omega arith

abbrev chosen : List ℕ → Bool → Option ℕ
chosen text is = cond is (Some (digits_value 10 text)) None

pub no_digits : (text : List ℕ) → all_ascii_digits text ≡ false → None ≡ decimal_at text
no_digits [] e = cc
no_digits (b ∷ bs) e = ap (λ is. chosen (b ∷ bs) (is && (not (eqb b 48) || eqb (length bs) 0))) (sym e)

pub no_text : (text : List ℕ) → length text ≡ 0 → None ≡ decimal_at text
no_text [] e = refl
no_text (b ∷ bs) e = absurd (omega arith)

leads : (b : Bool) → b && false ≡ false
leads true = refl
leads false = refl

pub leading_zero : (text : List ℕ) → get_or text 0 0 ≡ 48 → 1 < length text → None ≡ decimal_at text
leading_zero [] e l = absurd (omega arith)
leading_zero (b ∷ bs) e l =
    let second : not (eqb b 48) || eqb (length bs) 0 ≡ false = ap (λ is. not is || eqb (length bs) 0) (eq-eqb b 48 e) ∙ ne_eqb (length bs) 0 (λ none. absurd (omega arith)) in
    sym (ap (λ is. chosen (b ∷ bs) (all_ascii_digits (b ∷ bs) && is)) second ∙ ap (chosen (b ∷ bs)) (leads (all_ascii_digits (b ∷ bs))))

-- the digits write a number, where none of them leads as a zero
pub reads_number : (text : List ℕ) (n : ℕ) → 0 < length text → (get_or text 0 0 ≡ 48 → length text ≤ 1) → all_ascii_digits text ≡ true → digits_value 10 text ≡ n → Some n ≡ decimal_at text
reads_number [] n some alone all value = absurd (omega arith)
reads_number (b ∷ bs) n some alone all value =
    sym (ap (λ is. chosen (b ∷ bs) (is && (not (eqb b 48) || eqb (length bs) 0))) all ∙ ap (chosen (b ∷ bs)) (second (eqb b 48) refl) ∙ ap Some value)
  where
    second : (is : Bool) → eqb b 48 ≡ is → not (eqb b 48) || eqb (length bs) 0 ≡ true
    second true e = ap (λ t. not t || eqb (length bs) 0) e ∙ eq-eqb (length bs) 0 (let most = alone (is_zero e) in omega arith)
      where
        is_zero : eqb b 48 ≡ true → b ≡ 48
        is_zero t = eqb-true b 48 t
    second false e = ap (λ t. not t || eqb (length bs) 0) e

-- ---- a decimal number has one spelling

-- digits and their value, in std's words
pub model : IsNumeralModel (λ ds. all_ascii_digits ds ≡ true) (digits_value 10)
model = numerals_by_value (λ ds. all_ascii_digits ds ≡ true) tells_all_ascii_digits

chosen_some : (text : List ℕ) (is : Bool) (n : ℕ) → chosen text is ≡ Some n → (is ≡ true) × (digits_value 10 text ≡ n)
chosen_some text true n e = (refl, cc)
chosen_some text false n e = cc

-- what is read as a number is its spelling
pub only_spelling : (text : List ℕ) (n : ℕ) → n < 2 ^ 64 → decimal_at text ≡ Some n → text ≡ decimal n
only_spelling [] n small e = cc
only_spelling (b ∷ bs) n small e =
    let is = chosen_some (b ∷ bs) (all_ascii_digits (b ∷ bs) && (not (eqb b 48) || eqb (length bs) 0)) n e in
    let parts = and_parts (all_ascii_digits (b ∷ bs)) (not (eqb b 48) || eqb (length bs) 0) is.0 in
    let fits : digits_value 10 (b ∷ bs) < 2 ^ 64 = omega (arith, is.1, small) in
    sym (decimal-digits_value model (b ∷ bs) parts.0 (omega arith) (alone parts.1) fits) ∙ ap decimal is.1
  where
    alone : (not (eqb b 48) || eqb (length bs) 0) ≡ true → b ≡ 48 → length (b ∷ bs) ≡ 1
    alone t leads =
        let none : length bs ≡ 0 = eqb-true (length bs) 0 (ap (λ is. not is || eqb (length bs) 0) (sym (eq-eqb b 48 leads)) ∙ t) in
        omega arith

-- a spelling is read as its number
pub spelling_read : (n : ℕ) → n < 2 ^ 64 → decimal_at (decimal n) ≡ Some n
spelling_read n small = sym (reads_number (decimal n) n (decimal_nonempty n small) alone (digits_decimal model n small) (digits_value-decimal model n small))
  where
    alone : get_or (decimal n) 0 0 ≡ 48 → length (decimal n) ≤ 1
    alone leads = elim (cases_lt 0 n) [
      | inl above ↦ let begins = first_decimal n above small in absurd (omega arith)
      | inr none ↦ let same : n ≡ 0 = omega arith in rw (same, decimal_digit 0 (omega arith)) (omega arith)
    ]

-- it has at most 20 digits
pub spelling_short : (n : ℕ) → n < 2 ^ 64 → length (decimal n) ≤ 20
spelling_short n small = length-decimal-le 20 n (omega arith) (omega arith) small

-- a text that is read as a number below 2^64 is its spelling, and no such number is spelled as one that is not
pub item_tells : (text : List ℕ) → MatchOption (item_at text) ((n : ℕ) → n < 2 ^ 64 → text ≢ decimal n) (λ n. text ≡ decimal n)
item_tells text = by_number (decimal_at text) refl
  where
    by_size : (m : ℕ) (is : Bool) → nat_lt m (2 ^ 64) ≡ is → decimal_at text ≡ Some m
        → MatchOption (if is then Some m else None) ((n : ℕ) → n < 2 ^ 64 → text ≢ decimal n) (λ n. text ≡ decimal n)
    by_size m true small e = only_spelling text m (ltb-true m (2 ^ 64) small) e
    by_size m false great e = λ n small same.
        let read : Some m ≡ Some n = sym e ∙ ap decimal_at same ∙ spelling_read n small in
        let alike : m ≡ n = cc in
        both_ways (nat_lt m (2 ^ 64)) great (rw alike (lt-ltb n (2 ^ 64) small))

    by_number : (number : Option ℕ) → decimal_at text ≡ number
        → MatchOption (option_and_then (λ n. if nat_lt n (2 ^ 64) then Some n else None) number) ((n : ℕ) → n < 2 ^ 64 → text ≢ decimal n) (λ n. text ≡ decimal n)
    by_number None e = λ n small same. let read : None ≡ Some n = sym e ∙ ap decimal_at same ∙ spelling_read n small in cc
    by_number (Some m) e = by_size m (nat_lt m (2 ^ 64)) refl e
