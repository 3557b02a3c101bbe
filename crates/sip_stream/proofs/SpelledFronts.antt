-- What lies in front of bytes is how a number, or an update, is spelled.
use Rattle.std.proofs.Common.{◌≡◌, ◌≢◌, ℕ, zero, suc, ◌+◌, ◌^◌, ◌<◌, ◌≤◌, List, [], ◌∷◌, ◌++◌, length, get_or, length-append, take, drop, pos, negsuc, ◌-ℤ◌, to_z, of_z, ◌-◌, false, None, Ok, refl, sym, ap, ◌∙◌, arith, w64}
use Rattle.std.specs.Prelude.{FitsSigned, decimal, nat_lt, ◌==◌, if◌then◌else◌}
use Rattle.std.specs.Fmt.{signed_decimal}
use Rattle.std.specs.Str.Parse.{AllDigits, digits_value}
use Rattle.std.proofs.Math.Nat.{pow-le-pow_right}
use Rattle.std.proofs.Math.Seq.{take-add}
use Rattle.std.proofs.lemmas.Bool.{ne_eqb}
use Rattle.std.proofs.lemmas.Bool.Decides.{nat_tests}
use Rattle.std.proofs.lemmas.Fmt.{decimal-digits_value}
use Rattle.std.proofs.lemmas.Int.{to_z-of_z, to_z_pos}
use Rattle.std.proofs.lemmas.Int.Digits.{digits_value-lt}
use Rattle.std.proofs.lemmas.List.{get_or-take, length-take-le}
use Rattle.std.proofs.lemmas.List.Elements.{All-head, All-tail}
use Rattle.std.proofs.lemmas.Str.Parse.{IsNumeralModel, numerals_by_value, tells_digits}
use Rattle.sip_vector.specs.declared.update.Side.{Side}
use Rattle.sip_vector.specs.declared.update.Side.TheVariants.{First, Second}
use Rattle.sip_vector.specs.declared.update.Update.{Update}
use Rattle.sip_stream.specs.Lines.{parts_at}
use Rattle.sip_stream.specs.Pieces.{HoldsLine, line_said}
use Rattle.sip_stream.specs.Spellings.{side_number, line_bytes}
use Rattle.sip_stream.proofs.Parts.{take_more}
use Rattle.sip_stream.proofs.PassedRecords.{side_spelled}
use Rattle.sip_stream.proofs.ReadBack.{side_is_one, said_back}
use Rattle.sip_stream.proofs.SpelledLines.{Lacks, text, lacks-text, line-text, line_built, numbers_at-text, side_small}

-- digits and their value, in std's words
model : IsNumeralModel (AllDigits 10) (digits_value 10)
model = numerals_by_value (AllDigits 10) tells_digits

-- up to 16 digits write a number below 10^16
pub few_small : (n i : ℕ) → n < 10 ^ i → i ≤ 16 → n < 10 ^ 16
few_small n i small few = let most : 10 ^ i ≤ 10 ^ 16 = pow-le-pow_right (omega arith) few in omega (arith, small, most)

-- digits that no zero leads spell their number
pub number_read : (bytes : List ℕ) (n i : ℕ) → i ≤ length bytes → 0 < i → i ≤ 16 → (get_or bytes 0 0 ≡ 48 → i ≤ 1) → AllDigits 10 (take i bytes) → digits_value 10 (take i bytes) ≡ n
    → take i bytes ≡ decimal n
number_read bytes n i within some few alone all value =
    let front : List ℕ = take i bytes in
    let len : length front ≡ i = length-take-le i bytes within in
    let first : get_or front 0 0 ≡ get_or bytes 0 0 = get_or-take i bytes 0 0 some in
    let below : digits_value 10 front < 10 ^ length front = digits_value-lt 10 front all in
    let least : digits_value 10 front < 10 ^ 16 = few_small (digits_value 10 front) (length front) below (omega (arith, len, few)) in
    sym (decimal-digits_value model front all (omega (arith, len, some)) (λ e. omega (arith, len, some, alone (sym first ∙ e))) (omega (arith, least))) ∙ ap decimal value

-- a minus sign and a number's spelling spell the number below zero
pub minus_read : (bytes : List ℕ) (n i : ℕ) → 0 < length bytes → get_or bytes 0 0 ≡ 45 → take i (drop 1 bytes) ≡ decimal (suc n) → take (i + 1) bytes ≡ signed_decimal (negsuc n)
minus_read [] n i some minus rest = absurd (omega (arith, some))
minus_read (b ∷ bs) n i some minus rest =
    ap (λ k. take k (b ∷ bs)) (let same : i + 1 ≡ suc i = omega arith in same) ∙ ap (λ x. x ∷ take i bs) minus ∙ ap (λ l. 45 ∷ l) rest

one_less : (m : ℕ) → negsuc 0 -ℤ pos m ≡ negsuc m
one_less zero = refl
one_less (suc m) = ap negsuc (omega arith)

-- the number below zero, as it is computed
pub negated : (m : ℕ) → m < 10 ^ 16 → to_z w64 (of_z w64 (negsuc 0 -ℤ to_z w64 m)) ≡ negsuc m
negated m small =
    let plain : to_z w64 m ≡ pos m = to_z_pos w64 m (omega (arith, small)) in
    ap (λ z. to_z w64 (of_z w64 (negsuc 0 -ℤ z))) plain ∙ ap (λ z. to_z w64 (of_z w64 z)) (one_less m) ∙ to_z-of_z w64 (negsuc m) (record { sfits = omega (arith, small) })

-- a side's digit
pub side_digit : (b : ℕ) (side : Side) → 48 ≤ b → b ≤ 49 → side ≡ (if (b - 48) == 0 then First else Second) → b ≡ 48 + side_number side
side_digit b side low high is =
    let small : nat_lt 1 (b - 48) ≡ false = grind (arith, nat_tests) in
    let number : side_number side ≡ b - 48 = ap side_number is ∙ side_spelled (b - 48) (nat_lt 1 (b - 48)) refl small in
    omega (arith, low, number)

two_read : (bytes : List ℕ) (a b : ℕ) → 2 ≤ length bytes → get_or bytes 0 0 ≡ a → get_or bytes 1 0 ≡ b → take 2 bytes ≡ a ∷ b ∷ []
two_read [] a b long first second = absurd (omega (arith, long))
two_read (x ∷ []) a b long first second = absurd (omega (arith, long))
two_read (x ∷ y ∷ bs) a b long first second = ap (λ z. z ∷ y ∷ []) first ∙ ap (λ z. a ∷ z ∷ []) second

-- the side, a space, the item, a space, the delta and a line feed are the line of the update
pub line_read : (bytes : List ℕ) (u : Update) (i z : ℕ) → 2 + i + 1 + z < length bytes → get_or bytes 0 0 ≡ 48 + side_number u.side → get_or bytes 1 0 ≡ 32 → take i (drop 2 bytes) ≡ decimal u.item
    → get_or bytes (2 + i) 0 ≡ 32 → take z (drop (2 + i + 1) bytes) ≡ signed_decimal u.delta → get_or bytes (2 + i + 1 + z) 0 ≡ 10 → take (2 + i + 1 + z + 1) bytes ≡ line_bytes u
line_read bytes u i z long side space item gap delta feed =
    line_built u [] (take 2 bytes) (take (2 + i) bytes) (take (2 + i + 1) bytes) (take (2 + i + 1 + z) bytes) (take (2 + i + 1 + z + 1) bytes)
    (two_read bytes (48 + side_number u.side) 32 (omega (arith, long)) side space)
    (take-add 2 i bytes ∙ ap (λ l. take 2 bytes ++ l) item)
    (take_more bytes (2 + i) (omega (arith, long)) ∙ ap (λ b. take (2 + i) bytes ++ b ∷ []) gap)
    (take-add (2 + i + 1) z bytes ∙ ap (λ l. take (2 + i + 1) bytes ++ l) delta)
    (take_more bytes (2 + i + 1 + z) long ∙ ap (λ b. take (2 + i + 1 + z) bytes ++ b ∷ []) feed)

-- bytes that lack the mark have no part in front of it
lacks_none : (mark : ℕ) (xs : List ℕ) → Lacks mark xs → parts_at mark xs ≡ None
lacks_none mark [] lacks = refl
lacks_none mark (b ∷ bs) lacks =
    let other = ne_eqb b mark (All-head (λ x. x ≢ mark) b bs lacks) in
    let later = lacks_none mark bs (All-tail (λ x. x ≢ mark) b bs lacks) in
    rw (other, later) refl

-- the text of an update says it
text_says : (u : Update) → u.item < 2 ^ 64 → FitsSigned w64 u.delta → line_said (text u) ≡ Ok u
text_says u item fits =
    let numbers = numbers_at-text (side_number u.side) u.item u.delta (omega (arith, side_small u.side)) item fits in
    rw (numbers, line_said) (rw (side_is_one u.side) (ap Ok (said_back u)))

-- an update's line in front of the bytes
pub holds_spelled : (bytes : List ℕ) (u : Update) (size : ℕ) → size ≤ length bytes → size ≤ 40 → u.item < 2 ^ 64 → FitsSigned w64 u.delta → take size bytes ≡ line_bytes u → HoldsLine bytes (Ok u) size
holds_spelled bytes u size within few item fits is =
    let order : take size bytes ≡ text u ++ 10 ∷ [] = is ∙ line-text u in
    let len : size ≡ length (text u ++ 10 ∷ []) = sym (length-take-le size bytes within) ∙ ap length order in
    record {
      line = text u;
      order = order;
      clean = lacks_none 10 (text u) (lacks-text (side_number u.side) u.item u.delta (omega (arith, side_small u.side)) item fits);
      short = omega (arith, len, few, length-append (text u) (10 ∷ []));
      says = sym (text_says u item fits);
    }
