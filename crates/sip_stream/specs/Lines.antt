-- Lines of text: where a line ends, and the three numbers that it says.
use Rattle.std.specs.Prelude.{ℕ, zero, suc, ◌^◌, ◌==◌, nat_le, nat_lt, Bool, false, not, ◌&&◌, ◌||◌}
use Rattle.std.specs.Prelude.{ℤ, pos, negsuc, List, [], ◌∷◌, ◌++◌, length, Option, Some, None}
use Rattle.std.specs.Prelude.{option_map, option_and_then, if◌then◌else◌}
use Rattle.std.specs.Str.{all_ascii_digits}
use Rattle.std.specs.Str.Parse.{digits_value}
use Rattle.sip_stream.specs.declared.numbers.Numbers.{Numbers}

-- the greatest length of a line, its line feed included
abbrev pub most_line : ℕ
most_line = 40

-- the bytes in front of the first such byte, and those behind it, where there is one
abbrev pub parts_at : ℕ → List ℕ → Option (List ℕ × List ℕ)
parts_at mark [] = None
parts_at mark (b ∷ bs) =
    if b == mark then Some ([], bs)
    else option_map (λ parts. (b ∷ parts.0, parts.1)) (parts_at mark bs)

-- decimal digits, of which the first is 0 only where it is the only one
abbrev pub is_decimal : List ℕ → Bool
is_decimal [] = false
is_decimal (b ∷ bs) = all_ascii_digits (b ∷ bs) && (not (b == 48) || (length bs == 0))

-- the number that a text writes so
abbrev pub decimal_at : List ℕ → Option ℕ
decimal_at text = if is_decimal text then Some (digits_value 10 text) else None

-- the number that a text writes so, where it is below 2^64
abbrev pub item_at : List ℕ → Option ℕ
item_at text = option_and_then (λ n. if nat_lt n (2 ^ 64) then Some n else None) (decimal_at text)

-- a number that is below 2^63
abbrev pub above_zero : ℕ → Option ℤ
above_zero n = if nat_lt n (2 ^ 63) then Some (pos n) else None

-- minus a number that is not 0, where that is at least -2^63
abbrev pub below_zero : ℕ → Option ℤ
below_zero zero = None
below_zero (suc n) = if nat_lt n (2 ^ 63) then Some (negsuc n) else None

-- the number that a text writes so, with `-` in front of it where it is negative, where it is from
-- -2^63 to 2^63 - 1
abbrev pub delta_at : List ℕ → Option ℤ
delta_at [] = None
delta_at (b ∷ bs) =
    if b == 45 then option_and_then below_zero (decimal_at bs)
    else option_and_then above_zero (decimal_at (b ∷ bs))

-- three numbers, where there are three
abbrev pub three : Option ℕ → Option ℕ → Option ℤ → Option Numbers
three None item delta = None
three (Some side) None delta = None
three (Some side) (Some item) None = None
three (Some side) (Some item) (Some delta) =
    Some (record { side = side; item = item; delta = delta })

-- the numbers that a text says with one space between two of them; its side is any number
abbrev pub numbers_at : List ℕ → Option Numbers
numbers_at text = elim (parts_at 32 text) [
  | None ↦ None
  | Some first ↦ elim (parts_at 32 first.1) [
    | None ↦ None
    | Some second ↦ three (decimal_at first.0) (item_at second.0) (delta_at second.1)
  ]
]

-- a line that has begun, where one has
abbrev pub begun : List ℕ → List (List ℕ)
begun [] = []
begun (b ∷ bs) = (b ∷ bs) ∷ []

-- The lines of some bytes, the first one having begun so. A line is what comes up to and with the
-- next line feed, or up to and with its 41st byte.
abbrev pub lines_from : List ℕ → List ℕ → List (List ℕ)
lines_from front [] = begun front
lines_from front (b ∷ bs) =
    if (b == 10) || nat_le most_line (length front) then (front ++ b ∷ []) ∷ lines_from [] bs
    else lines_from (front ++ b ∷ []) bs
