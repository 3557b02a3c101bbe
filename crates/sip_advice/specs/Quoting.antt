-- How a word of a command stands in a line.
use Rattle.std.specs.Prelude.{ℕ, ◌+◌, ◌/◌, ◌%◌, ◌==◌, nat_lt, if◌then◌else◌, List, [], ◌∷◌, ◌++◌}
use Rattle.std.specs.Prelude.{codes}
use Rattle.std.specs.Prelude.{Bool, true, false, length, take}
use Rattle.std.specs.List.{flat_map}

-- a digit in base 16
abbrev pub hex_digit : ℕ → ℕ
hex_digit n = if nat_lt n 10 then 48 + n else 87 + n

-- `\x` and the two digits of a byte
abbrev pub coded : ℕ → List ℕ
coded byte = 92 ∷ 120 ∷ hex_digit (byte / 16) ∷ hex_digit (byte % 16) ∷ []

-- a byte as it is shown: what prints in ASCII as it is, but for `"` and `\` with a `\` before it,
-- and all else, as what would move a terminal's cursor, by its number
abbrev pub shown : ℕ → List ℕ
shown byte =
    if byte == 34 then 92 ∷ 34 ∷ []
    else if byte == 92 then 92 ∷ 92 ∷ []
    else if nat_lt byte 32 then coded byte
    else if nat_lt byte 127 then byte ∷ []
    else coded byte

-- no more bytes of a word are shown
abbrev pub most_quoted : ℕ
most_quoted = 64

-- what ends a quoted word, with dots where it is longer than what is shown
abbrev pub quote_end : Bool → List ℕ
quote_end true = codes "\"..."
quote_end false = codes "\""

-- a word in quotes: its first bytes, and whether there are more
abbrev pub quoted : List ℕ → List ℕ
quoted word =
    34 ∷ flat_map shown (take most_quoted word)
    ++ quote_end (nat_lt most_quoted (length word))
