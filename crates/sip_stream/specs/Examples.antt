-- The examples that the laws work out.
use Rattle.std.specs.Prelude.{ℕ, List, [], ◌∷◌, ◌++◌, Option, codes}
use Rattle.sip_stream.specs.declared.form.Form.TheVariants.{Text}
use Rattle.sip_stream.specs.declared.why.Why.{Why}
use Rattle.sip_stream.specs.Records.{records}

-- (0, 0, 3), (0, 2, 5), (0, 3, 1)
abbrev pub bytes_of_three : List ℕ
bytes_of_three =
    0 ∷ 0 ∷ 0 ∷ 0 ∷ 0 ∷ 0 ∷ 0 ∷ 0 ∷ 0 ∷ 0 ∷ 0 ∷ 0 ∷ 3 ∷
    0 ∷ 0 ∷ 0 ∷ 0 ∷ 2 ∷ 0 ∷ 0 ∷ 0 ∷ 0 ∷ 0 ∷ 0 ∷ 0 ∷ 5 ∷
    0 ∷ 0 ∷ 0 ∷ 0 ∷ 3 ∷ 0 ∷ 0 ∷ 0 ∷ 0 ∷ 0 ∷ 0 ∷ 0 ∷ 1 ∷ []

-- (0, 2^47, 7), wide
abbrev pub wide_bytes_of_one : List ℕ
wide_bytes_of_one = 0 ∷ 0 ∷ 0 ∷ 128 ∷ 0 ∷ 0 ∷ 0 ∷ 0 ∷ 0 ∷ 0 ∷ 0 ∷ 0 ∷ 0 ∷ 0 ∷ 0 ∷ 0 ∷ 7 ∷ []

-- (0, 0, 2^30 - 1)
abbrev pub heaviest : List ℕ
heaviest = 0 ∷ 0 ∷ 0 ∷ 0 ∷ 0 ∷ 0 ∷ 0 ∷ 0 ∷ 0 ∷ 63 ∷ 255 ∷ 255 ∷ 255 ∷ []

-- a text as a line
abbrev pub line : List ℕ → List ℕ
line text = text ++ 10 ∷ []

-- V in text
abbrev pub lines_of_three : List ℕ
lines_of_three = line (codes "0 0 3") ++ line (codes "0 2 5") ++ line (codes "0 3 1")

-- why the one line that a text makes is not legal at depth 2
abbrev pub line_fault_of : List ℕ → Option Why
line_fault_of text = (records 2 Text (line text)).fault
