-- The head of a file, as it was read.
use Rattle.std.specs.Prelude.{ℕ, List, [], ◌∷◌, ◌++◌}
use Rattle.sip_sketch.specs.Sketches.{magic, parts_numbers, tally_numbers}
use Rattle.sip_sketch.specs.declared.reading.Head.{Head}

-- the numbers in front of the seats
abbrev pub head_numbers : Head → List ℕ
head_numbers h = magic ++ (h.depth ∷ (parts_numbers h.parts ++ (tally_numbers h.tally
    ++ h.count ∷ [])))
