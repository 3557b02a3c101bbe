-- The examples that the laws work out.
use Rattle.std.specs.Prelude.{ℤ, pos, negsuc, List, [], ◌∷◌}
use Rattle.sip_vector.specs.declared.update.Side.TheVariants.{First, Second}
use Rattle.sip_vector.specs.declared.update.Update.{Update}

abbrev pub four : List ℤ
four = pos 3 ∷ pos 0 ∷ pos 5 ∷ pos 1 ∷ []

-- three updates that add up to it
abbrev pub stream : List Update
stream =
    record { side = First; item = 0; delta = pos 3 }
    ∷ record { side = First; item = 2; delta = pos 5 }
    ∷ record { side = First; item = 3; delta = pos 1 } ∷ []

-- these, and updates of the other side that add up to (2, 7, 1, 0)
abbrev pub both_sides : List Update
both_sides =
    record { side = Second; item = 1; delta = pos 7 }
    ∷ record { side = Second; item = 0; delta = pos 2 }
    ∷ record { side = Second; item = 2; delta = pos 1 } ∷ stream

-- the same three in two pieces
abbrev pub front : List Update
front =
    record { side = First; item = 0; delta = pos 3 }
    ∷ record { side = First; item = 2; delta = pos 5 } ∷ []

abbrev pub rest : List Update
rest = record { side = First; item = 3; delta = pos 1 } ∷ []

-- updates, some of them below 0, that add up to (0, 5, -9, 3); negsuc n is -(n + 1)
abbrev pub credits : List Update
credits =
    record { side = First; item = 1; delta = pos 5 }
    ∷ record { side = First; item = 2; delta = negsuc 8 }
    ∷ record { side = First; item = 3; delta = pos 4 }
    ∷ record { side = First; item = 3; delta = negsuc 0 } ∷ []
