-- The examples that the laws work out: the entry 0 of (3, 5), asked for twice, and keys.
use Rattle.std.specs.Prelude.{ℕ, pos, Option, Some, List, [], ◌∷◌, ◌++◌, replicate}
use Rattle.sip_vector.specs.declared.query.Query.{Query}
use Rattle.sip_vector.specs.declared.query.Query.TheVariants.{Sub, F2, Heavy, Share}
use Rattle.sip_vector.specs.declared.update.Side.TheVariants.{First}
use Rattle.sip_vector.specs.declared.update.Update.{Update}
use Rattle.sip_verifier.specs.Questions.{Question}

-- the updates that add up to (3, 5)
abbrev pub stream : List Update
stream =
    record { side = First; item = 0; delta = pos 3 }
    ∷ record { side = First; item = 1; delta = pos 5 } ∷ []

-- the entries 0 to 0, twice
abbrev pub twice : List Query
twice = Sub 0 0 ∷ Sub 0 0 ∷ []

-- a query of each kind of bound
abbrev pub one_of_each : List Query
one_of_each = Sub 0 1 ∷ F2 First ∷ Heavy First 3 ∷ Share First 1 2 ∷ []

-- the entry (0, 4), then Siblings with 4 on the right alone
abbrev pub guess : List ℕ
guess =
    0x13 ∷ 0x00 ∷ 0x0e ∷ 0x00 ∷ 0x01 ∷ replicate 4 0 ++ replicate 7 0 ++ 0x04 ∷
    0x14 ∷ 0x00 ∷ 0x09 ∷ 0x02 ∷ replicate 7 0 ++ 0x04 ∷ []

-- that reply to each query, whatever was revealed
abbrev pub guesses : List ℕ → Option (List ℕ)
guesses challenges = Some guess

-- questions for the two entries with the challenges (5, 6) and (7, 8), and these replies
abbrev pub two_questions : List (List ℕ) → List (List ℕ) → List Question
two_questions first second =
    record { query = Sub 0 0; block = 5 ∷ 6 ∷ []; replies = first }
    ∷ record { query = Sub 0 0; block = 7 ∷ 8 ∷ []; replies = second } ∷ []
