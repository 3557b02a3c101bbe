-- The word that asks a run to say on the way how far it is.
use Rattle.std.specs.Prelude.{◌≡◌, ◌≢◌, ℕ, Bool, true, false, List, ◌∷◌, codes}

-- it stands before the words of the command
abbrev pub progress_word : List ℕ
progress_word = codes "--progress"

-- the words of the command, and whether that word stood before them
abbrev pub IsBehind : List (List ℕ) → List (List ℕ) → Bool → Type 0
IsBehind words command true = words ≡ progress_word ∷ command
IsBehind words command false =
    (command ≡ words) × ((rest : List (List ℕ)) → words ≢ progress_word ∷ rest)
