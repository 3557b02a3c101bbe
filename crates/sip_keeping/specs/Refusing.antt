-- Where words are refused, of whatever commands.
use Rattle.std.specs.Prelude.{◌≡◌, ℕ, ◌+◌, ◌<◌, ◌≤◌, List, ◌++◌, length, take}

-- `Says c words` says that the words are those of the command c.
module _ {C : Type 0} (Says : C → List (List ℕ) → Type 0) where
  -- some command begins with these words
  abbrev pub BeginSome : List (List ℕ) → Type 0
  BeginSome words = (c : C) × (rest : List (List ℕ)) × Says c (words ++ rest)

  -- Word n, from 0, is the first one such that the words up to it begin no command; or all words
  -- begin one, but are none, and n is their number.
  pub record AreRefusedAt (words : List (List ℕ)) (n : ℕ) : Type 0 where
    pub before : BeginSome (take n words)
    pub here : n < length words → BeginSome (take (n + 1) words) → ⊥
    pub short : length words ≤ n → (n ≡ length words) × ((c : C) → Says c words → ⊥)
