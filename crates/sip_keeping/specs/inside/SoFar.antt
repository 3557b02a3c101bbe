-- How far the last words of a command were read, which ask for seats or are names.
use Rattle.std.specs.Prelude.{◌≡◌, ◌≢◌, ℕ, ◌+◌, ◌-◌, ◌<◌, ◌≤◌, List, [], drop, length, take}
use Rattle.sip_words.specs.Words.{word}
use Rattle.sip_sketch.specs.Sketches.{most_seats}
use Rattle.sip_keeping.specs.Words.{AreSeats, seats_word}
use Rattle.sip_sketch.specs.declared.kind.SeatKind.{SeatKind}

-- the words from `first` up to n ask for seats of these kinds, each for one at least
pub record AreSeatsTo (words : List (List ℕ)) (first n : ℕ) (kinds : List SeatKind) : Type 0 where
  pub least : first ≤ n
  pub within : n ≤ length words
  pub seats : AreSeats (take (n - first) (drop first words)) kinds
  pub most : length kinds ≤ most_seats
  pub each : n ≤ first + length kinds
  pub some : first < n → 1 ≤ length kinds

-- the word of this number is the first of them that asks for none, or for too many
pub record StopsInSeats (words : List (List ℕ)) (first n : ℕ) : Type 0 where
  pub kinds : List SeatKind
  pub before : AreSeatsTo words first n kinds
  pub here : n < length words → (kind : SeatKind) (count : ℕ) → 1 ≤ count
      → length kinds + count ≤ most_seats → word words n ≢ seats_word kind count
  pub missing : length words ≤ n → n ≡ first

-- the words from `first` up to n are names
pub record AreNamesTo (words : List (List ℕ)) (first n : ℕ) : Type 0 where
  pub least : first ≤ n
  pub within : n ≤ length words
  pub named : (k : ℕ) → first ≤ k → k < n → word words k ≢ []
