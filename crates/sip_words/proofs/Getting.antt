-- What a word of a number is.
use Rattle.std.proofs.Common.{◌≡◌, ℕ, ◌<◌, ◌≤◌, List, [], length, get_or, Option, None, Some, Bor, MatchOption, sym, inl, inr}
use Rattle.std.specs.List.{slice_get}
use Rattle.std.specs.Option.{option_copied}
use Rattle.std.proofs.lemmas.Bool.{cases_lt}
use Rattle.std.proofs.lemmas.Option.{slice_get-get_or, slice_get_within, get_or_from_slice_get}

-- there is none where the words are fewer, and else it is the list's
pub got : (words : List (List ℕ)) (n : ℕ) (r : Option (Bor (List ℕ))) → option_copied r ≡ slice_get words n → MatchOption r (length words ≤ n) (λ word. (n < length words) × (get_or words n [] ≡ word.now))
got words n None is =
    elim (cases_lt n (length words)) [ inl more ↦ absurd (let some = slice_get-get_or words n [] more in cc) | inr least ↦ least ]
got words n (Some word) is = (slice_get_within words n word.now (sym is), get_or_from_slice_get words n word.now [] (sym is))
