-- What a buffer in front of a reader gives.
use Rattle.std.specs.Prelude.{◌≡◌, ℕ, ◌<◌, min, List, ◌++◌, length, take, Result, IsOkAnd}

-- Bytes that are held are given first and in order, as many as were asked for, and the others stay.
abbrev pub GivesHeld : {E : Type 0} → List ℕ → List ℕ → Result ℕ E → List ℕ → Type 0
GivesHeld old new r buf =
    0 < length old
    → IsOkAnd r (λ n. (n ≡ min (length buf) (length old)) × (old ≡ take n buf ++ new))
