-- Calls that are made again where they were interrupted.
use Rattle.std.specs.Prelude.{◌≡◌, ◌⊎◌, ℕ, zero, suc, ◌<◌, List, Result, MatchResult}
use Rattle.std.specs.IoError.{error_kind}
use Rattle.std.specs.declared.io.Error.{Error}
use Rattle.std.specs.declared.io.ErrorKind.TheVariants.{Interrupted, TimedOut}

-- a call that answered this was interrupted
abbrev pub IsInterrupted : Result ℕ Error → Type 0
IsInterrupted r = MatchResult r (λ _. ⊥) (λ e. error_kind e ≡ Interrupted)

-- So many calls were made, one behind the other, and each was interrupted. `gives` is what a call
-- on some bytes may answer, and leave of what it is made on and of the bytes.
abbrev pub Interruptions : {A : Type 0} → (A → List ℕ → Result ℕ Error → A → List ℕ → Type 0)
    → ℕ → A → List ℕ → A → List ℕ → Type 0
Interruptions gives zero before buf now left = (now ≡ before) × (left ≡ buf)
Interruptions {A} gives (suc n) before buf now left =
    (mid : A) × (bytes : List ℕ) × (r : Result ℕ Error)
    × Interruptions gives n before buf mid bytes × gives mid bytes r now left × IsInterrupted r

-- The answer is that of the first call that was not interrupted, with no call behind it; or that it
-- took too long, behind so many calls that were.
abbrev pub Settles : {A : Type 0} → (A → List ℕ → Result ℕ Error → A → List ℕ → Type 0)
    → ℕ → A → List ℕ → A → List ℕ → Result ℕ Error → Type 0
Settles {A} gives most before buf now left r =
    (n : ℕ) × (mid : A) × (bytes : List ℕ) × Interruptions gives n before buf mid bytes
    × (((n < most) × gives mid bytes r now left × ¬ IsInterrupted r)
    ⊎ ((n ≡ most) × (now ≡ mid) × (left ≡ bytes)
    × MatchResult r (λ _. ⊥) (λ e. error_kind e ≡ TimedOut)))

-- a write as a call on some bytes, which it leaves as they are
abbrev pub writing : {A : Type 0} → (A → List ℕ → Result ℕ Error → A → Type 0)
    → A → List ℕ → Result ℕ Error → A → List ℕ → Type 0
writing gives before buf r now left = (left ≡ buf) × gives before buf r now
