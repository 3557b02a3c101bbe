-- Steps of which each may fail.
use Rattle.std.specs.Prelude.{Bool, Result, Ok, Err, if◌then◌else◌}

infixl 10 ◌>>=◌
-- the second step, on what the first one gave
abbrev pub ◌>>=◌ : {A B E : Type 0} → Result A E → (A → Result B E) → Result B E
(Ok x) >>= f = f x
(Err e) >>= f = Err e

-- goes on if the test passes
abbrev pub needs : {E : Type 0} → Bool → E → Result (Unit {0}) E
needs test e = if test then Ok tt else Err e
