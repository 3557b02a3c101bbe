-- What was taken off the front of a source's bytes, and then at most so many others.
use Rattle.std.proofs.Common.{ℕ, ◌+◌, ◌≤◌, Option, List, ◌++◌, length, arith, length-append}
use Rattle.std.proofs.KnownBytes.{Consumes-trans}
use Rattle.std.specs.Io.KnownBytes.{Consumes}
use Rattle.sip_verifier.specs.Exchanges.{TakesAtMost}

-- together they are at most so many
pub takes-most : (a b c : Option (List ℕ)) (x : List ℕ) (most all : ℕ) → Consumes a b x → TakesAtMost most b c → length x + most ≤ all → TakesAtMost all a c
takes-most a b c x most all taken (y, few, then) le = (x ++ y, omega (arith, few, le, length-append x y), Consumes-trans a b c x y taken then)
