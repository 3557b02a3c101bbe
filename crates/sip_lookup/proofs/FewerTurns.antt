-- Fewer turns of a helper of queries are fewer of what is kept beside it.
use Rattle.std.proofs.Common.{ℕ, ◌+◌, ◌<◌, Result, Ok, Err, arith}
use Rattle.std.specs.Prelude.{OnOk}

pub still_fewer : {E : Type 0} (P : Type 0) (heard : Result Unit E) (old new more : ℕ) → OnOk heard (new < old) → OnOk heard (P → new + more < old + more)
still_fewer P (Err e) old new more less = tt
still_fewer P (Ok x) old new more less = λ _. omega (arith, less)
