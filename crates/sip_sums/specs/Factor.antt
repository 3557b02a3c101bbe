-- What a prover keeps of its second list.
use Rattle.std.specs.Prelude.{ℕ, List}
use Rattle.sip_sums.specs.declared.prover.Factor.{Factor}
use Rattle.sip_sums.specs.declared.prover.Factor.TheVariants.{Same, Other, Interval}

-- the second list, beside this first one
abbrev pub second_of : {F : Type 0} → List ℕ → Factor F → List ℕ
second_of first Same = first
second_of first (Other level) = level
second_of first (Interval interval) = interval
