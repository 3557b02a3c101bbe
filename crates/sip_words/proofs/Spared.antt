-- What is spared where something holds is spared where the same holds in other words.
use Rattle.std.proofs.Common.{◌⊎◌, inl, inr}
use Rattle.std.specs.Prelude.{◌↔◌}
use Rattle.sip_words.specs.declared.plan.Opening.{Opening}
use Rattle.sip_words.specs.Sparing.{OpensUnless}

pub spared_alike : {P Q : Type 0} {opening is : Opening} → (P ↔ Q) → OpensUnless P opening is → OpensUnless Q opening is
spared_alike same (inl (taken, e)) = inl (same.0 taken, e)
spared_alike same (inr (free, e)) = inr (λ taken. free (same.1 taken), e)
