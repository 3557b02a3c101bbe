-- What a call does to what a handle had, it does through the handle.
use Rattle.std.proofs.Common.{◌≡◌, ◌∙◌, Some, ap, sym, subst}
use Rattle.std.specs.Prelude.{Option}
use Rattle.sip_c.specs.Handles.{Through}
use Rattle.sip_c.specs.Statuses.{Answer}
use Rattle.sip_c.specs.declared.kept.Kept.{Kept}

pub through : (U : Type 0) (P : Kept → Answer → Kept → Type 0) (old new : Option Kept) (answer : Answer) (k lent next : Kept) → old ≡ Some k → lent ≡ k → new ≡ Some next → P lent answer next → Through U P old answer new
through U P old new answer k lent next is lent_is next_is so =
    subst (λ (o : Option Kept). Through U P o answer new) (ap Some (lent_is) ∙ sym is) (subst (Through U P (Some lent) answer) (sym next_is) so)
