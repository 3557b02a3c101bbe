use Rattle.std.proofs.Common.{◌+◌, sym, subst}
use Rattle.sip_subvec.specs.Checking.{HasTaken}
use Rattle.sip_subvec.proofs.TakingSteps.{HasTaken-revealed}
use Rattle.sip_subvec.proofs.check.SubCheck.reveal.Goals as goal

pub returns-clause-taken : goal.returns-clause-taken
returns-clause-taken g c root lo hi challenges s taken =
    let p = g.F.Field.MODULUS in
    HasTaken-revealed p root lo hi challenges s _ (subst (HasTaken p root lo hi challenges s) (sym c.self.view_is) taken) (c.self.inside.revealed + 1)
