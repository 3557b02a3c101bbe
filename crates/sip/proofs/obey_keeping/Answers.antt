use Rattle.std.proofs.Common.{refl, sym, subst}
use Rattle.sip_cli.specs.Statuses.{Ends}
use Rattle.sip.proofs.obey_keeping.Goals as goal

pub returns-in-Some : goal.returns-in-Some
returns-in-Some g c =
    let (task, name, is, played, negatives) = c.in-Some.ensures.played in
    subst (λ k. Ends k c.in-Some.status) (sym is) played.keeps.listed

pub returns : goal.returns
returns g c = c.obey.ensures.done.keeps.listed _ refl
