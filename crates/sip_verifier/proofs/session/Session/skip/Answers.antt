use Rattle.std.proofs.Common.{◌∙◌, drop, sym, ap}
use Rattle.std.proofs.lemmas.List.{drop-drop}
use Rattle.sip_verifier.specs.Sittings.{Sitting}
use Rattle.sip_verifier.proofs.session.Session.skip.Goals as goal

pub returns-clause-next : goal.returns-clause-next
returns-clause-next c =
    sym (drop-drop 1 c.self.inside.asked c.self.inside.seats.seats)
    ∙ ap (λ (s : Sitting). drop 1 s.left) c.self.view_is
