-- Letting the helpers go changes no talk.
use Rattle.std.proofs.Common.{◌∙◌}
use Rattle.sip_duel.proofs.KeepsLemmas.{kept_is_honest}
use Rattle.sip_session.proofs.PanelLinks.{lent_back, told_still}
use Rattle.sip_session.proofs.panels.panel.Goals as goal

pub returns-clause-honest : goal.returns-clause-honest
returns-clause-honest g c =
    told_still _ (λ l. l.kept.talk.items) (λ l sure. kept_is_honest _ l.kept sure)
    c.args.links.now.items c.as_mut_slice.result.now c.panel_steps-steps.new.links
    c.as_mut_slice-2.result.now c.let_all_go.new.links _ c.as_mut_slice.ensures.value
    (c.as_mut_slice-2.ensures.value
    ∙ lent_back _ c.panel_steps-steps.new.links _
    (c.panel_steps-steps.ensures.count ∙ c.as_mut_slice.ensures.len))
    (lent_back _ c.let_all_go.new.links _
    (c.let_all_go.ensures.count ∙ c.as_mut_slice-2.ensures.len))
    c.let_all_go.ensures.count c.let_all_go.ensures.talks
    c.panel_steps-steps.ensures.honest

pub returns-clause-negatives : goal.returns-clause-negatives
returns-clause-negatives g c = λ bytes seed all told.
    rw c.status_of.ensures (c.panel_steps-steps.ensures.negatives bytes seed all told)
