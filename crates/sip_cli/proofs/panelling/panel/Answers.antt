use Rattle.std.proofs.Common.{◌≡◌, false, true, inr, subst, rules}
use Rattle.sip_words.specs.Words.{Spells, word}
use Rattle.sip_words.proofs.HelperWords.{some_named}
use Rattle.sip_cli.proofs.PanelLemmas.{unbegun}
use Rattle.sip_cli.proofs.RunLemmas.{seated, seats_for_all}
use Rattle.sip_cli.proofs.panelling.panel.Goals as goal

pub panel_named-requires-clause-done : goal.panel_named-requires-clause-done
panel_named-requires-clause-done g c = seated _ _ _ (subst (Spells c.requires.0) c.in-Panel.is c.requires.1)

pub panel_named-requires-clause-some : goal.panel_named-requires-clause-some
panel_named-requires-clause-some g c =
    let spells = subst (Spells c.requires.0) c.in-Panel.is c.requires.1 in
    rw c.deref.ensures.0 (some_named (word c.requires.0 3) _ spells.2)

pub panel_named-requires-clause-few : goal.panel_named-requires-clause-few
panel_named-requires-clause-few g c =
    let spells = subst (Spells c.requires.0) c.in-Panel.is c.requires.1 in
    rw c.deref.ensures.0 (seats_for_all _ _ _ spells)

pub returns-in-Err-clause-seated : goal.returns-in-Err-clause-seated
returns-in-Err-clause-seated g c =
    let spells = subst (Spells c.requires.0) c.in-Panel.is c.requires.1 in
    let same = c.in-Err.ensures.unbegun in (
      _,
      _,
      c.in-Panel.is,
      rw (same.0, same.1, same.2) (unbegun _ _ (some_named (word c.requires.0 3) _ spells.2) (seated _ _ _ spells) spells.1.depth.0 spells.1.depth.1 (seats_for_all _ _ _ spells) _ _ _ _ _ _),
      λ bytes seed read drawn. record { judged = λ (judged : false ≡ true). absurd cc; other = inr (search rules) },
    )

pub returns-in-Ok-clause-seated : goal.returns-in-Ok-clause-seated
returns-in-Ok-clause-seated g c = (
  c.in-Panel.task,
  c.in-Panel.names,
  c.in-Panel.is,
  rw c.deref.ensures.0 at c.in-Ok.ensures.seated,
  c.in-Ok.ensures.negatives,
)
