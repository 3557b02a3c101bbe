-- Each command does what its one call does.
use Rattle.std.proofs.Common.{[], refl}
use Rattle.sip_ports.proofs.TalkLemmas.{GoesOn-refl}
use Rattle.sip_verifier.proofs.RunTalks.{tells}
use Rattle.sip_cli.proofs.CommandKeeps.{audit_keeps, audit_moves, look_keeps, moments_keeps, obeys, panel_keeps, play_keeps, verify_keeps}
use Rattle.sip_cli.proofs.DoneLemmas.{does}
use Rattle.sip_cli.proofs.RunLemmas.{looked_task, played_task, seated_task, served_task, summed_task}
use Rattle.sip_cli.proofs.top.obey.Goals as goal

pub returns-in-Verify-clause-done : goal.returns-in-Verify-clause-done
returns-in-Verify-clause-done g c =
    does _ c.in-Verify.is
    (verify_keeps _ c.in-Verify.is c.check_stream.ensures.keeps)
    c.check_stream.ensures.seed

pub returns-in-Play-clause-done : goal.returns-in-Play-clause-done
returns-in-Play-clause-done g c =
    does _ c.in-Play.is
    (play_keeps _ _ c.in-Play.is c.check_stream-in-Play.ensures.keeps)
    c.check_stream-in-Play.ensures.seed

pub returns-in-Panel-clause-done : goal.returns-in-Panel-clause-done
returns-in-Panel-clause-done g c =
    does _ c.in-Panel.is
    (panel_keeps _ _ c.in-Panel.is c.check_stream-in-Panel.ensures.keeps)
    c.check_stream-in-Panel.ensures.seed

pub returns-in-Help-clause-done : goal.returns-in-Help-clause-done
returns-in-Help-clause-done g c =
    does _ c.in-Help.is
    (obeys _ c.in-Help.is c.help.ensures.help
    (λ is. let said = c.help.ensures.ends.said in
    tells _ _ is (λ some. some) said.0 said.1 [] (GoesOn-refl _) [] (GoesOn-refl _))
    (c.help.ensures.ends.fault _ _ _ _ _ _ _ _) c.help.ensures.ends.listed)
    (refl, refl, refl, refl)

pub returns-in-Serve-clause-done : goal.returns-in-Serve-clause-done
returns-in-Serve-clause-done g c =
    does _ c.in-Serve.is
    (obeys _ c.in-Serve.is c.serve.ensures.serves
    (λ is. let said = c.serve.ensures.said in
    tells _ _ is c.serve.ensures.told said.0 said.1 [] (GoesOn-refl _) [] (GoesOn-refl _))
    (c.serve.ensures.fault _ _ _ _ _ _) c.serve.ensures.listed)
    (refl, refl)

pub returns-in-Audit-clause-done : goal.returns-in-Audit-clause-done
returns-in-Audit-clause-done g c =
    let keeps = c.audit.ensures.keeps _ _ _ _ in
    does _ c.in-Audit.is
    (audit_keeps _ c.in-Audit.is keeps (audit_moves _ _ _ _ keeps (GoesOn-refl _) (GoesOn-refl _)))
    (refl, refl)

pub returns-in-Show-clause-done : goal.returns-in-Show-clause-done
returns-in-Show-clause-done g c =
    does _ c.in-Show.is
    (obeys _ c.in-Show.is c.show.ensures.writes
    (λ is. let wrote = c.show.ensures.wrote is.second in
    tells _ _ is (λ some. some) [] (GoesOn-refl _) wrote.0 wrote.1 [] (GoesOn-refl _))
    (c.show.ensures.fault _ _ _ _ _ _) c.show.ensures.listed)
    (refl, refl, refl)

pub returns-in-Convert-clause-done : goal.returns-in-Convert-clause-done
returns-in-Convert-clause-done g c =
    does _ c.in-Convert.is
    (obeys _ c.in-Convert.is c.convert.ensures.writes
    (λ is. let wrote = c.convert.ensures.wrote is.second in
    tells _ _ is (λ some. some) [] (GoesOn-refl _) wrote.0 wrote.1 [] (GoesOn-refl _))
    (c.convert.ensures.fault _ _ _ _ _ _) c.convert.ensures.listed)
    (refl, refl, refl)

pub returns-in-Gen-clause-done : goal.returns-in-Gen-clause-done
returns-in-Gen-clause-done g c =
    does _ c.in-Gen.is
    (obeys _ c.in-Gen.is (rw c.made-form.ensures.form at c.copy_stream.ensures.copied)
    (λ is. let wrote = c.copy_stream.ensures.wrote is.first in
    tells _ _ is c.copy_stream.ensures.told [] (GoesOn-refl _) wrote.0 wrote.1 [] (GoesOn-refl _))
    (c.copy_stream.ensures.fault _ _ _ _ _ _) c.copy_stream.ensures.listed)
    ((refl, refl, refl), c.copy_stream.ensures.memory)

pub returns-in-Lines-clause-done : goal.returns-in-Lines-clause-done
returns-in-Lines-clause-done g c =
    does _ c.in-Lines.is
    (obeys _ c.in-Lines.is c.copy_stream-in-Lines.ensures.copied
    (λ is. let wrote = c.copy_stream-in-Lines.ensures.wrote is.first in
    tells _ _ is c.copy_stream-in-Lines.ensures.told [] (GoesOn-refl _) wrote.0 wrote.1 [] (GoesOn-refl _))
    (c.copy_stream-in-Lines.ensures.fault _ _ _ _ _ _) c.copy_stream-in-Lines.ensures.listed)
    ((refl, refl, refl), c.copy_stream-in-Lines.ensures.memory)

pub returns-in-Widen-clause-done : goal.returns-in-Widen-clause-done
returns-in-Widen-clause-done g c =
    does _ c.in-Widen.is
    (obeys _ c.in-Widen.is c.copy_stream-in-Widen.ensures.copied
    (λ is. let wrote = c.copy_stream-in-Widen.ensures.wrote is.first in
    tells _ _ is c.copy_stream-in-Widen.ensures.told [] (GoesOn-refl _) wrote.0 wrote.1 [] (GoesOn-refl _))
    (c.copy_stream-in-Widen.ensures.fault _ _ _ _ _ _) c.copy_stream-in-Widen.ensures.listed)
    ((refl, refl, refl), c.copy_stream-in-Widen.ensures.memory)

pub returns-in-Lookup-clause-done : goal.returns-in-Lookup-clause-done
returns-in-Lookup-clause-done g c =
    does _ c.in-Lookup.is
    (look_keeps _ c.in-Lookup.is c.look_stream.ensures.keeps refl)
    (refl, c.look_stream.ensures.seed)

pub returns-in-HelpLook-clause-done : goal.returns-in-HelpLook-clause-done
returns-in-HelpLook-clause-done g c =
    does _ c.in-HelpLook.is
    (obeys _ c.in-HelpLook.is c.help_look.ensures.help
    (λ is. let said = c.help_look.ensures.ends.said in
    tells _ _ is (λ some. some) said.0 said.1 [] (GoesOn-refl _) [] (GoesOn-refl _))
    (c.help_look.ensures.ends.fault _ _ _ _ _ _ _ _) c.help_look.ensures.ends.listed)
    (refl, refl, refl, refl)

pub returns-in-Moments-clause-done : goal.returns-in-Moments-clause-done
returns-in-Moments-clause-done g c =
    does _ c.in-Moments.is
    (moments_keeps _ c.in-Moments.is c.moment_stream.ensures.keeps refl)
    (refl, c.moment_stream.ensures.seed)

pub returns-in-HelpMoments-clause-done : goal.returns-in-HelpMoments-clause-done
returns-in-HelpMoments-clause-done g c =
    does _ c.in-HelpMoments.is
    (obeys _ c.in-HelpMoments.is c.help_moments.ensures.help
    (λ is. let said = c.help_moments.ensures.ends.said in
    tells _ _ is (λ some. some) said.0 said.1 [] (GoesOn-refl _) [] (GoesOn-refl _))
    (c.help_moments.ensures.ends.fault _ _ _ _ _ _ _ _) c.help_moments.ensures.ends.listed)
    (refl, refl, refl, refl)

pub check_stream-requires : goal.check_stream-requires
check_stream-requires g c = served_task _ _ c.requires.1 _ c.in-Verify.is

pub check_stream-requires-in-Play : goal.check_stream-requires-in-Play
check_stream-requires-in-Play g c = played_task _ _ c.requires.1 _ _ c.in-Play.is

pub check_stream-requires-in-Panel : goal.check_stream-requires-in-Panel
check_stream-requires-in-Panel g c = seated_task _ _ c.requires.1 _ _ c.in-Panel.is

pub look_stream-requires : goal.look_stream-requires
look_stream-requires g c = looked_task _ _ c.requires.1 _ c.in-Lookup.is

pub moment_stream-requires : goal.moment_stream-requires
moment_stream-requires g c = summed_task _ _ c.requires.1 _ c.in-Moments.is

pub returns-in-Verify-clause-negatives : goal.returns-in-Verify-clause-negatives
returns-in-Verify-clause-negatives g c = rw c.in-Verify.is c.check_stream.ensures.negatives

pub returns-in-Play-clause-negatives : goal.returns-in-Play-clause-negatives
returns-in-Play-clause-negatives g c = rw c.in-Play.is c.check_stream-in-Play.ensures.negatives

pub returns-in-Panel-clause-negatives : goal.returns-in-Panel-clause-negatives
returns-in-Panel-clause-negatives g c = rw c.in-Panel.is c.check_stream-in-Panel.ensures.negatives

pub returns-in-Help-clause-negatives : goal.returns-in-Help-clause-negatives
returns-in-Help-clause-negatives g c = rw c.in-Help.is refl

pub returns-in-Audit-clause-negatives : goal.returns-in-Audit-clause-negatives
returns-in-Audit-clause-negatives g c = rw c.in-Audit.is c.audit.ensures.negatives

pub returns-in-Show-clause-negatives : goal.returns-in-Show-clause-negatives
returns-in-Show-clause-negatives g c = rw c.in-Show.is refl

pub returns-in-Convert-clause-negatives : goal.returns-in-Convert-clause-negatives
returns-in-Convert-clause-negatives g c = rw c.in-Convert.is refl

pub returns-in-Gen-clause-negatives : goal.returns-in-Gen-clause-negatives
returns-in-Gen-clause-negatives g c = rw c.in-Gen.is refl

pub returns-in-Lines-clause-negatives : goal.returns-in-Lines-clause-negatives
returns-in-Lines-clause-negatives g c = rw c.in-Lines.is refl

pub returns-in-Widen-clause-negatives : goal.returns-in-Widen-clause-negatives
returns-in-Widen-clause-negatives g c = rw c.in-Widen.is refl

pub returns-in-Lookup-clause-negatives : goal.returns-in-Lookup-clause-negatives
returns-in-Lookup-clause-negatives g c = rw c.in-Lookup.is refl

pub returns-in-HelpLook-clause-negatives : goal.returns-in-HelpLook-clause-negatives
returns-in-HelpLook-clause-negatives g c = rw c.in-HelpLook.is refl

pub returns-in-Moments-clause-negatives : goal.returns-in-Moments-clause-negatives
returns-in-Moments-clause-negatives g c = rw c.in-Moments.is refl

pub returns-in-HelpMoments-clause-negatives : goal.returns-in-HelpMoments-clause-negatives
returns-in-HelpMoments-clause-negatives g c = rw c.in-HelpMoments.is refl

pub returns-in-Serve-clause-negatives : goal.returns-in-Serve-clause-negatives
returns-in-Serve-clause-negatives g c = rw c.in-Serve.is refl
