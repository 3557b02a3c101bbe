use Rattle.std.proofs.Common.{refl}
use Rattle.sip_field.specs.declared.memory.OutOfMemory.{OutOfMemory}
use Rattle.sip_duel.proofs.KeepsLemmas.{asked_keeps, none_appended}
use Rattle.sip_duel.proofs.link.ask.Goals as goal

pub returns-in-Ok-clause-keeps : goal.returns-in-Ok-clause-keeps
returns-in-Ok-clause-keeps g c = asked_keeps OutOfMemory _ _ c.args.kept.now _ c.in-Ok.more c.requires.opened c.requires.none c.in-Ok.ensures.replies refl refl refl refl refl

pub returns-in-Ok-clause-mute : goal.returns-in-Ok-clause-mute
returns-in-Ok-clause-mute g c = λ mute.
    let said = c.in-Ok.ensures.mute mute in
    (said.1, none_appended _ _ _ _ c.in-Ok.more said.0 c.in-Ok.ensures.replies)
