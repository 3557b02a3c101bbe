use Rattle.std.proofs.Common.{refl, subst}
use Rattle.sip_cli.proofs.CommandKeeps.{none_keeps}
use Rattle.sip_cli.proofs.DoneLemmas.{done_by, none_done}
use Rattle.sip_words.proofs.Refusals.{command_once, spelled_not_refused}
use Rattle.sip_cli.proofs.RunLemmas.{never_usage, usage_at, usage_never}
use Rattle.sip_words.specs.declared.command.Command.{Command}
use Rattle.sip_words.specs.Words.{Spells}
use Rattle.sip_cli.proofs.top.run.Goals as goal

pub obey-requires : goal.obey-requires
obey-requires g c = (_, c.in-Ok.ensures.command)

pub returns-in-Ok-clause-done : goal.returns-in-Ok-clause-done
returns-in-Ok-clause-done g c =
    done_by (λ command spells. command_once _ _ command c.in-Ok.ensures.command spells)
    (λ command is. subst (Spells c.args.words.now) is c.in-Ok.ensures.command) c.obey.ensures.done

pub returns-in-Ok-clause-usage : goal.returns-in-Ok-clause-usage
returns-in-Ok-clause-usage g c =
    λ word. usage_never _ _ _ word c.in-Ok.ensures.command (c.obey.ensures.done.keeps.listed _ refl)

pub returns-in-Ok-clause-untouched : goal.returns-in-Ok-clause-untouched
returns-in-Ok-clause-untouched g c =
    λ word e. absurd (never_usage _ c.obey.result word (c.obey.ensures.done.keeps.listed _ refl) e)

pub returns-in-Err-clause-done : goal.returns-in-Err-clause-done
returns-in-Err-clause-done g c =
    let none = λ (command : Command) (spells : Spells c.args.words.now command).
    spelled_not_refused _ command _ spells c.in-Err.ensures.refused in
    none_done _ none (none_keeps _ none) refl

pub returns-in-Err-clause-usage : goal.returns-in-Err-clause-usage
returns-in-Err-clause-usage g c = λ word. usage_at _ _ word c.in-Err.ensures.refused
