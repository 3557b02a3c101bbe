use Rattle.std.proofs.Common.{refl}
use Rattle.sip_wire.specs.Spelling.{fits, has_room, all_hold}
use Rattle.sip_wire.specs.declared.version.Version.TheVariants.{One}
use Rattle.sip_moment_tests.proofs.moment_talk_tests.asked_of.Goals as goal

pub ask-said-requires-clause-stood : goal.ask-said-requires-clause-stood
ask-said-requires-clause-stood c = (_, c.start-check.ensures.stands One _)

pub ask-said-requires-clause-fits : goal.ask-said-requires-clause-fits
unfolding fits has_room all_hold
ask-said-requires-clause-fits c = refl
