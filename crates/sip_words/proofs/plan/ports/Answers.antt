use Rattle.sip_words.proofs.MadePorts.{opens_counted}
use Rattle.sip_words.proofs.NamedPorts.{opens_named}
use Rattle.sip_words.proofs.plan.ports.Goals as goal

pub returns-clause-counted : goal.returns-clause-counted
returns-clause-counted c = λ number count depth is. opens_counted c.args.words.now c.args.command.now c.of.result (c.of.ensures c.requires) number count depth is

pub returns-clause-named : goal.returns-clause-named
returns-clause-named c = opens_named c.args.words.now c.args.command.now c.of.result c.requires (c.of.ensures c.requires)
