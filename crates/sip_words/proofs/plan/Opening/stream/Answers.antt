use Rattle.std.proofs.Common.{ap, ◌∙◌}
use Rattle.sip_words.specs.Plan.{opening_of}
use Rattle.sip_words.proofs.StreamWords.{stream_once}
use Rattle.sip_words.proofs.plan.Opening.stream.Goals as goal

pub returns-in-Some : goal.returns-in-Some
returns-in-Some c = λ s more names. c.of.ensures ∙ ap (λ t. opening_of t c.args.depth) (stream_once _ s _ c.in-Some.ensures.1 names)

pub returns-in-None : goal.returns-in-None
returns-in-None c = λ s more names. absurd (c.in-None.ensures more s names)
