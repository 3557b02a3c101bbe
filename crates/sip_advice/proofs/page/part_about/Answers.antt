-- A word is one verb, or begins a command that keeps a sketch.
use Rattle.std.proofs.Common.{inl, inr, Some, sym, ap, ◌∙◌}
use Rattle.sip_words.proofs.Beginning.{verb_once}
use Rattle.sip_advice.specs.Pages.{part_of}
use Rattle.sip_advice.proofs.PageWords.{no_sketch_verb}
use Rattle.sip_advice.proofs.page.part_about.Goals as goal

pub returns-in-Some-clause-part : goal.returns-in-Some-clause-part
returns-in-Some-clause-part c = λ text is. elim is [
  | inl (verb, same, said) ↦ ap Some (c.part.ensures ∙ (ap part_of (verb_once c.in-Some.verb verb (sym c.in-Some.ensures ∙ same)) ∙ sym said))
  | inr part ↦ absurd (no_sketch_verb c.in-Some.verb _ text c.in-Some.ensures part)
]

pub returns-in-None-clause-part : goal.returns-in-None-clause-part
returns-in-None-clause-part c = λ text is. elim is [
  | inl (verb, same, said) ↦ absurd (c.in-None.ensures verb same)
  | inr part ↦ c.sketch_part.ensures.part text part
]
