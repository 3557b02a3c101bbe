-- The words are of a sketch.
use Rattle.std.proofs.Common.{inl, inr}
use Rattle.sip.proofs.ending.Goals as goal

pub returns-in-Some : goal.returns-in-Some
returns-in-Some c = inl (_, inl c.sketch_ending.ensures)

pub returns-in-None : goal.returns-in-None
returns-in-None c = inl (_, inr c.ask_ending.ensures)
