-- A lookup that waits for a reply has no fault so far.
use Rattle.std.proofs.Common.{inl, inr}
use Rattle.std.specs.Prelude.{ℕ, List}
use Rattle.sip_vector.specs.declared.update.Update.{Update}
use Rattle.sip_wire.specs.declared.version.Version.{Version}
use Rattle.sip_lookup.specs.Questions.{IsUnfinished, IsWaiting, Question}

pub waits_lawful : (version : Version) (depth : ℕ) (stream : List Update) (q : Question)
    → IsWaiting version depth stream q → IsUnfinished version depth stream q
waits_lawful version depth stream q (inl due) = inl due
waits_lawful version depth stream q (inr w) = inr (record {
  found = w.found;
  inner = w.inner;
  split = w.split;
  possible = w.possible;
  holds = w.holds.0;
})
