use Rattle.std.proofs.Common.{◌≢◌, ℕ, ◌≤◌, ◌<◌, Some}
use Rattle.std.specs.List.{slice_get}
use Rattle.sip_cli.proofs.told_link.number_among.Given as goal

-- none of those so far is the same
abbrev pub invariant-loop-index : goal.invariant-loop-index
invariant-loop-index l = (i : ℕ) → l.before ≤ i → i < l.index → slice_get l.queries i ≢ Some l.query
