use Rattle.std.proofs.Common.{◌≡◌, [], All, length}
use Rattle.sip_cli.proofs.panelling.panel_named.Given as goal

-- there is a link for each name so far, and nothing has happened on any
abbrev pub invariant-loop-name : goal.invariant-loop-name
invariant-loop-name g l = record {
  rested : All (λ k. k.kept.talk.items ≡ []) l.links.items;
  count : length l.links.items ≡ l.name-index;
}
