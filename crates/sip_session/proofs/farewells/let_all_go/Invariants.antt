-- The helpers up to this place are gone, and all talks are as they were.
use Rattle.std.proofs.Common.{◌≡◌, All, None, length, map, take}
use Rattle.sip_session.proofs.farewells.let_all_go.Given as goal

abbrev pub invariant-loop-place : goal.invariant-loop-place
invariant-loop-place g l = record {
  gone : All (λ x. x.helper ≡ None) (take l.place l.links);
  talks : map (λ x. x.kept.talk.items) l.links ≡ map (λ x. x.kept.talk.items) l.fn.links;
  count : length l.links ≡ length l.fn.links;
}
