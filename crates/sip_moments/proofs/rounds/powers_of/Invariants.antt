use Rattle.std.proofs.Common.{◌≡◌, ℕ, ◌-◌, ◌%◌, ◌^◌, ◌<◌, ◌≤◌, length, get_or, All}
use Rattle.sip_moments.proofs.rounds.powers_of.Given as goal

-- the powers so far stand at their places
abbrev pub invariant-loop-place : goal.invariant-loop-place
invariant-loop-place g l = record {
  long : length l.powers ≡ 9;
  below : All (λ y. y < g.F.Field.MODULUS) l.powers;
  powers : (i : ℕ) → 1 ≤ i → i < l.place → get_or l.powers i 0 ≡ (g.F.Field.number l.x ^ i) % g.F.Field.MODULUS;
  last : g.F.Field.number l.power ≡ (g.F.Field.number l.x ^ (l.place - 1)) % g.F.Field.MODULUS;
}
