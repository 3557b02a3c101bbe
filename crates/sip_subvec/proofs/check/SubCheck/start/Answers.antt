-- A new check has taken nothing: its root is the copy's.
use Rattle.std.proofs.Common.{◌≡◌, ℕ, ◌-◌, ◌^◌, ◌<◌, length, refl, sym, subst, ap, arith}
use Rattle.std.proofs.Math.Nat.{div-one}
use Rattle.sip_subvec.proofs.check.SubCheck.start.Goals as goal

pub invariant_of-result : goal.invariant_of-result
invariant_of-result g c =
    let same : length c.copy_of.result.seat ≡ length c.args.root.now.seat = ap length c.copy_of.ensures.seat in
    let left : length c.args.root.now.seat ≡ length c.copy_of.result.seat - 0 = omega arith in
    (omega arith, c.requires.order, subst (λ (k : ℕ). c.args.hi < 2 ^ k) left c.requires.item)

pub returns-clause-taken : goal.returns-clause-taken
returns-clause-taken g c = record {
  whole = c.requires.item;
  order = c.requires.order;
  passed = record { entries = refl; siblings = tt };
  at_challenges = c.copy_of.ensures.seat;
  for_root = c.copy_of.ensures.value;
  from_lo = sym (div-one c.args.lo);
  to_hi = sym (div-one c.args.hi);
  replies = refl;
  sum = c.of.ensures;
  last = λ i. refl;
  count = refl;
  unspent = refl;
}
