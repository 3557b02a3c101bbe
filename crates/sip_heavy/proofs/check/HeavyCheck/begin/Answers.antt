use Rattle.std.proofs.Common.{refl, arith}
use Rattle.sip_heavy.specs.Checking.{Space}
use Rattle.sip_heavy.proofs.Soundness.{sound_nothing, HasTaken-nothing}
use Rattle.std.proofs.Common.{◌*◌, ◌/◌, ◌≤◌, subst, sym}
use Rattle.sip_heavy.proofs.check.HeavyCheck.begin.Goals as goal

pub invariant_of-result : goal.invariant_of-result
invariant_of-result g c =
    let room = subst (λ (s : Space). 2 * (c.args.total / c.args.at_least) ≤ s.nodes) (sym c.space.view_is) c.requires.room in (
      sound_nothing _ refl refl room c.requires.small c.clear.ensures.items c.clear-2.ensures.items c.clear-3.ensures.items,
      omega (arith, c.space.invariant.0, c.clear.ensures.capacity),
      omega (arith, c.space.invariant.1, c.clear-2.ensures.capacity),
      omega (arith, c.space.invariant.2, c.clear-3.ensures.capacity),
    )

pub returns-clause-taken : goal.returns-clause-taken
returns-clause-taken g c =
    HasTaken-nothing g.F.Field.MODULUS _ c.args.hash c.args.seat.now _
    (rw c.copy_of.ensures refl)
    refl
    c.copy_of.ensures refl refl c.clear.ensures.items c.clear-2.ensures.items refl refl c.clear-3.ensures.items
