use Rattle.std.proofs.Common.{◌≡◌, false, drop}
use Rattle.sip_field.specs.Moduli.{m61_modulus}
use Rattle.sip_heavy.specs.Checking.{Advances}
use Rattle.sip_heavy.specs.Protocol.{mark_nodes}
use Rattle.sip_heavy.proofs.Given.{IsFront}
use Rattle.sip_heavy.proofs.heavy_asking.give_marks.Given as goal

abbrev pub invariant-loop-row : goal.invariant-loop-row
invariant-loop-row l =
    record {
      front : IsFront m61_modulus l.initial.check (mark_nodes m61_modulus l.rows) l.check (mark_nodes m61_modulus (drop l.row-index l.rows));
      advances : Advances l.initial.check l.check 0 0;
      unspent : l.check.spent ≡ false;
    }
