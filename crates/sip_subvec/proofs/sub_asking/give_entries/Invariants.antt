use Rattle.std.proofs.Common.{◌≡◌, length, take}
use Rattle.sip_subvec.proofs.GivenEntries.{Giving}
use Rattle.sip_subvec.proofs.sub_asking.give_entries.Given as goal

abbrev pub invariant-loop-index : goal.invariant-loop-index
invariant-loop-index l = record {
  giving : Giving l.fn.check (take l.found l.fn.entries) l.rows l.found l.index l.check l.entries;
  places : length l.entries ≡ length l.fn.entries;
  revealed : l.check.revealed ≡ l.fn.check.revealed;
}
