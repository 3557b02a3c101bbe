-- So many seats were passed over.
use Rattle.std.proofs.Common.{◌≡◌, drop}
use Rattle.sip_session.proofs.panel_asking.skip_seats.Given as goal

abbrev pub invariant-loop-passed : goal.invariant-loop-passed
invariant-loop-passed l = record {
  next : l.session.left ≡ drop l._passed l.fn.session.left;
  version : l.session.version ≡ l.fn.session.version;
  depth : l.session.depth ≡ l.fn.session.depth;
  spent : l.session.spent ≡ l.fn.session.spent;
}
