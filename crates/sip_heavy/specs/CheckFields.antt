-- What a check keeps, by its fields.
use Rattle.std.specs.Prelude.{ℕ}
use Rattle.sip_heavy.specs.Checking.{Kept}
use Rattle.sip_heavy.specs.declared.check.HeavyCheck.TheInside.{Inside}

abbrev pub kept_in : {F : Type 0} {cap : ℕ} → Inside F cap → Kept
kept_in c = record {
  form = c.form;
  challenges = c.seat;
  hash = c.hash;
  total = c.total;
  at_least = c.at_least;
  most = c.most;
  level = c.level;
  revealed = c.revealed;
  passed = c.passed;
  last = c.last;
  known = c.known.items;
  nodes = c.nodes.items;
  found = c.found.items;
  room = c.room;
  spent = c.spent;
}
