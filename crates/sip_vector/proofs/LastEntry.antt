-- The last of some entries.
use Rattle.std.proofs.Common.{List, Option, Some, fold}
use Rattle.sip_vector.specs.declared.update.Entry.{Entry}

-- the last of these entries, or the one before them
abbrev pub last_behind : Option Entry → List Entry → Option Entry
last_behind o es = fold (λ (before : Option Entry) (e : Entry). Some e) o es
