-- When a list of entries is the one that is asked for.
use Rattle.std.specs.Prelude.{◌==◌, Bool, ◌&&◌}
use Rattle.std.specs.Ordering.{int_eq}
use Rattle.sip_vector.specs.declared.update.Entry.{Entry}

-- two entries have the same index and the same value
abbrev pub is_same_entry : Entry → Entry → Bool
is_same_entry a b = (a.index == b.index) && int_eq a.value b.value
