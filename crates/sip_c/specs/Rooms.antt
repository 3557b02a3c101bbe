-- Bytes that are due.
use Rattle.std.specs.Prelude.{◌≡◌, ℕ, List, ◌++◌, drop, length}
use Rattle.sip_c.specs.declared.room.Room.{Room}

-- what went out
abbrev pub bytes_in : {n : ℕ} → Room n → List ℕ
bytes_in r = r.bytes.items

-- these bytes are in front of a buffer, and so many
abbrev pub AreHanded : List ℕ → List ℕ → List ℕ → ℕ → Type 0
AreHanded bytes to to' count =
    (count ≡ length bytes) × (to' ≡ bytes ++ drop (length bytes) to)
