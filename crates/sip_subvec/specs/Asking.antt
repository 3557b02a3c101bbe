-- What a sub-vector's check of the general talk keeps, and what its calls did.
use Rattle.std.specs.Prelude.{◌≡◌, ◌≢◌, ℕ, ◌+◌, ◌-◌, ◌/◌, ◌≤◌, min, pos, nat_abs, Bool, true, false}
use Rattle.std.specs.Prelude.{List, [], ◌∷◌, ◌++◌, length, take, Result, Ok, Err}
use Rattle.sip_field.specs.Moduli.{m61_modulus}
use Rattle.sip_vector.specs.declared.update.Entry.{Entry}
use Rattle.sip_wire.specs.declared.message.Reason.{Reason}
use Rattle.sip_replies.specs.Protocols.{Phase}
use Rattle.sip_replies.specs.Talks.{ending}
use Rattle.sip_subvec.specs.AcceptsSub.{Siblings, Stated}
use Rattle.sip_subvec.specs.Checking.{Kept, HasTaken}
use Rattle.sip_subvec.specs.Protocol.{SubAsked}
use Rattle.sip_subvec.specs.Replies.{most_entries, with_entries}

-- ---- what is kept

-- the check of the sum, whether reply 0 is due or has come in part, and how many entries were
-- written
pub record Asking : Type 0 where
  pub check : Kept
  pub is_first : Bool
  pub found : ℕ

-- how far it is
abbrev pub phase_of : Asking → Phase
phase_of a =
    record { block = a.check.challenges; taken = a.check.level; revealed = a.check.revealed }

-- reply 0 is not whole
abbrev pub is_first_of : List Siblings → Bool
is_first_of [] = true
is_first_of (x ∷ xs) = false

-- how many entries an answer for this interval may have
abbrev pub most_answer : ℕ → ℕ → ℕ
most_answer lo hi = min (hi + 1 - lo) most_entries

-- The check was given all that replies state so far. Their entries are the first of the places,
-- which have room for an answer.
pub record SubStands (asked : SubAsked) (s : Stated) (a : Asking)
    (places : List Entry) : Type 0 where
  pub field : asked.modulus ≡ m61_modulus
  pub taken : HasTaken m61_modulus asked.root asked.lo asked.hi asked.challenges s a.check
  pub first : a.is_first ≡ is_first_of s.siblings
  pub shown : take a.found places ≡ s.entries
  pub within : a.found ≤ length places
  pub room : most_answer asked.lo asked.hi ≤ length places

-- ---- the entries of a frame

-- the value of an entry that a check takes
abbrev pub IsTakenValue : Entry → Type 0
IsTakenValue e = (e.value ≢ pos 0) × (nat_abs e.value ≤ (m61_modulus - 1) / 2)

-- A check was given these entries and no siblings yet. Its root, interval and challenges are those
-- of `begun`, which is the check where a call began.
abbrev pub HasEntries : Kept → List Entry → Kept → Type 0
HasEntries begun es check =
    HasTaken m61_modulus begun.root begun.lo begun.hi begun.challenges
    (record { entries = es; siblings = [] }) check

-- The entries of one frame were given to a check behind those before, and all of them are the first
-- of these places; or one of them has this fault.
abbrev pub Gives : Kept → List Entry → List Entry → Kept → List Entry → Result ℕ Reason → Type 0
Gives begun before rows check places (Ok found) =
    (with_entries begun.lo begun.hi before rows ≡ Ok (take found places))
    × (take found places ≡ before ++ rows) × (found ≤ length places)
    × HasEntries begun (take found places) check
Gives begun before rows check places (Err reason) =
    (ending reason ≡ []) × (with_entries begun.lo begun.hi before rows ≡ Err reason)
