-- What a sum's check of the general talk keeps.
use Rattle.std.specs.Prelude.{◌≡◌, ℕ, ℤ, false, List, Option}
use Rattle.sip_field.specs.Moduli.{m61_modulus}
use Rattle.sip_vector.specs.declared.update.Entry.{Entry}
use Rattle.sip_replies.specs.Protocols.{Phase}
use Rattle.sip_sums.specs.Checking.{Kept}
use Rattle.sip_sums.specs.Protocol.{SumAsked, SumState}

-- the check of the rounds, the claim once it came, and the product that the last value has to be
pub record Asking : Type 0 where
  pub check : Kept
  pub claim : Option ℤ
  pub product : ℕ

-- how far it is
abbrev pub phase_of : Asking → Phase
phase_of a =
    record { block = a.check.challenges; taken = a.check.given; revealed = a.check.revealed }

-- The check was given all that replies state so far. A number takes no places.
pub record SumStands (asked : SumAsked) (s : SumState) (a : Asking)
    (places : List Entry) : Type 0 where
  pub field : asked.modulus ≡ m61_modulus
  pub product : a.product ≡ asked.product
  pub claim : a.claim ≡ s.claim
  pub expected : a.check.expected ≡ s.expected
  pub last : a.check.last ≡ s.last
  pub unspent : a.check.spent ≡ false
