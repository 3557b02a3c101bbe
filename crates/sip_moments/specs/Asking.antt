-- What a moment's check of the general talk keeps.
use Rattle.std.specs.Prelude.{◌≡◌, ℕ, ◌+◌, ◌%◌, ◌^◌, ◌==◌, ℤ, false, List, length, slice_index}
use Rattle.std.specs.Prelude.{Option, Result, if◌then◌else◌}
use Rattle.sip_field.specs.Moduli.{m61_modulus}
use Rattle.sip_vector.specs.declared.update.Entry.{Entry}
use Rattle.sip_vector.specs.Steps.{◌>>=◌, needs}
use Rattle.sip_wire.specs.declared.message.Reason.{Reason}
use Rattle.sip_wire.specs.declared.message.Reason.TheVariants as reasons
use Rattle.sip_counts.specs.Rounds.{sum_of_ends, value_at}
use Rattle.sip_replies.specs.Protocols.{Phase}
use Rattle.sip_moments.specs.Checking.{Kept}
use Rattle.sip_moments.specs.Protocol.{MomentAsked, MomentState}

-- the check of the rounds, the claim once it came, and the extension of the vector at the
-- challenges
pub record Asking : Type 0 where
  pub check : Kept
  pub claim : Option ℤ
  pub extension : ℕ

-- how far it is
abbrev pub phase_of : Asking → Phase
phase_of a =
    record { block = a.check.challenges; taken = a.check.given; revealed = a.check.revealed }

-- What a check expects that was given all this. Of a polynomial whose challenge was not revealed
-- yet it has the value there already.
abbrev pub expects : ℕ → MomentState → Kept → ℕ
expects p s check =
    if check.given == check.revealed then s.expected
    else value_at p s.last (slice_index check.challenges check.revealed)

-- The check was given all that replies state so far. A number takes no places.
pub record MomentStands (asked : MomentAsked) (s : MomentState) (a : Asking)
    (places : List Entry) : Type 0 where
  pub field : asked.modulus ≡ m61_modulus
  pub degree : a.check.degree ≡ asked.degree
  pub power : (a.extension ^ asked.degree) % m61_modulus ≡ asked.power
  pub claim : a.claim ≡ s.claim
  pub expected : a.check.expected ≡ expects m61_modulus s a.check
  pub unspent : a.check.spent ≡ false

-- the tests of a polynomial: that of its number of coefficients, and that of its values at 0 and 1
abbrev pub power_tests : ℕ → Kept → List ℕ → Result (Unit {0}) Reason
power_tests p check c =
    needs (length c == check.degree + 1) reasons.BadLength
    >>= λ _. needs (sum_of_ends p c == check.expected) reasons.Sum
