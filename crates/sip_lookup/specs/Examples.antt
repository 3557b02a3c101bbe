-- The examples that the laws work out: lookups in (3, 0, 5, 1) at the challenges (2, 10).
use Rattle.std.specs.Prelude.{ℕ, pos, List, [], ◌∷◌, ◌++◌, Option, replicate}
use Rattle.sip_field.specs.Moduli.{m61_modulus}
use Rattle.sip_vector.specs.declared.update.Entry.{Entry}
use Rattle.sip_wire.specs.declared.version.Version.TheVariants.{One}
use Rattle.sip_subvec.specs.Honest.{honest_replies}
use Rattle.sip_vector.specs.Examples.{four}
use Rattle.sip_lookup.specs.Honest.{behind}
use Rattle.sip_lookup.specs.Questions.{Question}
use Rattle.sip_lookup.specs.declared.lookup.Lookup.TheVariants.{Succ}

abbrev pub entry : ℕ → ℕ → Entry
entry i v = record { index = i; value = pos v }

-- what is found, and the honest replies about an interval
abbrev pub found_and_proved : Option ℕ → ℕ → ℕ → List (List ℕ)
found_and_proved found lo hi =
    behind One found (honest_replies One m61_modulus four lo hi (2 ∷ 10 ∷ []))

-- the frame that asks for the nearest entry at 1 or above it
abbrev pub ask_succ_1 : List ℕ
ask_succ_1 = 0x21 ∷ 0x00 ∷ 0x09 ∷ 0x03 ∷ replicate 7 0 ++ 0x01 ∷ []

-- a Found of this place
abbrev pub found_at : ℕ → List ℕ
found_at j = 0x22 ∷ 0x00 ∷ 0x09 ∷ 0x01 ∷ replicate 7 0 ++ j ∷ []

-- that lookup at the challenges (2, 10), with these replies
abbrev pub succ_1 : List (List ℕ) → Question
succ_1 replies = record { query = Succ 1; block = 2 ∷ 10 ∷ []; replies = replies }
