-- Siblings that are elements of the field have a spelling.
use Rattle.std.proofs.Common.{ℕ, ◌<◌, Option, Some, None, refl}
use Rattle.std.specs.Prelude.{IsTrue}
use Rattle.std.proofs.lemmas.Bool.{and_from, lt-ltb}
use Rattle.sip_field.specs.Moduli.{m61_modulus}
use Rattle.sip_wire.specs.declared.version.Version.{Version}
use Rattle.sip_wire.specs.declared.message.Message.TheVariants as messages
use Rattle.sip_wire.specs.Spelling.{fits, has_room, all_hold}
use Rattle.sip_wire.proofs.SmallNumbers.{element_room}

-- a sibling that is present is an element of the field
abbrev pub HasElement : Option ℕ → Type 0
HasElement None = Unit {0}
HasElement (Some n) = n < m61_modulus

-- such siblings have a spelling
pub siblings_fit : (version : Version) (left right : Option ℕ) → HasElement left → HasElement right → IsTrue (fits version (messages.Siblings left right))
unfolding fits has_room all_hold
siblings_fit version None None l r = refl
siblings_fit version (Some x) None l r = and_from _ _ (and_from _ _ (and_from _ _ (element_room x l) refl) refl) (and_from _ _ (lt-ltb x m61_modulus l) refl)
siblings_fit version None (Some y) l r = and_from _ _ (and_from _ _ (and_from _ _ (element_room y r) refl) refl) (and_from _ _ (lt-ltb y m61_modulus r) refl)
siblings_fit version (Some x) (Some y) l r =
    and_from _ _ (and_from _ _ (and_from _ _ (element_room x l) (and_from _ _ (element_room y r) refl)) refl) (and_from _ _ (lt-ltb x m61_modulus l) (and_from _ _ (lt-ltb y m61_modulus r) refl))
