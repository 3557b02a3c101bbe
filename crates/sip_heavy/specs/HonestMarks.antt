-- What an honest helper shows of the large entries of any vector: marks, of which each has an entry
-- and a weight.
use Rattle.std.specs.Prelude.{◌≡◌, ℕ, ◌^◌, ◌<◌, ◌≤◌, ℤ, pos, List, length, map, take}
use Rattle.std.specs.List.{range_with_len, flat_map, zip}
use Rattle.sip_field.specs.Moduli.{m61_modulus}
use Rattle.sip_vector.specs.Splits.{split_leaf}
use Rattle.sip_vector.specs.Streams.{int_sum}
use Rattle.sip_vector.specs.Trees.{Counted}
use Rattle.sip_wire.specs.declared.message.Message.{Message}
use Rattle.sip_wire.specs.declared.version.Version.TheVariants.{Two}
use Rattle.sip_wire.specs.Spelling.{spelling}
use Rattle.sip_wire.specs.Versions.{deepest}
use Rattle.sip_heavy.specs.declared.form.LeafForm.TheVariants as forms
use Rattle.sip_heavy.specs.Counting.{AreWeighed}
use Rattle.sip_heavy.specs.Honest.{Proving, begun_over, messages_over}

-- the leaves of the split tree
abbrev pub mark_leaves : ℕ → List ℤ → List ℤ → List Counted
mark_leaves p values weights = map (λ x. split_leaf p x.0 x.1) (zip values weights)

-- a prover at them
abbrev pub begun_above : ℕ → List ℤ → List ℤ → ℕ → Proving
begun_above p values weights t = begun_over forms.Mark (mark_leaves p values weights) t

-- the messages that are due once these challenges are revealed
unfoldable pub above_messages : ℕ → List ℤ → List ℤ → ℕ → List ℕ → List Message
above_messages p values weights t prefix =
    messages_over p forms.Mark (mark_leaves p values weights) t prefix

-- their bytes
abbrev pub above_reply : ℕ → List ℤ → List ℤ → ℕ → List ℕ → List ℕ
above_reply p values weights t prefix =
    flat_map (spelling Two) (above_messages p values weights t prefix)

-- all replies: reply j is the one due once the first j challenges are revealed
abbrev pub above_replies : ℕ → List ℤ → List ℤ → ℕ → List ℕ → List (List ℕ)
above_replies p values weights t challenges =
    map (λ j. above_reply p values weights t (take j challenges))
    (range_with_len 0 (length challenges))

-- The entries of a vector can be weighed: none is above its weight in size, and the sum of the
-- weights, which is n, is itself a residue.
pub record CanBeWeighed (p depth n : ℕ) (values weights : List ℤ) : Type 0 where
  pub modulus : 0 < p
  pub levels : 1 ≤ depth
  pub long : length values ≡ length weights
  pub size : length weights ≡ 2 ^ depth
  pub weighed : AreWeighed p values weights
  pub total : int_sum weights ≡ pos n
  pub light : n < p

-- The nodes over them can be sent: version 2 has items of the vector's depth, and messages have
-- room for the field.
pub record CanBeMarked (p depth n : ℕ) (values weights : List ℤ) : Type 0 where
  pub weighed : CanBeWeighed p depth n values weights
  pub elements : p ≤ m61_modulus
  pub shallow : depth ≤ deepest Two
