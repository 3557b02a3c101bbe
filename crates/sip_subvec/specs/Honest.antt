-- What an honest helper knows and says of a sub-vector.
--
-- Reply 0 has the entries, in full frames and a last one of the rest, and the siblings of the
-- lowest level. Each later reply has the siblings of the level above, which the next challenge
-- gives.
use Rattle.std.specs.Prelude.{ℕ, ◌+◌, ◌-◌, ◌/◌, ◌%◌, ◌^◌, ◌==◌, ◌≡◌, ◌<◌, ◌≤◌, ℤ, nat_abs, All}
use Rattle.std.specs.Prelude.{List, [], ◌∷◌, ◌++◌, length, map, take, slice_index, Some, None}
use Rattle.std.specs.Prelude.{if◌then◌else◌}
use Rattle.std.specs.List.{range_with_len, flat_map}
use Rattle.sip_field.specs.Moduli.{m61_modulus}
use Rattle.sip_field.specs.Residue.{residue}
use Rattle.sip_vector.specs.declared.query.Query.TheVariants.{Sub}
use Rattle.sip_vector.specs.declared.update.Entry.{Entry}
use Rattle.sip_vector.specs.Pieces.{cut}
use Rattle.sip_vector.specs.Trees.{up, tree}
use Rattle.sip_vector.specs.Vectors.{nonzero_within}
use Rattle.sip_wire.specs.declared.message.Message.{Message}
use Rattle.sip_wire.specs.declared.message.Message.TheVariants as messages
use Rattle.sip_wire.specs.declared.version.Version.{Version}
use Rattle.sip_wire.specs.Spelling.{spelling}
use Rattle.sip_wire.specs.Table.{most_rows, most_claim}
use Rattle.sip_wire.specs.Versions.{Speaks}
use Rattle.sip_subvec.specs.AcceptsSub.{Siblings}
use Rattle.sip_subvec.specs.Replies.{most_entries}

-- ---- levels

-- a level of the tree, and the interval of it above the entries that were asked for
pub record Proving : Type 0 where
  pub level : List ℕ
  pub lo : ℕ
  pub hi : ℕ

-- the lowest level: the residues of a vector's numbers
abbrev pub begun : ℕ → List ℤ → ℕ → ℕ → Proving
begun p numbers lo hi = record { level = map (residue p) numbers; lo = lo; hi = hi }

-- the level above, and the nodes of it above the interval
abbrev pub learnt : ℕ → Proving → ℕ → Proving
learnt p s r = record { level = up p s.level r; lo = s.lo / 2; hi = s.hi / 2 }

-- the level that these challenges lead to
abbrev pub proving : ℕ → List ℤ → ℕ → ℕ → List ℕ → Proving
proving p numbers lo hi prefix = record {
  level = tree p numbers prefix;
  lo = lo / 2 ^ length prefix;
  hi = hi / 2 ^ length prefix;
}

-- the true siblings of an interval of a level: the node left of it where lo is odd, and the one
-- right of it where hi is even
abbrev pub honest_siblings : List ℕ → ℕ → ℕ → Siblings
honest_siblings level lo hi = record {
  left = if lo % 2 == 1 then Some (slice_index level (lo - 1)) else None;
  right = if hi % 2 == 0 then Some (slice_index level (hi + 1)) else None;
}

-- those of a prover's level
abbrev pub its_siblings : Proving → Siblings
its_siblings s = honest_siblings s.level s.lo s.hi

-- ---- replies

abbrev pub siblings_message : Siblings → Message
siblings_message s = messages.Siblings s.left s.right

-- entries by 512, the last frame the rest
abbrev pub entry_frames : List Entry → List Message
entry_frames es = map (λ piece. messages.Entries (record { items = piece })) (cut most_rows es)

-- the entries that are sent before the siblings, once these challenges are revealed
abbrev pub opening_frames : List ℤ → ℕ → ℕ → List ℕ → List Message
opening_frames numbers lo hi [] = entry_frames (nonzero_within lo hi numbers)
opening_frames numbers lo hi (r ∷ prefix) = []

-- the messages that are due once these challenges are revealed
unfoldable pub honest_messages : ℕ → List ℤ → ℕ → ℕ → List ℕ → List Message
honest_messages p numbers lo hi prefix =
    opening_frames numbers lo hi prefix
    ++ siblings_message (its_siblings (proving p numbers lo hi prefix)) ∷ []

-- their bytes
abbrev pub honest_reply : Version → ℕ → List ℤ → ℕ → ℕ → List ℕ → List ℕ
honest_reply version p numbers lo hi prefix =
    flat_map (spelling version) (honest_messages p numbers lo hi prefix)

-- all replies: reply j is the one due once the first j challenges are revealed
abbrev pub honest_replies : Version → ℕ → List ℤ → ℕ → ℕ → List ℕ → List (List ℕ)
honest_replies version p numbers lo hi challenges =
    map (λ j. honest_reply version p numbers lo hi (take j challenges))
    (range_with_len 0 (length challenges))

-- The entries of an interval can be shown: the version has a query for them at the vector's depth,
-- messages have room for the field and for the numbers, and no more of them are asked for than an
-- answer may have.
pub record CanBeShown (version : Version) (p depth lo hi : ℕ) (numbers : List ℤ) : Type 0 where
  pub some : 0 < p
  pub elements : p ≤ m61_modulus
  pub levels : 1 ≤ depth
  pub speaks : Speaks version depth (Sub lo hi)
  pub size : length numbers ≡ 2 ^ depth
  pub order : lo ≤ hi
  pub within : hi < 2 ^ depth
  pub small : All (λ a. nat_abs a ≤ most_claim) numbers
  pub few : length (nonzero_within lo hi numbers) ≤ most_entries

-- ---- the prover

-- The interval is in order and within the level, whose length is a power of two.
pub record IsProving (level : List ℕ) (lo hi : ℕ) : Type 0 where
  pub height : ℕ
  pub size : length level ≡ 2 ^ height
  pub order : lo ≤ hi
  pub within : hi < length level
