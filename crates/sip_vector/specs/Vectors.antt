-- What a vector shows, and how it stands for one side of a stream.
use Rattle.std.specs.Prelude.{ℕ, ◌+◌, ◌^◌, ℤ, pos, ◌+ℤ◌, nat_abs, Bool, not, ◌&&◌, List, Option}
use Rattle.std.specs.Prelude.{Some, None, replicate, filter, fold, slice_set, slice_index_or}
use Rattle.std.specs.Prelude.{if◌then◌else◌}
use Rattle.sip_vector.specs.declared.update.Side.{Side}
use Rattle.sip_vector.specs.declared.update.Update.{Update}
use Rattle.sip_vector.specs.declared.update.Entry.{Entry}
use Rattle.sip_vector.specs.Answers.{entries, is_within, is_zero}
use Rattle.sip_vector.specs.Sparse.{dense}
use Rattle.sip_vector.specs.Streams.{same_side, vector, weight}

-- the 2 ^ depth numbers of a vector, and the sum of the absolute values of what was added to them
pub record SideVector : Type 0 where
  pub depth : ℕ
  pub numbers : List ℤ
  pub weight : ℕ

-- what is seen of a vector: the same, and whether nothing that was added waits to be merged
pub record StoredVector : Type 0 where
  pub depth : ℕ
  pub numbers : List ℤ
  pub weight : ℕ
  pub is_settled : Bool

-- what it is, whether settled or not
abbrev pub contents : StoredVector → SideVector
contents v = record { depth = v.depth; numbers = v.numbers; weight = v.weight }

-- the entry at an index
abbrev pub number_at : List ℤ → ℕ → ℤ
number_at numbers index = slice_index_or numbers index (pos 0)

-- nothing but zeros
unfoldable pub zeros : ℕ → List ℤ
zeros depth = replicate (2 ^ depth) (pos 0)

-- the vector to which nothing was added
abbrev pub zero_vector : ℕ → SideVector
zero_vector depth = record { depth = depth; numbers = zeros depth; weight = 0 }

-- the vector once delta is added to one entry
abbrev pub with_added : SideVector → ℕ → ℤ → SideVector
with_added v index delta = record {
  depth = v.depth;
  numbers = slice_set v.numbers index (number_at v.numbers index +ℤ delta);
  weight = v.weight + nat_abs delta;
}

-- what a side of a stream adds up to
abbrev pub side_vector : ℕ → List Update → Side → SideVector
side_vector depth stream side =
    record { depth = depth; numbers = vector depth stream side; weight = weight stream side }

-- the same once an update of the stream is added, which may be of the other side
abbrev pub with_update : Side → SideVector → Update → SideVector
with_update side v u = if same_side u.side side then with_added v u.item u.delta else v

-- an entry that is not 0, at an index from lo to hi
abbrev pub is_nonzero_within : ℕ → ℕ → Entry → Bool
is_nonzero_within lo hi e = is_within lo hi e.index && not (is_zero e.value)

-- these entries, in the order of their indices
abbrev pub nonzero_within : ℕ → ℕ → List ℤ → List Entry
nonzero_within lo hi numbers = filter (is_nonzero_within lo hi) (entries numbers)

-- all entries that are not 0
abbrev pub nonzero : List ℤ → List Entry
nonzero numbers = filter (λ e. not (is_zero e.value)) (entries numbers)

-- the last of these entries
abbrev pub last_of : List Entry → Option Entry
last_of es = fold (λ (before : Option Entry) (e : Entry). Some e) None es

-- the numbers of which these are the entries that are not 0
abbrev pub numbers_of : ℕ → List (ℕ × ℤ) → List ℤ
numbers_of depth kept = dense (pos 0) (2 ^ depth) kept
