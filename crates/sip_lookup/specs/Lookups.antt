-- What a lookup asks of the numbers of side 0, what a helper finds, and the interval whose entries
-- prove it.
use Rattle.std.specs.Prelude.{ℕ, ◌-◌, ◌^◌, ◌<◌, Bool, true, false, ◌&&◌, ◌==◌, nat_eq, nat_le}
use Rattle.std.specs.Prelude.{nat_lt, ℤ, List, length, map, option_to_list, Option, Some, None}
use Rattle.std.specs.Prelude.{slice_get}
use Rattle.std.specs.Option.{option_map}
use Rattle.std.specs.Ordering.{int_eq}
use Rattle.std.specs.Cmp.Lexicographic.{pointwise}
use Rattle.sip_vector.specs.declared.update.Entry.{Entry}
use Rattle.sip_vector.specs.Vectors.{last_of, nonzero_within, number_at}
use Rattle.sip_replies.specs.SameEntries.{is_same_entry}
use Rattle.sip_subvec.specs.AcceptsSub.{stated_value}
use Rattle.sip_lookup.specs.declared.lookup.Lookup.{Lookup}
use Rattle.sip_lookup.specs.declared.lookup.Lookup.TheVariants.{Index, Pred, Succ}

-- ---- the question and its answer

abbrev pub item_of : Lookup → ℕ
item_of (Index i) = i
item_of (Pred i) = i
item_of (Succ i) = i

-- the lookup can be asked at this depth
abbrev pub CanLook : ℕ → Lookup → Type 0
CanLook depth l = item_of l < 2 ^ depth

-- The answer is the value at the item, or the entry that is nearest, where there is one.
pub data Looked : Type 0 where
  value : ℤ → Looked
  nearest : Option Entry → Looked

-- the answer that the numbers give: the number at the item, the last entry that is not 0 up to it,
-- or the first one from it on
abbrev pub near : List ℤ → Lookup → Looked
near numbers (Index i) = value (number_at numbers i)
near numbers (Pred i) = nearest (last_of (nonzero_within 0 i numbers))
near numbers (Succ i) = nearest (slice_get (nonzero_within i (length numbers - 1) numbers) 0)

abbrev pub is_same_answer : Looked → Looked → Bool
is_same_answer (value a) (value b) = int_eq a b
is_same_answer (nearest a) (nearest b) =
    pointwise is_same_entry (option_to_list a) (option_to_list b)
is_same_answer _ _ = false

-- ---- what a helper finds

-- the place of the answer: the item itself of an index, and else the item of the nearest entry
abbrev pub honest_found : List ℤ → Lookup → Option ℕ
honest_found numbers (Index i) = Some i
honest_found numbers (Pred i) =
    option_map (λ (e : Entry). e.index) (last_of (nonzero_within 0 i numbers))
honest_found numbers (Succ i) =
    option_map (λ (e : Entry). e.index)
    (slice_get (nonzero_within i (length numbers - 1) numbers) 0)

-- a place that may be found at this depth; another is a bad one
abbrev pub is_possible : ℕ → Lookup → Option ℕ → Bool
is_possible depth (Index i) None = false
is_possible depth (Index i) (Some j) = j == i
is_possible depth (Pred i) None = true
is_possible depth (Pred i) (Some j) = nat_le j i
is_possible depth (Succ i) None = true
is_possible depth (Succ i) (Some j) = nat_le i j && nat_lt j (2 ^ depth)

-- the interval whose entries prove what was found: from the place to the item, or the other way;
-- and all on that side of the item, where no place was found
abbrev pub range_of : ℕ → Lookup → Option ℕ → ℕ × ℕ
range_of depth (Index i) found = (i, i)
range_of depth (Pred i) None = (0, i)
range_of depth (Pred i) (Some j) = (j, i)
range_of depth (Succ i) None = (i, 2 ^ depth - 1)
range_of depth (Succ i) (Some j) = (i, j)

-- the entries of the interval are the one at the place that was found alone, or there are none
-- where none was; an index asks for no such thing
abbrev pub are_alone : Lookup → Option ℕ → List Entry → Bool
are_alone (Index i) found entries = true
are_alone (Pred i) found entries =
    pointwise nat_eq (map (λ (e : Entry). e.index) entries) (option_to_list found)
are_alone (Succ i) found entries =
    pointwise nat_eq (map (λ (e : Entry). e.index) entries) (option_to_list found)

-- the answer that the entries of the interval state
abbrev pub stated_answer : Lookup → List Entry → Looked
stated_answer (Index i) entries = value (stated_value entries i)
stated_answer (Pred i) entries = nearest (slice_get entries 0)
stated_answer (Succ i) entries = nearest (slice_get entries 0)
