-- The kinds of query, over any modulus: how the replies to one are read, when a helper that lies
-- can win, and what an honest one replies. A run computes modulo 2^61 - 1.
use Rattle.std.specs.Prelude.{◌≡◌, ◌<◌, ◌≤◌, ℕ, ◌-◌, ◌/◌, ℤ, nat_abs, Bool, false, nat_le, ⊤, List}
use Rattle.std.specs.Prelude.{[], length, All, if◌then◌else◌}
use Rattle.sip_field.specs.Moduli.{m61_modulus}
use Rattle.sip_vector.specs.declared.query.Query.{Query}
use Rattle.sip_vector.specs.declared.query.Query.TheVariants.{Sub, Range, F2, Inner, Heavy, Share}
use Rattle.sip_vector.specs.declared.query.Query.TheVariants.{Above}
use Rattle.sip_vector.specs.declared.update.Side.{Side}
use Rattle.sip_vector.specs.declared.update.Side.TheVariants.{First, Second}
use Rattle.sip_vector.specs.declared.update.Update.{Update}
use Rattle.sip_vector.specs.Extensions.{ones}
use Rattle.sip_vector.specs.Streams.{int_sum, total, vector, IsStrict}
use Rattle.sip_vector.specs.Thresholds.{is_wide, share_of}
use Rattle.sip_vector.specs.Trees.{root}
use Rattle.sip_vector.specs.Vectors.{nonzero_within}
use Rattle.sip_wire.specs.declared.version.Version.{Version}
use Rattle.sip_replies.specs.Protocols.{Protocol}
use Rattle.sip_heavy.specs.Counting as heavy
use Rattle.sip_heavy.specs.Counting.{accepts_heavy, heavy_over}
use Rattle.sip_heavy.specs.Honest as honest_heavy
use Rattle.sip_heavy.specs.Protocol.{HeavyState, count_of}
use Rattle.sip_subvec.specs.AcceptsSub.{Stated}
use Rattle.sip_subvec.specs.Counting as subs
use Rattle.sip_subvec.specs.Honest.{honest_replies}
use Rattle.sip_subvec.specs.Protocol.{sub_asked, sub_protocol}
use Rattle.sip_subvec.specs.Replies.{most_entries}
use Rattle.sip_sums.specs.AcceptsSum as sums_of
use Rattle.sip_sums.specs.AcceptsSum.{product_at}
use Rattle.sip_sums.specs.Counting as sums
use Rattle.sip_sums.specs.Honest as honest_sums
use Rattle.sip_sums.specs.Protocol.{SumState, sum_asked, sum_protocol}

-- what is known of a query, by its kind
pub record Kind : Type 1 where
  -- what replies state so far
  pub State : Type 0
  -- how the replies at these challenges are read, and what they come to
  pub protocol : List ℕ → Protocol State
  -- how many values of one challenge let a wrong answer pass its reply, at most
  pub chances : ℕ
  -- the replies say the stream's own answer
  pub is_right : List (List ℕ) → Bool
  -- The replies at these challenges are accepted, and what they state is small for the modulus. The
  -- bytes of a number have room for no others modulo 2^61 - 1.
  pub accepts_small : List ℕ → List (List ℕ) → Bool
  -- what the count asks of the stream
  pub CanBeCounted : Type 0
  -- and of its numbers, over a modulus: they are small for it, as those of legal streams are for
  -- 2^61 - 1; others are the same as such modulo p
  pub AreSmall : Type 0
  -- what an honest helper asks of it: that, and that the answer has no more entries than may be
  -- sent
  pub HasFew : Type 0
  -- what an honest helper replies at these challenges
  pub honest : List ℕ → List (List ℕ)

-- the entries of these numbers from lo to hi
abbrev pub sub_kind_over : Version → ℕ → List ℤ → ℕ → ℕ → Kind
sub_kind_over version p numbers lo hi = record {
  State = Stated;
  protocol = λ block. sub_protocol (sub_asked version p (root p numbers block) lo hi block);
  chances = 1;
  is_right = subs.is_right version lo hi numbers;
  accepts_small = λ block. subs.accepts_small version p (root p numbers block) lo hi block;
  CanBeCounted = ⊤;
  AreSmall = All (λ a. nat_abs a ≤ (p - 1) / 2) numbers;
  HasFew = length (nonzero_within lo hi numbers) ≤ most_entries;
  honest = honest_replies version p numbers lo hi;
}

-- the sum of the products of these lists' entries
abbrev pub sum_kind_over : Version → ℕ → ℕ → List ℤ → List ℤ → Kind
sum_kind_over version p depth first second = record {
  State = SumState;
  protocol = λ block. sum_protocol (sum_asked version p (product_at p first second block));
  chances = 2;
  is_right = sums.is_right version p (sums_of.total first second);
  accepts_small = sums.accepts_small version p first second;
  CanBeCounted = ⊤;
  AreSmall = nat_abs (sums_of.total first second) ≤ (p - 1) / 2;
  HasFew = ⊤;
  honest = honest_sums.honest_replies version p depth first second;
}

-- The entries of a side that are at least this. No entry may be negative: else a helper could hide
-- one behind a negative one.
abbrev pub heavy_kind_over : Version → ℕ → ℕ → List Update → Side → ℕ → Kind
heavy_kind_over version p depth stream side at_least = record {
  State = HeavyState;
  protocol = heavy_over version p depth at_least (vector depth stream side);
  chances = 3;
  is_right = heavy.is_right version p depth at_least (vector depth stream side);
  accepts_small = accepts_heavy version p depth at_least (vector depth stream side);
  CanBeCounted = IsStrict depth stream side;
  AreSmall = nat_abs (int_sum (vector depth stream side)) < p;
  HasFew = IsStrict depth stream side × (is_wide at_least (total stream side) ≡ false);
  honest = λ block. if nat_le at_least (count_of (int_sum (vector depth stream side)))
      then honest_heavy.honest_replies version p (vector depth stream side) at_least block
      else [];
}

-- whether a query's check stands here
pub data KindRow : Type 1 where
  built : Kind → KindRow
  missing : KindRow

-- The table of kinds: to build one is to change its row.
abbrev pub kind_row_over : Version → ℕ → ℕ → List Update → Query → KindRow
kind_row_over version p depth stream (Sub lo hi) =
    built (sub_kind_over version p (vector depth stream First) lo hi)
kind_row_over version p depth stream (Range side lo hi) =
    built (sum_kind_over version p depth (vector depth stream side) (ones depth lo hi))
kind_row_over version p depth stream (F2 side) =
    built (sum_kind_over version p depth (vector depth stream side) (vector depth stream side))
kind_row_over version p depth stream Inner =
    built (sum_kind_over version p depth (vector depth stream First) (vector depth stream Second))
kind_row_over version p depth stream (Heavy side at_least) =
    built (heavy_kind_over version p depth stream side at_least)
-- a share, by the count that it comes to of the vector's sum
kind_row_over version p depth stream (Share side num den) =
    built (heavy_kind_over version p depth stream side
    (share_of num den (int_sum (vector depth stream side))))
kind_row_over version p depth stream (Above side at_least) = missing

-- ---- the kinds of a run

abbrev pub sub_kind : Version → List ℤ → ℕ → ℕ → Kind
sub_kind version = sub_kind_over version m61_modulus

abbrev pub sum_kind : Version → ℕ → List ℤ → List ℤ → Kind
sum_kind version = sum_kind_over version m61_modulus

abbrev pub heavy_kind : Version → ℕ → List Update → Side → ℕ → Kind
heavy_kind version = heavy_kind_over version m61_modulus

abbrev pub kind_row : Version → ℕ → List Update → Query → KindRow
kind_row version = kind_row_over version m61_modulus

-- this holds of the kind in a row; of a check that doesn't stand here nothing holds
abbrev pub Holds : (Kind → Type 0) → KindRow → Type 0
Holds of_kind (built kind) = of_kind kind
Holds of_kind missing = ⊥

-- this holds of the query's kind
abbrev pub OfKind : Version → ℕ → List Update → Query → (Kind → Type 0) → Type 0
OfKind version depth stream query of_kind = Holds of_kind (kind_row version depth stream query)
