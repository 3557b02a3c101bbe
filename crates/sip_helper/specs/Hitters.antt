-- What heavy hitters mean to a helper, and what their prover stands for.
use Rattle.std.specs.Prelude.{◌≡◌, ◌<◌, ◌≤ℤ◌, ℕ, ◌-◌, ◌^◌, Bool, ℤ, pos, int_le, nat_abs, All, List}
use Rattle.std.specs.Prelude.{length, Some, None, if◌then◌else◌}
use Rattle.std.specs.List.{list_all}
use Rattle.sip_field.specs.Moduli.{m61_modulus}
use Rattle.sip_vector.specs.declared.query.Query.{Query}
use Rattle.sip_vector.specs.declared.query.Query.TheVariants as queries
use Rattle.sip_vector.specs.declared.update.Side.{Side}
use Rattle.sip_vector.specs.Streams.{int_sum}
use Rattle.sip_vector.specs.Thresholds.{is_wide, share_of}
use Rattle.sip_heavy.specs.Honest.{honest_messages, proving}
use Rattle.sip_helper.specs.declared.hitters.Least.{Least}
use Rattle.sip_helper.specs.declared.hitters.Least.TheVariants.{Count, Share}
use Rattle.sip_helper.specs.declared.hitters.HittersProver.{HittersProver}
use Rattle.sip_helper.specs.Vectors.{Vectors, vector_of}
use Rattle.sip_helper.specs.KindRows.{HelpRow, not_strict, too_many}

-- the query for the entries of a side that are at least this
abbrev pub heavy_query : Side → Least → Query
heavy_query side (Count at_least) = queries.Heavy side at_least
heavy_query side (Share num den) = queries.Share side num den

-- the least of them, by the total of the side
abbrev pub threshold : Least → ℤ → ℕ
threshold (Count at_least) total = at_least
threshold (Share num den) total = share_of num den total

-- no number is negative
abbrev pub is_strict : List ℤ → Bool
is_strict numbers = list_all (int_le (pos 0)) numbers

-- Its row: nodes level by level. An entry of the side that is negative is the first to refuse it,
-- and an answer that may be too wide the second.
abbrev pub heavy_row : Side → Least → HelpRow
heavy_row side least = record {
  refused_by = λ v.
      let numbers = (vector_of v side).numbers in
      let total = int_sum numbers in
      if is_strict numbers
      then (if is_wide (threshold least total) total then Some too_many else None)
      else Some not_strict;
  honest = λ v revealed.
      let numbers = (vector_of v side).numbers in
      honest_messages m61_modulus numbers (threshold least (int_sum numbers)) revealed;
}

-- the query of a prover
abbrev pub hitters_query : HittersProver → Query
hitters_query s = heavy_query s.side s.least

-- a prover has the level that these challenges lead to
pub record HasNodes (depth : ℕ) (v : Vectors) (revealed : List ℕ) (s : HittersProver) : Type 0 where
  pub strict : All (λ a. pos 0 ≤ℤ a) (vector_of v s.side).numbers
  pub small : nat_abs (int_sum (vector_of v s.side).numbers) < m61_modulus
  pub size : length (vector_of v s.side).numbers ≡ 2 ^ depth
  pub level : s.prover ≡ proving m61_modulus (vector_of v s.side).numbers
      (threshold s.least (int_sum (vector_of v s.side).numbers)) revealed
  pub height : length s.prover.level ≡ 2 ^ (depth - length revealed)
