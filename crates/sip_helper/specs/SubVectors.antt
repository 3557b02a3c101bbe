-- What a sub-vector means to a helper, and what its prover stands for.
use Rattle.std.specs.Prelude.{ℕ, ◌≡◌, ◌<◌, ◌-◌, ◌^◌, Bool, nat_lt, List, length, Some, None}
use Rattle.std.specs.Prelude.{if◌then◌else◌}
use Rattle.sip_field.specs.Moduli.{m61_modulus}
use Rattle.sip_vector.specs.declared.query.Query.{Query}
use Rattle.sip_vector.specs.declared.query.Query.TheVariants.{Sub}
use Rattle.sip_vector.specs.Vectors.{nonzero_within}
use Rattle.sip_subvec.specs.Honest.{honest_messages, proving}
use Rattle.sip_subvec.specs.Replies.{most_entries}
use Rattle.sip_helper.specs.declared.sub_vector.SubVectorProver.{SubVectorProver}
use Rattle.sip_helper.specs.Vectors.{Vectors}
use Rattle.sip_helper.specs.KindRows.{HelpRow, too_many}

-- more of the first side's entries are not 0 than an answer may have
abbrev pub is_too_long : ℕ → ℕ → Vectors → Bool
is_too_long lo hi v = nat_lt most_entries (length (nonzero_within lo hi v.first.numbers))

-- its row: the entries and then siblings, over the first vector alone
abbrev pub sub_row : ℕ → ℕ → HelpRow
sub_row lo hi = record {
  refused_by = λ v. if is_too_long lo hi v then Some too_many else None;
  honest = λ v revealed. honest_messages m61_modulus v.first.numbers lo hi revealed;
}

-- the query of a prover
abbrev pub sub_query : SubVectorProver → Query
sub_query s = Sub s.lo s.hi

-- a prover has the level that these challenges lead to
pub record HasLevel (depth : ℕ) (v : Vectors) (revealed : List ℕ)
    (s : SubVectorProver) : Type 0 where
  pub within : s.hi < 2 ^ depth
  pub level : s.prover ≡ proving m61_modulus v.first.numbers s.lo s.hi revealed
  pub height : length s.prover.level ≡ 2 ^ (depth - length revealed)
