-- What a sum of products means to a helper, and what its prover stands for.
use Rattle.std.specs.Prelude.{◌≡◌, ℕ, ◌-◌, ◌^◌, ◌<◌, All, List, length, None}
use Rattle.sip_field.specs.Moduli.{m61_modulus}
use Rattle.sip_vector.specs.declared.query.Query.{Query}
use Rattle.sip_vector.specs.declared.query.Query.TheVariants as queries
use Rattle.sip_vector.specs.Extensions.{ones}
use Rattle.sip_sums.specs.Honest.{honest_messages, proving}
use Rattle.sip_sums.specs.Questions.{Lists, lists}
use Rattle.sip_helper.specs.declared.sums.SumQuery.{SumQuery}
use Rattle.sip_helper.specs.declared.sums.SumQuery.TheVariants.{Range, F2, Inner}
use Rattle.sip_helper.specs.declared.sums.SumsProver.{SumsProver}
use Rattle.sip_helper.specs.Vectors.{Vectors, vector_of}
use Rattle.sip_helper.specs.KindRows.{HelpRow}

-- the query for a sum
abbrev pub asked_for : SumQuery → Query
asked_for (Range side lo hi) = queries.Range side lo hi
asked_for (F2 side) = queries.F2 side
asked_for Inner = queries.Inner

-- The two lists whose entries are multiplied: for a range sum the second is 1 at the items of the
-- range and 0 elsewhere.
abbrev pub lists_over : Vectors → SumQuery → Lists
lists_over v (Range side lo hi) =
    lists (vector_of v side).numbers (ones (vector_of v side).depth lo hi)
lists_over v (F2 side) = lists (vector_of v side).numbers (vector_of v side).numbers
lists_over v Inner = lists v.first.numbers v.second.numbers

-- its row: a claim and round polynomials, and no refusal
abbrev pub sum_row : SumQuery → HelpRow
sum_row q = record {
  refused_by = λ v. None;
  honest = λ v revealed. honest_messages m61_modulus v.first.depth (lists_over v q).first
      (lists_over v q).second revealed;
}

-- the query of a prover
abbrev pub sum_query : SumsProver → Query
sum_query s = asked_for s.query

-- a prover has folded both lists by these challenges
pub record HasFolded (depth : ℕ) (v : Vectors) (revealed : List ℕ) (s : SumsProver) : Type 0 where
  pub elements : All (λ r. r < m61_modulus) revealed
  pub size : length (lists_over v s.query).first ≡ 2 ^ depth
  pub same : length (lists_over v s.query).second ≡ 2 ^ depth
  pub folded : s.prover ≡ proving m61_modulus (lists_over v s.query).first
      (lists_over v s.query).second revealed
  pub height : length s.prover.first ≡ 2 ^ (depth - length revealed)
