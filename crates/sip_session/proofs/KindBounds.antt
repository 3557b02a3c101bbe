-- Each kind of query has few vectors of challenges, modulo any prime.
use Rattle.std.proofs.Common.{◌≡◌, ℕ, ◌*◌, ◌-◌, ◌^◌, ◌/◌, ◌<◌, ◌≤◌, List, length, All, IsTrue, pos, nat_abs, cond, refl, arith}
use Rattle.std.specs.Prelude.{slice_index_or}
use Rattle.std.proofs.lemmas.List.FromFn.{length-map-range_with_len}
use Rattle.sip_field.specs.Moduli.{m61_modulus}
use Rattle.sip_field.specs.Prime.{IsPrime}
use Rattle.sip_vector.specs.declared.query.Query.{Query}
use Rattle.sip_vector.specs.Built.{is_built}
use Rattle.sip_vector.specs.declared.query.Query.TheVariants.{Sub, Range, F2, Inner, Heavy, Share, Above}
use Rattle.sip_vector.specs.declared.update.Side.TheVariants.{First, Second}
use Rattle.sip_vector.specs.declared.update.Update.{Update}
use Rattle.sip_vector.specs.Answers.{is_within}
use Rattle.sip_vector.specs.Extensions.{ones}
use Rattle.sip_vector.specs.Streams.{int_sum, vector, IsLegal}
use Rattle.sip_vector.specs.Thresholds.{share_of}
use Rattle.sip_vector.proofs.Sides.{length-vector}
use Rattle.sip_counts.specs.Joint.{CountedQuestion, IsBounded, bounds}
use Rattle.sip_counts.specs.Strategies.{Strategy, IsOfBytes}
use Rattle.sip_counts.proofs.Joint.{few_misled_of}
use Rattle.sip_wire.specs.declared.version.Version.{Version}
use Rattle.sip_wire.specs.Table.{most_claim}
use Rattle.sip_subvec.proofs.FewFooled as subs
use Rattle.sip_subvec.proofs.WrittenAnswers.{vector-small}
use Rattle.sip_sums.specs.AcceptsSum.{total}
use Rattle.sip_sums.specs.Questions.{lists}
use Rattle.sip_sums.proofs.FewFooled as sums
use Rattle.sip_sums.proofs.LegalTotals.{legal_small}
use Rattle.sip_heavy.proofs.FewFooledByBytes.{few_fooled_by_bytes}
use Rattle.sip_heavy.proofs.LegalSums.{legal_sum}
use Rattle.sip_verifier.specs.JointClause.{asked_by}
use Rattle.sip_verifier.specs.Kinds.{kind_row_over, Holds}
use Rattle.sip_session.specs.JointCounts.{asked_over, misled_over, CanBeCountedOver}

-- ---- one query

module _ (version : Version) (p depth : ℕ) (stream : List Update) (prime : IsPrime p) where
  abbrev Row : Query → CountedQuestion
  Row query = asked_by (λ kind. kind.accepts_small) depth (kind_row_over version p depth stream query)

  pub bounded : (query : Query) → CanBeCountedOver version p depth stream query → IsBounded p depth (Row query)
  bounded (Sub lo hi) can = λ strategy bytes.
      let few = subs.few_fooled_small version p depth lo hi (vector depth stream First) strategy prime
      (length-vector depth stream First) can.0.0 can.0.1 can.1.1 in
      let one : 1 * depth ≡ depth = omega arith in
      rw one few
  bounded (Range side lo hi) can = λ strategy bytes.
      sums.few_fooled_small version p depth (vector depth stream side) (ones depth lo hi) strategy prime (length-vector depth stream side)
      (length-map-range_with_len (λ i. cond (is_within lo hi i) (pos 1) (pos 0)) 0 (2 ^ depth)) can.1.1
  bounded (F2 side) can = λ strategy bytes.
      sums.few_fooled_small version p depth (vector depth stream side) (vector depth stream side) strategy prime
      (length-vector depth stream side) (length-vector depth stream side) can.1.1
  bounded Inner can = λ strategy bytes.
      sums.few_fooled_small version p depth (vector depth stream First) (vector depth stream Second) strategy prime
      (length-vector depth stream First) (length-vector depth stream Second) can.1.1
  bounded (Heavy side t) can = λ strategy bytes.
      few_fooled_by_bytes version p depth t (vector depth stream side) strategy prime (length-vector depth stream side) can.1.0 can.1.1
  bounded (Above side t) can = absurd can.1
  bounded (Share side num den) can = λ strategy bytes.
      few_fooled_by_bytes version p depth (share_of num den (int_sum (vector depth stream side))) (vector depth stream side) strategy prime
      (length-vector depth stream side) can.1.0 can.1.1

  -- ---- queries in turn

  pub joint_bound : (queries : List Query) (strategy : Strategy) → 0 < depth
      → All (CanBeCountedOver version p depth stream) queries → IsOfBytes strategy
      → misled_over version p depth stream queries strategy
      ≤ bounds (asked_over version p depth stream queries) * p ^ (length queries * depth - 1)
  joint_bound queries strategy some can bytes =
      few_misled_of p depth strategy Row queries some bytes
      (λ k d less. bounded (slice_index_or queries k d) (can k d less))

-- ---- legal streams

-- what a query for a sum asks of its sum, from the bound of its lists
claim_small : (n : ℕ) → n ≤ most_claim → n ≤ (m61_modulus - 1) / 2
claim_small n le = let half : (m61_modulus - 1) / 2 ≡ most_claim = refl in omega arith

pub are_small : (version : Version) (depth : ℕ) (stream : List Update) (query : Query) → IsTrue (is_built query) → IsLegal depth stream
    → Holds (λ kind. kind.AreSmall) (kind_row_over version m61_modulus depth stream query)
are_small version depth stream (Sub lo hi) built legal = vector-small depth stream legal
are_small version depth stream (Range side lo hi) built legal =
    claim_small (nat_abs (total (vector depth stream side) (ones depth lo hi)))
    (legal_small depth stream (Range side lo hi) (lists (vector depth stream side) (ones depth lo hi)) legal refl).fits
are_small version depth stream (F2 side) built legal =
    claim_small (nat_abs (total (vector depth stream side) (vector depth stream side)))
    (legal_small depth stream (F2 side) (lists (vector depth stream side) (vector depth stream side)) legal refl).fits
are_small version depth stream Inner built legal =
    claim_small (nat_abs (total (vector depth stream First) (vector depth stream Second)))
    (legal_small depth stream Inner (lists (vector depth stream First) (vector depth stream Second)) legal refl).fits
are_small version depth stream (Heavy side t) built legal = legal_sum depth stream side legal
are_small version depth stream (Share side num den) built legal = legal_sum depth stream side legal
are_small version depth stream (Above side t) built legal = absurd cc
