-- An answer that accepted replies state is counted.
use Rattle.std.proofs.Common.{◌≡◌, ◌==◌, ℕ, ◌*◌, ◌-◌, ◌^◌, ◌<◌, ◌≤◌, Bool, true, false, List, [], if◌then◌else◌, Option, Some, None, Result, Ok, Err, ℤ, length, refl, sym, ap, ◌∙◌, subst, arith}
use Rattle.sip_wire.specs.declared.version.Version.{Version}
use Rattle.sip_field.specs.LawProofs.Primes.{m61_prime}
use Rattle.sip_field.specs.Moduli.{m61_modulus}
use Rattle.sip_vector.specs.declared.query.Query.{Query}
use Rattle.sip_vector.specs.declared.query.Query.TheVariants.{Sub, Range, F2, Inner, Heavy, Share, Above}
use Rattle.sip_vector.specs.declared.update.Side.{Side}
use Rattle.sip_vector.specs.declared.update.Side.TheVariants.{First, Second}
use Rattle.sip_vector.specs.declared.update.Entry.{Entry}
use Rattle.sip_vector.specs.declared.update.Update.{Update}
use Rattle.sip_vector.specs.Answers.{Answer, Fits, answer, number, pairs}
use Rattle.sip_vector.specs.Extensions.{ones}
use Rattle.sip_vector.specs.Steps.{◌>>=◌, needs}
use Rattle.sip_wire.specs.declared.message.Reason.{Reason}
use Rattle.sip_wire.specs.declared.message.Reason.TheVariants as reasons
use Rattle.sip_vector.specs.Streams.{int_sum, vector, IsLegal, IsStrict}
use Rattle.sip_vector.specs.Thresholds.{share_of}
use Rattle.sip_vector.specs.Trees.{root, augroot}
use Rattle.sip_vector.proofs.Sides.{length-vector}
use Rattle.sip_counts.specs.Clauses.{FewAndCounted}
use Rattle.sip_counts.specs.Strategies.{Strategy, IsOfBytes, fooled}
use Rattle.sip_replies.specs.Replies as general
use Rattle.sip_subvec.specs.Counting.{is_right}
use Rattle.sip_replies.specs.Replies.{Fault, in_round}
use Rattle.sip_subvec.specs.AcceptsSub.{Stated, gives_root}
use Rattle.sip_subvec.specs.Protocol.{SubAsked, sub_asked, sub_finish, sub_protocol, sub_rules}
use Rattle.sip_subvec.proofs.FewFooled.{few_fooled_bytes}
use Rattle.sip_subvec.proofs.WrittenAnswers.{vector-small, written_counts}
use Rattle.sip_sums.specs.AcceptsSum.{product_at, total}
use Rattle.sip_sums.specs.Counting as sum_counting
use Rattle.sip_sums.specs.Protocol.{SumAsked, SumState, claimed, sum_asked, sum_protocol, sum_rules}
use Rattle.sip_sums.specs.Questions.{Lists, lists, lists_of}
use Rattle.sip_sums.proofs.WrittenSums as sums
use Rattle.sip_heavy.specs.AcceptsHeavy.{heavy_entries, top_test}
use Rattle.sip_heavy.specs.Counting as heavy
use Rattle.sip_heavy.specs.Counting.{heavy_over}
use Rattle.sip_heavy.specs.Protocol.{HeavyAsked, HeavyState, heavy_asked, heavy_finish, heavy_protocol, reaches}
use Rattle.sip_heavy.proofs.FewFooledByBytes as heavies
use Rattle.sip_heavy.proofs.FewFooledByBytes.{few_fooled_by_bytes}
use Rattle.sip_heavy.proofs.LegalSums.{legal_sum}
use Rattle.sip_verifier.specs.CountClause.{accepts_in, bound_of, FewFor, CountsFor}
use Rattle.sip_verifier.specs.Kinds.{sub_kind, sum_kind, heavy_kind}
use Rattle.sip_verifier.proofs.ShareAnswers.{share_answer}
use Rattle.sip_verifier.proofs.SumAnswers.{sums_answer}
use Rattle.sip_verifier.proofs.SumLaws.{few_sums}
use Rattle.sip_verifier.specs.Tasks.{CanBeAsked}
use Rattle.sip_verifier.specs.Questions.{Accepts}

-- ---- a sub-vector

module _ (version : Version) (depth : ℕ) (stream : List Update) (lo hi : ℕ) where
  sub_few : (strategy : Strategy) → IsOfBytes strategy → lo ≤ hi → hi < 2 ^ depth
      → IsLegal depth stream
      → fooled m61_modulus depth (accepts_in (sub_kind version (vector depth stream First) lo hi))
      (is_right version lo hi (vector depth stream First)) strategy
      ≤ 1 * depth * m61_modulus ^ (depth - 1)
  sub_few strategy bytes order within legal =
      let few = few_fooled_bytes version depth lo hi (vector depth stream First) strategy m61_prime
      (length-vector depth stream First) order within (vector-small depth stream legal) bytes in
      let one : 1 * depth ≡ depth = omega arith in
      rw one few

-- replies to a sub-vector query state pairs
no_number : (asked : SubAsked) (k : ℕ) (z : ℤ) (r : Result Stated Fault)
    → (r >>= λ s. in_round k (sub_finish asked s)) ≡ Ok (number z) → ⊥
no_number asked k z (Err fault) e = absurd cc
no_number asked k z (Ok s) e =
    by_test (gives_root asked.modulus asked.root asked.lo asked.hi asked.challenges s) e
  where
    by_test : (passes : Bool)
        → in_round k (needs passes reasons.Root >>= λ _. Ok (pairs s.entries)) ≡ Ok (number z) → ⊥
    by_test true is = absurd cc
    by_test false is = absurd cc

same_answer : (other stated : Answer) → Some stated ≡ Some other → other ≡ stated
same_answer other stated e = cc

-- an answer that accepted replies to a sub-vector query state is counted
sub_counts : (version : Version) (depth lo hi : ℕ) (stream : List Update) (block : List ℕ) (taken : List (List ℕ))
    (written : Answer) → lo ≤ hi → hi < 2 ^ depth → IsLegal depth stream
    → general.IsAccepted (sub_protocol (sub_asked version m61_modulus
    (root m61_modulus (vector depth stream First) block) lo hi block)) block taken written
    → CountsFor version depth stream (record { query = Sub lo hi; block = block; replies = taken }) written
sub_counts version depth lo hi stream block taken (number z) order within legal accepted = λ _. absurd
    (no_number (sub_asked version m61_modulus (root m61_modulus (vector depth stream First) block) lo hi block)
    (length block) z (general.run (sub_rules version lo hi) block taken) accepted.found)
sub_counts version depth lo hi stream block taken (pairs entries) order within legal accepted = λ _. record {
  few = λ strategy bytes. sub_few version depth stream lo hi strategy bytes order within legal;
  counts = λ strategy other talk same wrong.
      written_counts version m61_modulus (root m61_modulus (vector depth stream First) block) lo hi
      (vector depth stream First) (root m61_modulus (vector depth stream First)) strategy block
      taken entries refl accepted talk
      (λ right. wrong (same_answer other (pairs entries) same ∙ ap pairs right));
}

-- replies to a query for a sum state a number
no_pairs : (asked : SumAsked) (k : ℕ) (entries : List Entry) (r : Result SumState Fault)
    → (r >>= λ s. in_round k (claimed asked s s.claim)) ≡ Ok (pairs entries) → ⊥
no_pairs asked k entries (Err fault) e = absurd cc
no_pairs asked k entries (Ok s) e = by_claim s.claim e
  where
    by_test : (claim : ℤ) (passes : Bool)
        → in_round k (needs passes reasons.Root >>= λ _. Ok (number claim)) ≡ Ok (pairs entries) → ⊥
    by_test claim true is = absurd cc
    by_test claim false is = absurd cc

    by_claim : (claim : Option ℤ) → in_round k (claimed asked s claim) ≡ Ok (pairs entries) → ⊥
    by_claim None is = absurd cc
    by_claim (Some claim) is = by_test claim (s.expected == asked.product) is

-- ---- a sum

module _ (version : Version) (depth : ℕ) (stream : List Update) (query : Query) (l : Lists)
    (is : lists_of depth stream query ≡ Some l) (legal : IsLegal depth stream) where
  sum_few : (strategy : Strategy) → IsOfBytes strategy
      → fooled m61_modulus depth (accepts_in (sum_kind version depth l.first l.second))
      (sum_counting.is_right version m61_modulus (total l.first l.second)) strategy
      ≤ 2 * depth * m61_modulus ^ (depth - 1)
  sum_few strategy bytes = few_sums version depth stream query l strategy legal is bytes

  -- a number that accepted replies state is counted
  sum_counts : (block : List ℕ) (taken : List (List ℕ)) (written : Answer)
      → general.IsAccepted (sum_protocol (sum_asked version m61_modulus (product_at m61_modulus l.first l.second block)))
      block taken written
      → FewAndCounted m61_modulus depth (bound_of depth (sum_kind version depth l.first l.second))
      (accepts_in (sum_kind version depth l.first l.second))
      (sum_counting.is_right version m61_modulus (total l.first l.second)) block taken
      (Some written) (answer depth stream query)
  sum_counts block taken (pairs entries) accepted = absurd
      (no_pairs (sum_asked version m61_modulus (product_at m61_modulus l.first l.second block))
      (length block) entries (general.run (sum_rules version m61_modulus) block taken) accepted.found)
  sum_counts block taken (number claim) accepted =
      let right = sums_answer depth stream query l is in
      record {
        few = sum_few;
        counts = λ strategy other talk same wrong.
            let stated = same_answer other (number claim) same in
            sums.written_counts version m61_modulus l.first l.second strategy block taken claim accepted talk
            (λ e. wrong (stated ∙ ap number e ∙ sym right));
      }

-- ---- heavy hitters

-- replies to a query for heavy hitters state pairs
no_sum : (asked : HeavyAsked) (k : ℕ) (z : ℤ) (r : Result HeavyState Fault)
    → (r >>= λ s. in_round k (heavy_finish asked s)) ≡ Ok (number z) → ⊥
no_sum asked k z (Err fault) e = absurd cc
no_sum asked k z (Ok s) e = by_test (top_test asked.query asked.root s.known) e
  where
    by_test : {X : Type 0} (tested : Result X Reason)
        → in_round k (tested >>= λ _. Ok (pairs (heavy_entries asked.modulus asked.query.form asked.query.at_least s.leaves))) ≡ Ok (number z) → ⊥
    by_test (Ok x) is = absurd cc
    by_test (Err reason) is = absurd cc

pub never_sum : (asked : HeavyAsked) (block : List ℕ) (taken : List (List ℕ)) (z : ℤ)
    → general.IsAccepted (heavy_protocol asked) block taken (number z) → ⊥
never_sum asked block taken z accepted = by_reach (reaches asked.query) accepted
  where
    by_reach : (b : Bool) → elim (if b then None else Some (pairs [])) as (λ (u : Option Answer). Type 0) [
      | None ↦ general.IsStated (heavy_protocol asked) block taken (number z)
      | Some known ↦ (taken ≡ []) × (number z ≡ known)
    ] → ⊥
    by_reach true stated = no_sum asked (length block) z (general.run (heavy_protocol asked).rules block taken) stated.found
    by_reach false known = let no = known.1 in absurd cc

module _ (version : Version) (depth : ℕ) (stream : List Update) (side : Side) (at_least : ℕ) (legal : IsLegal depth stream) where
  abbrev numbers : List ℤ
  numbers = vector depth stream side

  heavy_few : IsStrict depth stream side → (strategy : Strategy) → IsOfBytes strategy
      → fooled m61_modulus depth (accepts_in (heavy_kind version depth stream side at_least))
      (heavy.is_right version m61_modulus depth at_least numbers) strategy
      ≤ 3 * depth * m61_modulus ^ (depth - 1)
  heavy_few strict strategy bytes =
      few_fooled_by_bytes version m61_modulus depth at_least numbers strategy m61_prime (length-vector depth stream side) strict (legal_sum depth stream side legal)

  -- pairs that accepted replies state are counted
  heavy_counts : (block : List ℕ) (taken : List (List ℕ)) (written : Answer)
      → general.IsAccepted (heavy_over version m61_modulus depth at_least numbers block) block taken written
      → IsStrict depth stream side
      → FewAndCounted m61_modulus depth (bound_of depth (heavy_kind version depth stream side at_least))
      (accepts_in (heavy_kind version depth stream side at_least))
      (heavy.is_right version m61_modulus depth at_least numbers) block taken
      (Some written) (answer depth stream (Heavy side at_least))
  heavy_counts block taken (number z) accepted strict = absurd
      (never_sum (heavy_asked version m61_modulus (augroot m61_modulus numbers block).hash (int_sum numbers) depth at_least) block taken z accepted)
  heavy_counts block taken (pairs entries) accepted strict = record {
    few = heavy_few strict;
    counts = λ strategy other talk same wrong.
        heavies.written_counts version m61_modulus depth at_least numbers strategy block taken entries accepted talk
        (λ right. wrong (same_answer other (pairs entries) same ∙ ap pairs right));
  }

-- ---- shares

-- pairs that accepted replies state are counted, by the count that the share comes to
share_counts : (version : Version) (depth : ℕ) (stream : List Update) (side : Side) (num den : ℕ) → 1 ≤ den → IsLegal depth stream
    → (block : List ℕ) (taken : List (List ℕ)) (written : Answer)
    → Accepts version depth stream (record { query = Share side num den; block = block; replies = taken }) written
    → CountsFor version depth stream (record { query = Share side num den; block = block; replies = taken }) written
share_counts version depth stream side num den some legal block taken written accepted = λ strict.
    let at_least : ℕ = share_of num den (int_sum (vector depth stream side)) in
    subst (λ (right : Answer). FewAndCounted m61_modulus depth (bound_of depth (heavy_kind version depth stream side at_least))
    (accepts_in (heavy_kind version depth stream side at_least))
    (heavy.is_right version m61_modulus depth at_least (vector depth stream side)) block taken (Some written) right)
    (sym (share_answer depth stream side num den some legal strict))
    (heavy_counts version depth stream side at_least legal block taken written accepted strict)

-- ---- all kinds

-- no helper has a wrong answer to a query that can be asked accepted at more blocks than its count
pub few_wrong : (version : Version) (depth : ℕ) (stream : List Update) (query : Query) → CanBeAsked depth query
    → IsLegal depth stream → FewFor version depth stream query
few_wrong version depth stream (Sub lo hi) can legal = λ _ strategy bytes. sub_few version depth stream lo hi strategy
    bytes can.1.0 can.1.1 legal
few_wrong version depth stream (Range side lo hi) can legal = λ _. sum_few version depth stream (Range side lo hi)
    (lists (vector depth stream side) (ones depth lo hi)) refl legal
few_wrong version depth stream (F2 side) can legal = λ _. sum_few version depth stream (F2 side)
    (lists (vector depth stream side) (vector depth stream side)) refl legal
few_wrong version depth stream Inner can legal = λ _. sum_few version depth stream Inner
    (lists (vector depth stream First) (vector depth stream Second)) refl legal
few_wrong version depth stream (Heavy side at_least) can legal = heavy_few version depth stream side at_least legal
few_wrong version depth stream (Above side at_least) can legal = absurd (let no : false ≡ true = can.0 in cc)
few_wrong version depth stream (Share side num den) can legal =
    heavy_few version depth stream side (share_of num den (int_sum (vector depth stream side))) legal

-- an answer that accepted replies state is counted
pub question_counts : (version : Version) (depth : ℕ) (stream : List Update) (query : Query) (block : List ℕ)
    (taken : List (List ℕ)) (written : Answer) → Fits depth query → IsLegal depth stream
    → Accepts version depth stream (record { query = query; block = block; replies = taken }) written
    → CountsFor version depth stream (record { query = query; block = block; replies = taken }) written
question_counts version depth stream (Sub lo hi) block taken written fits legal accepted =
    sub_counts version depth lo hi stream block taken written fits.0 fits.1 legal accepted
question_counts version depth stream (Range side lo hi) block taken written fits legal accepted = λ _.
    sum_counts version depth stream (Range side lo hi) (lists (vector depth stream side) (ones depth lo hi)) refl
    legal block taken written accepted
question_counts version depth stream (F2 side) block taken written fits legal accepted = λ _.
    sum_counts version depth stream (F2 side) (lists (vector depth stream side) (vector depth stream side)) refl
    legal block taken written accepted
question_counts version depth stream Inner block taken written fits legal accepted = λ _.
    sum_counts version depth stream Inner (lists (vector depth stream First) (vector depth stream Second)) refl
    legal block taken written accepted
question_counts version depth stream (Heavy side at_least) block taken written fits legal accepted =
    heavy_counts version depth stream side at_least legal block taken written accepted
question_counts version depth stream (Above side at_least) block taken written fits legal accepted = absurd accepted
question_counts version depth stream (Share side num den) block taken written fits legal accepted =
    share_counts version depth stream side num den (omega (arith, fits.0, fits.1)) legal block taken written accepted
