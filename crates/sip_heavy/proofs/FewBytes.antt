-- A strategy of bytes has wrong entries accepted at few vectors of challenges, whatever leaves have.
use Rattle.std.proofs.Common.{◌≡◌, ◌≢◌, ℕ, suc, ◌+◌, ◌-◌, ◌*◌, ◌<◌, ◌≤◌, ◌^◌, Bool, true, false, ◌&&◌, not, Option, Some, None, Result, Ok, Err, is_ok, List, [], ◌∷◌, length, map, take, ℤ, pos, ◌≤ℤ◌, ◌+ℤ◌, int_le, refl, ap, sym, subst, ◌∙◌, arith, inl, inr}
use Rattle.std.specs.Prelude.{◌==◌, nat_lt, if◌then◌else◌, filter}
use Rattle.std.specs.List.{enumerate_from}
use Rattle.std.specs.Cmp.Lexicographic.{pointwise}
use Rattle.std.proofs.Math.Nat.{div-eq_of_lt}
use Rattle.std.proofs.lemmas.Bool.{cases_Bool, and_parts, and_from, eq-eqb, leb-false, leb-true, not-true, not_from_false, both_ways, false_from_ne_true}
use Rattle.sip_field.specs.Prime.{IsPrime}
use Rattle.sip_counts.specs.Counts.{counted}
use Rattle.sip_counts.specs.Strategies.{Strategy, replies, before, all_there, is_wrong, takes_wrong}
use Rattle.sip_counts.proofs.Vectors.{counted-grows, counted-none}
use Rattle.sip_counts.proofs.Talks.{replies-length, takes_wrong-at}
use Rattle.sip_vector.specs.declared.update.Entry.{Entry}
use Rattle.sip_vector.specs.Answers.{Answer, pairs}
use Rattle.sip_vector.specs.Steps.{◌>>=◌, needs}
use Rattle.sip_vector.specs.Streams.{int_sum}
use Rattle.sip_vector.specs.Trees.{Counted}
use Rattle.sip_wire.specs.declared.message.Node.{Node}
use Rattle.sip_wire.specs.declared.message.Reason.{Reason}
use Rattle.sip_wire.specs.declared.message.Reason.TheVariants as reasons
use Rattle.sip_wire.specs.declared.version.Version.{Version}
use Rattle.sip_replies.specs.Protocols.{Rules, Protocol}
use Rattle.sip_replies.specs.Replies.{Fault, in_round, read_reply, run_from, run, IsAccepted}
use Rattle.sip_replies.specs.Replies as replies_of
use Rattle.sip_replies.proofs.SameEntries.{same_entries}
use Rattle.sip_replies.specs.SameEntries.{is_same_entry}
use Rattle.sip_replies.proofs.Unasked.{accepted_asked, accepted_unasked}
use Rattle.sip_replies.proofs.Passing.{step_passed, round_passed}
use Rattle.sip_heavy.specs.declared.form.LeafForm.{LeafForm}
use Rattle.sip_heavy.specs.AcceptsHeavy.{HeavyQuestion, most_nodes, is_next, with_nodes, top_test, heavy_entries, leaves_of, verdict}
use Rattle.sip_heavy.specs.Counting.{LeavesStand, top_of, accepts_over, are_right_over, protocol_over, accepts_bytes_over, leaves_in, said_over, is_right_over}
use Rattle.sip_heavy.specs.Honest.{heavy_of}
use Rattle.sip_heavy.specs.Protocol.{HeavyAsked, HeavyState, count_of, heavy_rules, heavy_finish, reaches}
use Rattle.sip_heavy.proofs.FewFooled.{ok_parts, few_fooled}
use Rattle.sip_heavy.proofs.HeardNodes.{heard, run_heard}
use Rattle.sip_heavy.proofs.ReadNodes.{nodes_said, reply_read}
use Rattle.sip_heavy.proofs.SaidBytes.{leaves_first}
use Rattle.sip_heavy.proofs.SaidLeaves.{counts_more, stand_counts}
use Rattle.sip_heavy.proofs.TrueLevels.{sum_of, sum_is}

abbrev pub as_entry : ℕ → ℤ → Entry
as_entry i z = record { index = i; value = z }

-- ---- replies that are accepted

round_is_ok : {X : Type 0} (j : ℕ) (r : Result X Reason) → is_ok (in_round j r) ≡ true → is_ok r ≡ true
round_is_ok j (Ok x) e = refl
round_is_ok j (Err reason) e = absurd cc

all_there-length : {X : Type 0} (os : List (Option X)) (xs : List X) → all_there os ≡ Some xs → length xs ≡ length os
all_there-length [] [] e = refl
all_there-length [] (x ∷ xs) e = absurd cc
all_there-length (None ∷ os) xs e = absurd cc
all_there-length {X} (Some x ∷ os) xs e = by_rest (all_there os) (λ ys is. all_there-length os ys is) e
  where
    by_rest : (w : Option (List X)) → ((ys : List X) → w ≡ Some ys → length ys ≡ length os) → before x w ≡ Some xs → length xs ≡ suc (length os)
    by_rest None others k = absurd cc
    by_rest (Some ys) others k = let same : x ∷ ys ≡ xs = cc in ap length (sym same) ∙ ap suc (others ys refl)

-- ---- where nothing is asked

-- the verdict decides where no answer is known without a reply
accepts_asked : {S : Type 0} (P : Protocol S) (rs : List ℕ) (all : List (List ℕ)) → P.unasked ≡ None → replies_of.accepts P rs all ≡ ((length all == length rs) && is_ok (replies_of.verdict P rs all))
accepts_asked P rs all e = rw e refl

accepts_unasked : {S : Type 0} (P : Protocol S) (rs : List ℕ) (all : List (List ℕ)) (known : Answer) → P.unasked ≡ Some known → replies_of.accepts P rs all ≡ true
accepts_unasked P rs all known e = rw e refl

same_pairs : (xs ys : List Entry) → ◌≡◌ {A = Result Answer Reason} (Ok (pairs xs)) (Ok (pairs ys)) → xs ≡ ys
same_pairs xs ys e = cc

no_pairs : (xs : List Entry) → pairs xs ≡ pairs [] → [] ≡ xs
no_pairs xs e = cc

no_room : (order room light : Bool) (r : Result (List Node) Reason) (all : List Node) → room ≡ false
    → (needs order reasons.BadOrder >>= λ _. needs room reasons.TooMany >>= λ _. needs light reasons.HeavySibling >>= λ _. r) ≡ Ok all → ⊥
no_room true true light r all none e = absurd cc
no_room true false light r all none e = absurd cc
no_room false room light r all none e = absurd cc

-- no leaf fits below a threshold above the total
none_fit : (q : HeavyQuestion) (xs all : List Node) → q.total < q.at_least → with_nodes q 0 [] [] xs ≡ Ok all → [] ≡ all
none_fit q [] all less e = let same : [] ≡ all = cc in same
none_fit q (x ∷ xs) all less e =
    let most : most_nodes q ≡ 0 = ap (λ n. 2 * n) (div-eq_of_lt less) in
    absurd (no_room (is_next q 0 [] [] x.index) (nat_lt 0 (most_nodes q)) true (with_nodes q 0 [] (x ∷ []) xs) all (ap (nat_lt 0) most) e)

-- no number is as much as a threshold above the sum of all counts
none_heavy : (p t : ℕ) (form : LeafForm) (i : ℕ) (leaves : List Counted) (numbers : List ℤ) → LeavesStand p form leaves numbers → (n : ℕ) → int_sum (map (λ c. c.count) leaves) ≡ pos n → n < t
    → filter (λ e. int_le (pos t) e.value) (map (λ x. as_entry x.0 x.1) (enumerate_from i numbers)) ≡ []
none_heavy p t form i [] [] stand n sum less = refl
none_heavy p t form i [] (a ∷ numbers) stand n sum less = absurd stand
none_heavy p t form i (c ∷ leaves) [] stand n sum less = refl
none_heavy p t form i (c ∷ leaves) (a ∷ numbers) stand n sum less =
    let rest = sum_is leaves (stand_counts p form leaves numbers stand.1) in
    let here = stand.0.counts in
    let parts : pos here.0 +ℤ pos rest.0 ≡ pos n = ap (λ z. z +ℤ pos rest.0) (sym here.1) ∙ ap (λ z. c.count +ℤ z) (sym rest.1) ∙ sum in
    let both : here.0 + rest.0 ≡ n = cc in
    let light : int_le (pos t) a ≡ false = false_from_ne_true (int_le (pos t) a) (λ heavy.
    absurd (omega (arith, leb-true t here.0 (counts_more t here.0 a heavy (subst (λ z. a ≤ℤ z) here.1 stand.0.within))))) in
    rw light (none_heavy p t form (i + 1) leaves numbers stand.1 rest.0 rest.1 (omega arith))

module _ (version : Version) (p : ℕ) (q : HeavyQuestion) (leaves : List Counted) (numbers : List ℤ) where
  abbrev d : ℕ
  d = q.depth

  abbrev t : ℕ
  t = q.at_least

  abbrev R : Rules HeavyState
  R = heavy_rules version p q

  -- what is asked at these challenges
  abbrev asked_at : List ℕ → HeavyAsked
  asked_at r = record { version = version; modulus = p; root = (top_of p leaves r).hash; query = q }

  -- what accepted replies state, where something is asked
  record Accepted (r : List ℕ) (all : List (List ℕ)) : Type 0 where
    s : HeavyState
    states : run R r all ≡ Ok s
    ends : top_test q (top_of p leaves r).hash s.known ≡ Ok tt
    long : (length all == length r) ≡ true

  asked_accepts : (r : List ℕ) (all : List (List ℕ)) → reaches q ≡ true
      → accepts_bytes_over version p q leaves r all ≡ ((length all == length r) && is_ok (replies_of.verdict (protocol_over version p q leaves r) r all))
  asked_accepts r all asked = accepts_asked (protocol_over version p q leaves r) r all (ap (λ b. if b then None else Some (pairs [])) asked)

  accepted_parts : (r : List ℕ) (all : List (List ℕ)) → reaches q ≡ true → accepts_bytes_over version p q leaves r all ≡ true → Accepted r all
  accepted_parts r all asked h =
      let both = and_parts (length all == length r) (is_ok (replies_of.verdict (protocol_over version p q leaves r) r all)) (sym (asked_accepts r all asked) ∙ h) in
      let states = ok_parts (run R r all) (λ s. in_round (length r) (heavy_finish (asked_at r) s)) both.1 in
      let s : HeavyState = states.0 in
      let done = round_is_ok (length r) (heavy_finish (asked_at r) s) states.1.1 in
      let ends = ok_parts (top_test q (top_of p leaves r).hash s.known) (λ _. Ok (pairs (heavy_entries p q.form t s.leaves))) done in
      record { s = s; states = states.1.0; ends = ends.1.0; long = both.0 }

  -- ---- where something is asked

  -- the strategy of the nodes has wrong leaves accepted where the strategy of bytes has
  nodes_taken : (strategy : Strategy) (r : List ℕ) → reaches q ≡ true → takes_wrong (accepts_bytes_over version p q leaves) (is_right_over version p q numbers) strategy r ≡ true
      → takes_wrong (accepts_over p q leaves) (are_right_over p q numbers) (heard p q.form version true strategy) r ≡ true
  unfolding takes_wrong verdict
  nodes_taken strategy r asked h = by_all (all_there (replies strategy r)) refl h
    where
      by_all : (o : Option (List (List ℕ))) → all_there (replies strategy r) ≡ o → is_wrong (accepts_bytes_over version p q leaves r) (is_right_over version p q numbers) o ≡ true
          → is_wrong (accepts_over p q leaves r) (are_right_over p q numbers) (all_there (replies (heard p q.form version true strategy) r)) ≡ true
      by_all None is k = absurd cc
      by_all (Some all) is k =
          let both = and_parts (accepts_bytes_over version p q leaves r all) (not (is_right_over version p q numbers all)) k in
          let a = accepted_parts r all asked both.0 in
          let h = run_heard version p q r 0 0 true [] [] strategy all a.s refl is a.states in
          let root : ℕ = (top_of p leaves r).hash in
          let shown : leaves_in (run R [] (take 1 all)) ≡ leaves_of h.lists = leaves_first version p q r all a.s a.states ∙ h.first refl refl in
          let size : length h.lists ≡ length r = all_there-length (replies (heard p q.form version true strategy) r) h.lists h.there ∙ replies-length (heard p q.form version true strategy) r in
          let good : is_ok (verdict p q root r h.lists) ≡ true =
          ap (λ (w : Result (List Node) Fault). is_ok (w >>= λ top. in_round d (top_test q root top) >>= λ _. Ok (heavy_entries p q.form t (leaves_of h.lists)))) h.known_is
          ∙ ap (λ (w : Result (Unit {0}) Reason). is_ok (in_round d w >>= λ _. Ok (heavy_entries p q.form t (leaves_of h.lists)))) a.ends in
          let wrong : are_right_over p q numbers h.lists ≡ false = ap (λ xs. pointwise is_same_entry (heavy_entries p q.form t xs) (heavy_of t numbers)) (sym shown) ∙ not-true (is_right_over version p q numbers all) both.1 in
          ap (is_wrong (accepts_over p q leaves r) (are_right_over p q numbers)) h.there
          ∙ and_from (accepts_over p q leaves r h.lists) (not (are_right_over p q numbers h.lists))
          (and_from (length h.lists == length r) (is_ok (verdict p q root r h.lists)) (eq-eqb (length h.lists) (length r) size) good) (not_from_false (are_right_over p q numbers h.lists) wrong)

  -- ---- where nothing is asked

  -- no leaf is said
  said_nothing : (all : List (List ℕ)) → q.total < t → said_over version p q all ≡ []
  unfolding run_from
  said_nothing [] less = refl
  said_nothing (b ∷ bs) less = by_result (read_reply R R.start b) refl
    where
      by_result : (w : Result HeavyState Reason) → read_reply R R.start b ≡ w → heavy_entries p q.form t (leaves_in (in_round 0 w >>= λ s. run_from R 1 [] s [])) ≡ []
      by_result (Err reason) is = refl
      by_result (Ok s) is =
          let reads = reply_read version p q true R.start s b refl is in
          ap (heavy_entries p q.form t) (sym (ap (λ (u : HeavyState). u.leaves) reads.same) ∙ sym (none_fit q (nodes_said p q.form version true b) reads.all less reads.taken))

  nothing_heavy : LeavesStand p q.form leaves numbers → sum_of leaves ≡ q.total → q.total < t → heavy_of t numbers ≡ []
  nothing_heavy stand total less =
      let n = sum_is leaves (stand_counts p q.form leaves numbers stand) in
      let count : sum_of leaves ≡ n.0 = ap count_of n.1 in
      none_heavy p t q.form 0 leaves numbers stand n.0 n.1 (omega (arith, count, total))

  never_unasked : LeavesStand p q.form leaves numbers → sum_of leaves ≡ q.total → reaches q ≡ false → (strategy : Strategy) (r : List ℕ) → takes_wrong (accepts_bytes_over version p q leaves) (is_right_over version p q numbers) strategy r ≡ false
  unfolding takes_wrong
  never_unasked stand total unasked strategy r =
      false_from_ne_true (takes_wrong (accepts_bytes_over version p q leaves) (is_right_over version p q numbers) strategy r) (λ h. by_all (all_there (replies strategy r)) h)
    where
      by_all : (o : Option (List (List ℕ))) → is_wrong (accepts_bytes_over version p q leaves r) (is_right_over version p q numbers) o ≡ true → ⊥
      by_all None k = absurd cc
      by_all (Some all) k =
          let less : q.total < t = leb-false t q.total unasked in
          let wrong = not-true (is_right_over version p q numbers all) (and_parts (accepts_bytes_over version p q leaves r all) (not (is_right_over version p q numbers all)) k).1 in
          both_ways (is_right_over version p q numbers all) wrong
          ((same_entries (said_over version p q all) (heavy_of t numbers)).1 (said_nothing all less ∙ sym (nothing_heavy stand total less)))

  -- ---- the count

  pub few_fooled_by_bytes : (strategy : Strategy) → IsPrime p → length leaves ≡ 2 ^ d → LeavesStand p q.form leaves numbers → sum_of leaves ≡ q.total → q.total < p
      → counted p (takes_wrong (accepts_bytes_over version p q leaves) (is_right_over version p q numbers) strategy) d ≤ 3 * d * p ^ (d - 1)
  few_fooled_by_bytes strategy prime long stand total small =
      let wrongly : List ℕ → Bool = takes_wrong (accepts_bytes_over version p q leaves) (is_right_over version p q numbers) strategy in
      elim (cases_Bool (reaches q)) [
        | inl asked ↦
            let few = few_fooled p q leaves numbers (heard p q.form version true strategy) prime long stand total small in
            let grows = counted-grows p wrongly (takes_wrong (accepts_over p q leaves) (are_right_over p q numbers) (heard p q.form version true strategy)) d (λ v _ _ k. nodes_taken strategy v asked k) in
            omega arith
        | inr unasked ↦ omega (arith, counted-none p d wrongly (λ v _. never_unasked stand total unasked strategy v))
      ]

  -- ---- answers that were written

  -- the answer of accepted replies is what they say, and the test accepts them
  answer_said : (r : List ℕ) (all : List (List ℕ)) (answer : List Entry) → IsAccepted (protocol_over version p q leaves r) r all (pairs answer) → (said_over version p q all ≡ answer) × (accepts_bytes_over version p q leaves r all ≡ true)
  unfolding run_from
  answer_said r all answer h = elim (cases_Bool (reaches q)) [
    | inl asked ↦
        let P = protocol_over version p q leaves r in
        let stated = accepted_asked P r all (pairs answer) (ap (λ b. if b then None else Some (pairs [])) asked) h in
        let states = step_passed (run R r all) (λ s. in_round (length r) (heavy_finish (asked_at r) s)) (pairs answer) stated.found in
        let s : HeavyState = states.x in
        let done = round_passed (length r) (heavy_finish (asked_at r) s) (pairs answer) states.then in
        let ends = step_passed (top_test q (top_of p leaves r).hash s.known) (λ _. Ok (pairs (heavy_entries p q.form t s.leaves))) (pairs answer) done in
        let same : heavy_entries p q.form t s.leaves ≡ answer = same_pairs (heavy_entries p q.form t s.leaves) answer ends.then in (
          ap (heavy_entries p q.form t) (leaves_first version p q r all s states.first) ∙ same,
          asked_accepts r all asked ∙ and_from (length all == length r) (is_ok (replies_of.verdict P r all)) (eq-eqb (length all) (length r) stated.all) (ap is_ok stated.found),
        )
    | inr unasked ↦
        let P = protocol_over version p q leaves r in
        let known : P.unasked ≡ Some (pairs []) = ap (λ b. if b then None else Some (pairs [])) unasked in
        let none = accepted_unasked P r all (pairs answer) (pairs []) known h in
        let empty : [] ≡ answer = no_pairs answer none.1 in (
          ap (said_over version p q) none.0 ∙ empty,
          accepts_unasked P r all (pairs []) known,
        )
  ]

  pub written_counts : (strategy : Strategy) (block : List ℕ) (taken : List (List ℕ)) (answer : List Entry) → IsAccepted (protocol_over version p q leaves block) block taken (pairs answer)
      → replies strategy block ≡ map Some taken → answer ≢ heavy_of t numbers → takes_wrong (accepts_bytes_over version p q leaves) (is_right_over version p q numbers) strategy block ≡ true
  written_counts strategy block taken answer accepted talk wrong =
      let says = answer_said block taken answer accepted in
      takes_wrong-at (accepts_bytes_over version p q leaves) (is_right_over version p q numbers) strategy block taken talk says.1
      (false_from_ne_true (is_right_over version p q numbers taken) (λ k. wrong (sym says.0 ∙ (same_entries (said_over version p q taken) (heavy_of t numbers)).0 k)))
