-- The honest replies to a query are accepted, and have no fault while they come.
use Rattle.std.proofs.Common.{◌≡◌, ℕ, ◌+◌, ◌-◌, ◌^◌, ◌<◌, ◌≤◌, Bool, true, false, ◌==◌, if◌then◌else◌, Option, Some, None, Result, Ok, Err, List, [], ◌∷◌, ◌++◌, length, get_or, take, filter, fold, map, ℤ, pos, refl, sym, ap, subst, ◌∙◌, arith, append-nil, append_assoc, length-append}
use Rattle.std.specs.Prelude.{nat_le}
use Rattle.std.proofs.lemmas.Bool.{le-leb}
use Rattle.std.proofs.lemmas.List.FromFn.{length-map-range_with_len}
use Rattle.sip_counts.proofs.Walks.{walk, fronts_walk, walk_snoc}
use Rattle.sip_vector.specs.Answers.{Answer, pairs}
use Rattle.sip_vector.specs.Splits.{splitroot}
use Rattle.sip_vector.specs.Streams.{int_sum}
use Rattle.sip_vector.specs.Trees.{Counted, leaf, up3, augroot}
use Rattle.sip_wire.specs.declared.message.Node.{Node}
use Rattle.sip_wire.specs.declared.message.Reason.{Reason}
use Rattle.sip_wire.specs.declared.version.Version.{Version}
use Rattle.sip_wire.specs.declared.version.Version.TheVariants.{Two}
use Rattle.sip_replies.specs.Protocols.{Rules, Protocol}
use Rattle.sip_replies.specs.Replies.{read_reply, run, verdict, IsStated, IsAccepted, IsUnfinished}
use Rattle.sip_replies.proofs.Fronts.{reply_front}
use Rattle.sip_replies.proofs.Running.{run-fault}
use Rattle.sip_replies.proofs.Turns.{closed_next}
use Rattle.sip_heavy.specs.declared.form.LeafForm.{LeafForm}
use Rattle.sip_heavy.specs.declared.form.LeafForm.TheVariants as forms
use Rattle.sip_heavy.specs.AcceptsHeavy.{HeavyQuestion, top_test, heavy_entries}
use Rattle.sip_heavy.specs.Counting.{above_over, top_of}
use Rattle.sip_heavy.specs.Honest.{learnt, proving_over, shown_from, honest_messages, honest_replies, reply_over, replies_over, CanBeSent, heavy_of}
use Rattle.sip_heavy.specs.HonestMarks.{above_messages, above_replies, mark_leaves, CanBeMarked}
use Rattle.sip_heavy.specs.Protocol.{HeavyState, HeavyAsked, above_asked, count_of, heavy_rules, heavy_asked, heavy_protocol}
use Rattle.sip_heavy.proofs.HeavyPairs.{numbered, is_heavy}
use Rattle.sip_heavy.proofs.HonestLists.{top_is, top_passes, stated, at}
use Rattle.sip_heavy.proofs.Sendable.{AreCounted, AreSendable, are_counts, counts_sendable, counts_total, marks_sendable}
use Rattle.sip_heavy.proofs.HonestReplies.{leaves-push, Stands, arrives, later, reply_of, replies_of, runs}

-- ---- where all challenges lead

arrives_leaves : (p t j : ℕ) (leaves : List Node) (level : List Counted) (challenges : List ℕ) → (arrives p t (j + 1) leaves false level challenges).leaves ≡ leaves
arrives_leaves p t j leaves level [] = refl
arrives_leaves p t j leaves level (r ∷ challenges) =
    ap (λ (b : Bool). (arrives p t (j + 1 + 1) (if b then shown_from t false 0 level else leaves) false (up3 p level r) challenges).leaves) (later j)
    ∙ arrives_leaves p t (j + 1) leaves (up3 p level r) challenges

arrives_known : (p t j : ℕ) (leaves : List Node) (level : List Counted) (challenges : List ℕ)
    → (arrives p t j leaves false level challenges).known ≡ filter (is_heavy t) (numbered 0 (fold (up3 p) level challenges))
arrives_known p t j leaves level [] = refl
arrives_known p t j leaves level (r ∷ challenges) = arrives_known p t (j + 1) (if j == 0 then shown_from t false 0 level else leaves) (up3 p level r) challenges

verdict_by : (asked : HeavyAsked) (challenges : List ℕ) (replies : List (List ℕ)) (s : HeavyState) → run (heavy_protocol asked).rules challenges replies ≡ Ok s → top_test asked.query asked.root s.known ≡ Ok tt
    → verdict (heavy_protocol asked) challenges replies ≡ Ok (pairs (heavy_entries asked.modulus asked.query.form asked.query.at_least s.leaves))
verdict_by asked challenges replies s is test = rw (is, test) refl

-- what is stated is accepted where something is asked
accepted_by : (P : Protocol HeavyState) (rs : List ℕ) (replies : List (List ℕ)) (answer : Answer) → P.unasked ≡ None → IsStated P rs replies answer → IsAccepted P rs replies answer
accepted_by P rs replies answer asks is = by_unasked P.unasked asks
  where
    by_unasked : (u : Option Answer) → u ≡ None → elim u as (λ _. Type 0) [ None ↦ IsStated P rs replies answer | Some known ↦ (replies ≡ []) × (answer ≡ known) ]
    by_unasked None e = is
    by_unasked (Some known) e = absurd cc

abbrev unasked_by : Bool → Option Answer
unasked_by b = if b then None else Some (pairs [])

-- what can be sent, for a threshold of at least 1 that the sum reaches
pub record IsAsked (version : Version) (p : ℕ) (form : LeafForm) (depth t n : ℕ) (leaves : List Counted) (numbers : List ℤ) : Type 0 where
  pub can : AreSendable version p form depth n leaves numbers
  pub some : 1 ≤ t
  pub reached : t ≤ n

module _ (version : Version) (p : ℕ) (form : LeafForm) (depth t n : ℕ) (leaves : List Counted) (numbers : List ℤ) (is : IsAsked version p form depth t n leaves numbers) where
  abbrev counted : AreCounted p form depth n leaves numbers
  counted = is.can.counted

  abbrev q : HeavyQuestion
  q = record { form = form; depth = depth; at_least = t; total = n }

  abbrev R : Rules HeavyState
  R = heavy_rules version p q

  abbrev reply : List ℕ → List ℕ
  reply = reply_over version p form leaves t

  abbrev replies : List ℕ → List (List ℕ)
  replies = replies_over version p form leaves t

  begin_stands : Stands version p q 0 true leaves
  begin_stands = record {
    first = refl;
    are = are_counts p form leaves numbers counted.stand;
    sum = counted.total;
    size = counted.size ∙ ap (λ d. 2 ^ d) (let same : depth ≡ depth - 0 = omega arith in same);
    hashed = counted.hashed;
    leaves = λ e. is.can.shown;
  }

  -- reply by reply, from a level on
  walk_is : (challenges front : List ℕ) (is_leaf : Bool) (level : List Counted) → proving_over p form leaves t front ≡ at form t is_leaf level
      → walk reply front challenges ≡ replies_of version p form t is_leaf level challenges
  unfolding walk
  walk_is [] front is_leaf level same = refl
  walk_is (r ∷ challenges) front is_leaf level same =
      ap (λ s. reply_of version p s ∷ walk reply (front ++ r ∷ []) challenges) same
      ∙ ap (λ xs. reply_of version p (at form t is_leaf level) ∷ xs)
      (walk_is challenges (front ++ r ∷ []) false (up3 p level r) (leaves-push p form leaves t front r ∙ ap (λ s. learnt p s r) same))

  replies_are : (challenges : List ℕ) → replies challenges ≡ replies_of version p form t true leaves challenges
  replies_are challenges = fronts_walk reply [] challenges ∙ walk_is challenges [] true leaves refl

  -- what they state so far
  pub all_run : (revealed more : List ℕ) → length revealed ≤ depth → run R (revealed ++ more) (replies revealed) ≡ Ok (arrives p t 0 [] true leaves revealed)
  all_run revealed more short =
      ap (run R (revealed ++ more)) (replies_are revealed)
      ∙ runs version p q counted.modulus is.can.elements counted.light is.can.shallow is.some is.reached revealed more 0 [] true leaves (omega (arith, short)) begin_stands

  -- there is one for each challenge, and one challenge more gives one reply more
  pub replies_count : (challenges : List ℕ) → length (replies challenges) ≡ length challenges
  replies_count challenges = length-map-range_with_len (λ j. reply (take j challenges)) 0 (length challenges)

  pub replies_more : (revealed : List ℕ) (r : ℕ) → replies (revealed ++ r ∷ []) ≡ replies revealed ++ reply revealed ∷ []
  replies_more revealed r =
      fronts_walk reply [] (revealed ++ r ∷ []) ∙ walk_snoc reply [] revealed r ∙ ap (λ xs. xs ++ reply revealed ∷ []) (sym (fronts_walk reply [] revealed))

  -- ---- they are accepted

  abbrev asked_by : List ℕ → HeavyAsked
  asked_by challenges = record { version = version; modulus = p; root = (top_of p leaves challenges).hash; query = q }

  found : (r : ℕ) (challenges : List ℕ) → length (r ∷ challenges) ≡ depth → verdict (heavy_protocol (asked_by (r ∷ challenges))) (r ∷ challenges) (replies (r ∷ challenges)) ≡ Ok (pairs (heavy_of t numbers))
  found r challenges all =
      let cs : List ℕ = r ∷ challenges in
      let long : length leaves ≡ 2 ^ length cs = counted.size ∙ ap (λ d. 2 ^ d) (sym all) in
      let top = top_is p n cs leaves long (are_counts p form leaves numbers counted.stand) counted.total in
      let same : top.0.hash ≡ (top_of p leaves cs).hash = ap (λ (xs : List Counted). (get_or xs 0 (leaf p (pos 0))).hash) (sym top.1) in
      let s : HeavyState = arrives p t 0 [] true leaves cs in
      let ran : run R cs (replies cs) ≡ Ok s = ap (λ l. run R l (replies cs)) (sym (append-nil cs)) ∙ all_run cs [] (omega (arith, all)) in
      let passes = top_passes q (top_of p leaves cs).hash top.0 (fold (up3 p) leaves cs) top.1 top.2 same is.reached in
      verdict_by (asked_by cs) cs (replies cs) s ran
      (ap (top_test q (top_of p leaves cs).hash) (arrives_known p t 1 (shown_from t true 0 leaves) (up3 p leaves r) challenges) ∙ passes)
      ∙ ap (λ xs. Ok (pairs (heavy_entries p form t xs))) (arrives_leaves p t 0 (shown_from t true 0 leaves) (up3 p leaves r) challenges)
      ∙ ap (λ es. Ok (pairs es)) (stated p form depth t n leaves numbers counted is.some is.reached)

  -- against the root over the leaves and their sum, with the heavy numbers
  pub leaves_accepted : (challenges : List ℕ) → length challenges ≡ depth → IsAccepted (heavy_protocol (asked_by challenges)) challenges (replies challenges) (pairs (heavy_of t numbers))
  leaves_accepted [] all = absurd (omega (arith, all, counted.levels))
  leaves_accepted (r ∷ challenges) all =
      let cs : List ℕ = r ∷ challenges in
      let reaches : nat_le t n ≡ true = le-leb t n is.reached in
      let states : IsStated (heavy_protocol (asked_by cs)) cs (replies cs) (pairs (heavy_of t numbers)) = record { all = replies_count cs; found = found r challenges all } in
      accepted_by (heavy_protocol (asked_by cs)) cs (replies cs) (pairs (heavy_of t numbers)) (ap (λ (b : Bool). unasked_by b) reaches) states

  -- ---- they have no fault

  -- where the last one is whole
  pub whole_unfinished : (revealed more : List ℕ) → length (revealed ++ more) ≤ depth → IsUnfinished R (revealed ++ more) (replies revealed)
  whole_unfinished revealed more short = record {
    few = omega (arith, replies_count revealed, length-append revealed more);
    passes = λ fault e. absurd
        (let ran = all_run revealed more (omega (arith, short, length-append revealed more)) in
        let both = sym ran ∙ e in cc);
  }

  module _ (revealed : List ℕ) (r : ℕ) (more : List ℕ) (short : length (revealed ++ r ∷ more) ≤ depth) where
    abbrev block : List ℕ
    block = revealed ++ r ∷ more

    abbrev state : HeavyState
    state = arrives p t 0 [] true leaves revealed

    passed : run R block (replies revealed) ≡ Ok state
    passed = all_run revealed (r ∷ more) (omega (arith, short, length-append revealed (r ∷ more)))

    same_block : (revealed ++ r ∷ []) ++ more ≡ block
    same_block = append_assoc revealed (r ∷ []) more

    -- the next reply is whole behind those before it
    all_passed : run R block (replies revealed ++ reply revealed ∷ []) ≡ Ok (arrives p t 0 [] true leaves (revealed ++ r ∷ []))
    all_passed =
        ap (run R block) (sym (replies_more revealed r)) ∙ ap (λ l. run R l (replies (revealed ++ r ∷ []))) (sym same_block)
        ∙ all_run (revealed ++ r ∷ []) more (omega (arith, short, length-append (revealed ++ r ∷ []) more, ap length same_block))

    next_whole : (u : HeavyState) × (read_reply R state (reply revealed) ≡ Ok u)
    next_whole = by_read (read_reply R state (reply revealed)) refl
      where
        by_read : (x : Result HeavyState Reason) → read_reply R state (reply revealed) ≡ x → (u : HeavyState) × (read_reply R state (reply revealed) ≡ Ok u)
        by_read (Ok u) read = (u, read)
        by_read (Err reason) read =
            absurd (let fault = run-fault R block (replies revealed) state passed (reply revealed) reason read in
            let both = sym fault ∙ all_passed in cc)

    few : length (replies revealed) < length block
    few = omega (arith, replies_count revealed, length-append revealed (r ∷ more))

    -- so a front of the next reply lacks no more than its end
    pub front_unfinished : (front rest : List ℕ) → reply revealed ≡ front ++ rest → IsUnfinished R block (replies revealed ++ front ∷ [])
    front_unfinished front [] made =
        let its : reply revealed ≡ front = made ∙ append-nil front in
        let whole = ap (λ (b : List ℕ). run R block (replies revealed ++ b ∷ [])) (sym its) ∙ all_passed in
        record {
          few = omega (arith, few, length-append (replies revealed) (front ∷ []));
          passes = λ fault e. absurd (let both = sym e ∙ whole in cc);
        }
    front_unfinished front (byte ∷ others) made =
        let closed = reply_front R state front byte others next_whole.0 (ap (read_reply R state) (sym made) ∙ next_whole.1) in
        closed_next (heavy_protocol (record { version = version; modulus = p; root = 0; query = q })) block (replies revealed) state passed few front closed

-- ---- counts

pub asked_of : (version : Version) (p depth t n : ℕ) (numbers : List ℤ) → CanBeSent version p depth n numbers → 1 ≤ t → t ≤ n → IsAsked version p forms.Count depth t n (map (leaf p) numbers) numbers
asked_of version p depth t n numbers can some reached = record { can = counts_sendable version p depth n numbers can; some = some; reached = reached }

-- against the root of the vector and its sum, with its heavy entries
pub heavy_accepted : (version : Version) (p depth t n : ℕ) (numbers : List ℤ) → IsAsked version p forms.Count depth t n (map (leaf p) numbers) numbers → (challenges : List ℕ) → length challenges ≡ depth
    → IsAccepted (heavy_protocol (heavy_asked version p (augroot p numbers challenges).hash (int_sum numbers) depth t)) challenges (honest_replies version p numbers t challenges) (pairs (heavy_of t numbers))
unfolding honest_messages
heavy_accepted version p depth t n numbers is challenges all =
    subst (λ z. IsAccepted (heavy_protocol (heavy_asked version p (augroot p numbers challenges).hash z depth t)) challenges (replies_over version p forms.Count (map (leaf p) numbers) t challenges) (pairs (heavy_of t numbers)))
    (sym (counts_total p depth n numbers is.can.counted)) (leaves_accepted version p forms.Count depth t n (map (leaf p) numbers) numbers is challenges all)

-- ---- marks

pub marks_asked : (p depth t n : ℕ) (values weights : List ℤ) → CanBeMarked p depth n values weights → 1 ≤ t → t ≤ n → IsAsked Two p forms.Mark depth t n (mark_leaves p values weights) values
marks_asked p depth t n values weights can some reached = record { can = marks_sendable p depth n values weights can; some = some; reached = reached }

-- against the root of the split tree and the sum of the weights, with the large entries
pub marks_accepted : (p depth t n : ℕ) (values weights : List ℤ) → CanBeMarked p depth n values weights → 1 ≤ t → t ≤ n → (challenges : List ℕ) → length challenges ≡ depth
    → IsAccepted (above_over Two p depth t values weights challenges) challenges (above_replies p values weights t challenges) (pairs (heavy_of t values))
unfolding above_messages
marks_accepted p depth t n values weights can some reached challenges all =
    subst (λ z. IsAccepted (heavy_protocol (above_asked Two p (splitroot p values weights challenges) (count_of z) depth t)) challenges (replies_over Two p forms.Mark (mark_leaves p values weights) t challenges) (pairs (heavy_of t values)))
    (sym can.weighed.total) (leaves_accepted Two p forms.Mark depth t n (mark_leaves p values weights) values (marks_asked p depth t n values weights can some reached) challenges all)
