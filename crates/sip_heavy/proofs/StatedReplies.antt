-- What stated replies come to, by bytes and by lists of nodes.
use Rattle.std.proofs.Common.{◌≡◌, ℕ, ◌+◌, ◌&&◌, true, false, is_ok, Result, Ok, Err, List, [], ◌∷◌, length, refl, sym, ap, ◌∙◌, arith, inl, inr}
use Rattle.std.specs.Prelude.{◌==◌, if◌then◌else◌}
use Rattle.std.specs.List.{flat_map}
use Rattle.std.proofs.lemmas.Bool.{cases_Bool, ne_eqb}
use Rattle.std.proofs.lemmas.List.{length-map}
use Rattle.sip_vector.specs.declared.update.Entry.{Entry}
use Rattle.sip_vector.specs.Answers.{Answer, pairs}
use Rattle.sip_vector.specs.Steps.{◌>>=◌}
use Rattle.sip_wire.specs.declared.message.Message.{Message}
use Rattle.sip_wire.specs.declared.message.Node.{Node}
use Rattle.sip_wire.specs.declared.message.Reason.{Reason}
use Rattle.sip_wire.specs.declared.version.Version.{Version}
use Rattle.sip_replies.specs.Protocols.{Rules}
use Rattle.sip_replies.specs.Replies.{Fault, accepts, in_round, run_from, verdict}
use Rattle.sip_heavy.specs.AcceptsHeavy.{HeavyQuestion, end_test, heavy_entries, known_after, leaves_of, level_nodes, merged, nodes_above, top_test, with_nodes}
use Rattle.sip_heavy.specs.AcceptsHeavy as heavy
use Rattle.sip_heavy.specs.Protocol.{HeavyAsked, HeavyState, ended, heavy_finish, heavy_protocol, heavy_rules, learns, reaches}
use Rattle.sip_heavy.specs.Stating.{AreFrames, as_answer, nodes_of, stated_nodes, stated_replies, stated_reply}
use Rattle.sip_heavy.proofs.StatedFrames.{level_says, reply_is}
use Rattle.sip_heavy.proofs.HeardNodes.{at_level}
use Rattle.sip_heavy.proofs.ClearedLevels.{taken_same}

module _ (asked : HeavyAsked) where
  abbrev version : Version
  version = asked.version

  abbrev p : ℕ
  p = asked.modulus

  abbrev q : HeavyQuestion
  q = asked.query

  abbrev R : Rules HeavyState
  R = heavy_rules version p q

  -- the leaves in the end, where these were stated before
  abbrev leaves_then : ℕ → List Node → List (List Message) → List Node
  leaves_then j leaves replies = if j == 0 then leaves_of (stated_nodes p replies) else leaves

  -- the tests behind the last reply, by bytes and by lists
  abbrev ended_bytes : ℕ → Result HeavyState Fault → Result Answer Fault
  ended_bytes d r = r >>= λ t. in_round d (heavy_finish asked t)

  abbrev ended_lists : ℕ → List Node → Result (List Node) Fault → Result Answer Fault
  ended_lists d leaves r = as_answer (r >>= λ top. in_round d (top_test q asked.root top) >>= λ _. Ok (heavy_entries p q.form q.at_least leaves))

  top_same : (d : ℕ) (leaves : List Node) (r : Result (Unit {0}) Reason)
      → in_round d (r >>= λ _. Ok (pairs (heavy_entries p q.form q.at_least leaves))) ≡ as_answer (in_round d r >>= λ _. Ok (heavy_entries p q.form q.at_least leaves))
  top_same d leaves (Ok u) = refl
  top_same d leaves (Err reason) = refl

  leaves_now : (j : ℕ) (leaves : List Node) → ((j == 0) ≡ true → leaves ≡ []) → leaves ≡ leaves_then j leaves []
  leaves_now j leaves none = elim (cases_Bool (j == 0)) [
    | inl first ↦ rw first (none first)
    | inr later ↦ rw later refl
  ]

  -- one reply: the tests of its nodes, of the level, and then those of what follows
  one_reply : (j r d : ℕ) (rs : List ℕ) (known leaves xs : List Node) (more : List (List ℕ)) (lists : List (List Node)) (final : List Node)
      → ((all : List Node) → all ≡ xs → ended_bytes d (run_from R (j + 1) rs (at_level (j + 1) (nodes_above p r (merged known all)) (if j == 0 then all else leaves)) more)
      ≡ ended_lists d final (known_after p q (j + 1) (nodes_above p r (merged known all)) rs lists))
      → ended_bytes d (in_round j (level_says version p q (at_level j known leaves) xs) >>= λ t. run_from R (j + 1) rs (learns p t r) more)
      ≡ ended_lists d final (in_round j (level_nodes q j known xs) >>= λ nodes. known_after p q (j + 1) (nodes_above p r nodes) rs lists)
  one_reply j r d rs known leaves xs more lists final later = by_nodes (with_nodes q j known [] xs) refl
    where
      by_ends : (all : List Node) → all ≡ xs → (e : Result (Unit {0}) Reason)
          → ended_bytes d (in_round j (e >>= λ _. Ok (ended (record { level = j; known = known; received = all; leaves = leaves }))) >>= λ t. run_from R (j + 1) rs (learns p t r) more)
          ≡ ended_lists d final (in_round j (e >>= λ _. Ok (merged known all)) >>= λ nodes. known_after p q (j + 1) (nodes_above p r nodes) rs lists)
      by_ends all same (Ok u) = later all same
      by_ends all same (Err reason) = refl

      by_nodes : (w : Result (List Node) Reason) → with_nodes q j known [] xs ≡ w
          → ended_bytes d (in_round j (w >>= λ all. end_test q j (merged known all) >>= λ _. Ok (ended (record { level = j; known = known; received = all; leaves = leaves }))) >>= λ t. run_from R (j + 1) rs (learns p t r) more)
          ≡ ended_lists d final (in_round j (w >>= λ all. end_test q j (merged known all) >>= λ _. Ok (merged known all)) >>= λ nodes. known_after p q (j + 1) (nodes_above p r nodes) rs lists)
      by_nodes (Ok all) is = by_ends all (sym (taken_same q j known [] xs all is)) (end_test q j (merged known all))
      by_nodes (Err reason) is = refl

  replies_from : (j d : ℕ) (rs : List ℕ) (known leaves : List Node) (replies : List (List Message)) → AreFrames version q.form j replies → length replies ≡ length rs → ((j == 0) ≡ true → leaves ≡ [])
      → ended_bytes d (run_from R j rs (at_level j known leaves) (stated_replies version replies)) ≡ ended_lists d (leaves_then j leaves replies) (known_after p q j known rs (stated_nodes p replies))
  unfolding run_from known_after
  replies_from j d [] known leaves [] are same none =
      ap (λ ys. in_round d (top_test q asked.root known >>= λ _. Ok (pairs (heavy_entries p q.form q.at_least ys)))) (leaves_now j leaves none) ∙ top_same d (leaves_then j leaves []) (top_test q asked.root known)
  replies_from j d [] known leaves (frames ∷ more) are same none = absurd (omega (arith, same))
  replies_from j d (r ∷ rs) known leaves [] are same none = absurd (omega (arith, same))
  replies_from j d (r ∷ rs) known leaves (frames ∷ more) are same none =
      let xs = flat_map (nodes_of p) frames in
      let later : (j + 1 == 0) ≡ false = ne_eqb (j + 1) 0 (λ e. absurd (omega (arith, e))) in
      ap (λ (w : Result HeavyState Reason). ended_bytes d (in_round j w >>= λ t. run_from R (j + 1) rs (learns p t r) (stated_replies version more))) (reply_is version p q (at_level j known leaves) frames are.0)
      ∙ one_reply j r d rs known leaves xs (stated_replies version more) (stated_nodes p more) (leaves_then j leaves (frames ∷ more)) (λ all is.
      replies_from (j + 1) d rs (nodes_above p r (merged known all)) (if j == 0 then all else leaves) more are.1 (omega (arith, same)) (λ e. absurd (let k = sym later ∙ e in cc))
      ∙ ap (λ ys. ended_lists d ys (known_after p q (j + 1) (nodes_above p r (merged known all)) rs (stated_nodes p more))) (rw (later, is) refl))

  pub are_judged : (challenges : List ℕ) (replies : List (List Message)) → q.depth ≡ length challenges → AreFrames version q.form 0 replies → length replies ≡ length challenges
      → verdict (heavy_protocol asked) challenges (stated_replies version replies) ≡ as_answer (heavy.verdict p q asked.root challenges (stated_nodes p replies))
  unfolding heavy.verdict
  are_judged challenges replies depth are same =
      replies_from 0 (length challenges) challenges [] [] replies are same (λ e. refl)
      ∙ ap (λ d. ended_lists d (leaves_of (stated_nodes p replies)) (known_after p q 0 [] challenges (stated_nodes p replies))) (sym depth)

  ok_same : (w : Result (List Entry) Fault) → is_ok (as_answer w) ≡ is_ok w
  ok_same (Ok es) = refl
  ok_same (Err fault) = refl

  -- so they are accepted where the lists are
  pub are_accepted : (challenges : List ℕ) (replies : List (List Message)) → q.depth ≡ length challenges → reaches q ≡ true → AreFrames version q.form 0 replies → length replies ≡ length challenges
      → accepts (heavy_protocol asked) challenges (stated_replies version replies) ≡ heavy.accepts p q asked.root challenges (stated_nodes p replies)
  are_accepted challenges replies depth reached are same =
      let bytes = stated_replies version replies in
      let lists = stated_nodes p replies in
      let long : length bytes ≡ length lists = length-map replies (stated_reply version) ∙ sym (length-map replies (flat_map (nodes_of p))) in
      let ok : is_ok (verdict (heavy_protocol asked) challenges bytes) ≡ is_ok (heavy.verdict p q asked.root challenges lists) =
      ap is_ok (are_judged challenges replies depth are same) ∙ ok_same (heavy.verdict p q asked.root challenges lists) in
      rw reached (
      ap (λ n. (n == length challenges) && is_ok (verdict (heavy_protocol asked) challenges bytes)) long
      ∙ ap (λ b. (length lists == length challenges) && b) ok
      )
