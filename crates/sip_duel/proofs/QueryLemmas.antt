-- The rounds of one query, against a helper at rest behind the stream.
use Rattle.std.proofs.Common.{◌≡◌, ◌≢◌, ◌⊎◌, ℕ, suc, ◌+◌, ◌<◌, ◌≤◌, Bool, true, false, List, [], ◌∷◌, ◌++◌, length, Option, Some, None, Result, Ok, Err, inl, inr, refl, sym, ap, ◌∙◌, subst, append_assoc, append-nil, arith, length-append, if◌then◌else◌}
use Rattle.std.specs.Prelude.{All, nat_le, ◌||◌, is_some}
use Rattle.std.specs.List.{flat_map}
use Rattle.std.specs.Option.{option_and_then}
use Rattle.std.proofs.lemmas.List.{append_cancel_left, nil_from_length}
use Rattle.std.proofs.lemmas.Bool.Decides.{nat_tests}
use Rattle.sip_vector.specs.Answers.{Answer, answer}
use Rattle.sip_vector.specs.Steps.{◌>>=◌}
use Rattle.sip_vector.specs.declared.query.Query.{Query}
use Rattle.sip_vector.specs.declared.update.Update.{Update}
use Rattle.sip_wire.specs.declared.message.Message.TheVariants as messages
use Rattle.sip_wire.specs.declared.message.Reason.{Reason}
use Rattle.sip_wire.specs.declared.message.Reason.TheVariants as reasons
use Rattle.sip_wire.specs.declared.version.Version.{Version}
use Rattle.sip_wire.specs.Spelling.{spelling}
use Rattle.sip_replies.specs.Protocols.{Protocol}
use Rattle.sip_replies.specs.Replies.{Fault, IsStated, in_round, joined, read_reply, run, verdict}
use Rattle.sip_replies.proofs.Agreeing.{run_same}
use Rattle.sip_helper.specs.declared.heard.Heard.TheVariants.{Whole}
use Rattle.sip_helper.specs.KindRows.{want_of_memory}
use Rattle.sip_helper.specs.Kinds.{help_row}
use Rattle.sip_helper.specs.Serving.{IsMessage}
use Rattle.sip_helper.specs.Streams.{vectors_of}
use Rattle.sip_helper.specs.Turns.{HelperState, step, owed, after_answer, after_reply, depth_of, reply_to}
use Rattle.sip_helper.specs.Vectors.{Vectors}
use Rattle.sip_helper.proofs.OwedReplies.{due}
use Rattle.sip_duel.proofs.WalkLemmas.{Round, Comes, Walk}
use Rattle.sip_duel.proofs.RevealLemmas.{AreWhole, AreWholeSoFar, Ends, IsDue, Then, honest, replies_from, reveals, run_whole, so_far, walk_reveals, walk_then}
use Rattle.sip_duel.proofs.RefusalLemmas.{reads_refusal, refusal_frame}
use Rattle.sip_duel.proofs.KindLemmas.{IsAsked}

-- ---- lists of replies

joined_last : (earlier : List (List ℕ)) (b u : List ℕ) → joined (earlier ++ b ∷ []) ++ u ≡ joined earlier ++ (b ++ u)
joined_last [] b u = ap (λ l. l ++ u) (append-nil b)
joined_last (e ∷ earlier) b u = append_assoc e (joined (earlier ++ b ∷ [])) u ∙ ap (λ l. e ++ l) (joined_last earlier b u) ∙ sym (append_assoc e (joined earlier) (b ++ u))

pub last_same : (earlier : List (List ℕ)) (b o : List ℕ) → earlier ++ b ∷ [] ≡ earlier ++ o ∷ [] → b ≡ o
last_same earlier b o e = let ends : b ∷ [] ≡ o ∷ [] = append_cancel_left earlier (b ∷ []) (o ∷ []) e in cc

-- ---- a helper at rest

-- it heard the whole stream, asked so many queries, and none is open; its vectors are the stream's, or there was no memory for them
pub record IsAtRest (v : Version) (depth : ℕ) (vs : Vectors) (s : HelperState) (asked : ℕ) : Type 0 where
  pub version : s.version ≡ v
  pub heard : s.heard ≡ Whole depth
  pub vectors : (s.vectors ≡ None) ⊎ (s.vectors ≡ Some vs)
  pub queries : s.queries ≡ asked
  pub closed : s.open_query ≡ None

-- the last reply closes a query, and so does a refusal
closes : (n : ℕ) (v : Version) (depth : ℕ) (vs : Vectors) (q : Query) (none : (help_row q).refused_by vs ≡ None) (t : HelperState) (behind : List ℕ) → IsDue v depth vs q none n t behind → length behind + 1 ≡ depth
    → (after_answer t).open_query ≡ None
closes n v depth vs q none t behind is last =
    let at_end : nat_le depth (length behind + 1) ≡ true = grind (arith, nat_tests) in
    ap (λ x. option_and_then (after_reply (depth_of x) t.vectors) t.open_query) is.heard
    ∙ ap (λ x. option_and_then (after_reply depth x) t.open_query) is.vectors
    ∙ ap (λ x. option_and_then (after_reply depth (Some vs)) x) is.standing
    ∙ ap (λ x. if is_some x || nat_le depth (length behind + 1) then None else Some (record (due q behind) { given = true })) none
    ∙ ap (λ x. if x then None else Some (record (due q behind) { given = true })) at_end

then_walk : (Last : List ℕ → List ℕ → Type 0) (v : Version) (t : HelperState) (b : List ℕ) (rest : List Round) → b ≡ owed t → Walk Last v (after_answer t) rest → Then Last v t b rest
then_walk Last v t b [] same walk = absurd walk
then_walk Last v t b (next ∷ rest) same walk = (same, walk)

-- ---- a query that is asked

module _ (Last : List ℕ → List ℕ → Type 0) (v : Version) (depth : ℕ) (stream : List Update) (q : Query) (block : List ℕ) {S : Type 0} (P : Protocol S) (hs : List (List ℕ)) (asked : IsAsked v depth stream q block P hs)
    (none : (help_row q).refused_by (vectors_of depth stream) ≡ None) (fit : All (λ c. IsMessage v (messages.Reveal c)) block) (size : length block ≡ depth) (some : 1 ≤ depth) where
  abbrev pub vs : Vectors
  vs = vectors_of depth stream

  -- what a refusal comes to
  abbrev pub OnRefusal : List ℕ → List (List ℕ) → List Round → Type 0
  OnRefusal b bs tail = (t : HelperState) → owed t ≡ refusal_frame v → (u w : List ℕ) → b ++ u ≡ refusal_frame v ++ w → Then Last v t b (reveals block bs ++ tail)

  refused_owed : (s : HelperState) (vectors : Option Vectors) (refused : Bool) → s.version ≡ v → s.vectors ≡ vectors → (vectors ≡ None) ⊎ (refused ≡ true) → owed (step s refused (messages.Query q)) ≡ refusal_frame v
  refused_owed s None refused version e why =
      ap (λ x. flat_map (spelling s.version) (reply_to x (record { query = q; revealed = []; given = false; refused = refused }))) e ∙ append-nil (refusal_frame s.version) ∙ ap refusal_frame version
  refused_owed s (Some x) refused version e (inl no_vectors) = absurd cc
  refused_owed s (Some x) refused version e (inr since) =
      ap (λ y. flat_map (spelling s.version) (reply_to y (record { query = q; revealed = []; given = false; refused = refused }))) e
      ∙ ap (λ y. flat_map (spelling s.version) (reply_to (Some x) (record { query = q; revealed = []; given = false; refused = y }))) since
      ∙ append-nil (refusal_frame s.version) ∙ ap refusal_frame version

  own_whole : (n : ℕ) → AreWhole P.rules block P.rules.start (replies_from (honest v depth vs q none n) [] block)
  own_whole n = subst (AreWhole P.rules block P.rules.start) asked.honest (by_verdict (run P.rules block hs) refl asked.stated.found)
    where
      by_verdict : (r : Result S Fault) → run P.rules block hs ≡ r → (r >>= λ s. in_round (length block) (P.finish s)) ≡ Ok (answer depth stream q) → AreWhole P.rules block P.rules.start hs
      by_verdict (Ok t) is e = run_whole P.rules 0 block P.rules.start hs t is
      by_verdict (Err fault) is e = absurd cc

  pub walk_query : (s : HelperState) (n : ℕ) → IsAtRest v depth vs s n → (b : List ℕ) (bs : List (List ℕ)) (tail : List Round) → length bs < length block → AreWholeSoFar P.rules block P.rules.start (b ∷ bs)
      → OnRefusal b bs tail → Ends v depth vs q none (n + 1) Last P.rules tail [] block (b ∷ bs)
      → (refused : Bool) (u w : List ℕ) → b ++ u ≡ owed (step s refused (messages.Query q)) ++ w → Then Last v (step s refused (messages.Query q)) b (reveals block bs ++ tail)
  walk_query s n rest b bs tail few so on_refusal ends refused u w agree = elim rest.vectors [
    | inl no_vectors ↦ refusal (refused_owed s None refused rest.version no_vectors (inl refl))
    | inr has ↦ by_refused refused refl has
  ]
    where
      refusal : owed (step s refused (messages.Query q)) ≡ refusal_frame v → Then Last v (step s refused (messages.Query q)) b (reveals block bs ++ tail)
      refusal is = on_refusal (step s refused (messages.Query q)) is u w (agree ∙ ap (λ l. l ++ w) is)

      by_block : (block : List ℕ) → length block ≡ depth → length bs < length block → All (λ c. IsMessage v (messages.Reveal c)) block → AreWhole P.rules block P.rules.start (replies_from (honest v depth vs q none (n + 1)) [] block)
          → AreWholeSoFar P.rules block P.rules.start (b ∷ bs) → Ends v depth vs q none (n + 1) Last P.rules tail [] block (b ∷ bs) → IsDue v depth vs q none (n + 1) (step s refused (messages.Query q)) []
          → Then Last v (step s refused (messages.Query q)) b (reveals block bs ++ tail)
      by_block [] long few fit own so ends is = absurd (omega (arith, some, long))
      by_block (r ∷ rs) long few fit own so ends is =
          walk_reveals v depth vs q none (n + 1) Last P.rules tail (step s refused (messages.Query q)) P.rules.start [] r rs b bs is (let all : 0 + suc (length rs) ≡ depth = omega (arith, long) in all) (omega (arith, few)) fit own so ends u w agree

      by_refused : (x : Bool) → refused ≡ x → s.vectors ≡ Some vs → Then Last v (step s refused (messages.Query q)) b (reveals block bs ++ tail)
      by_refused true e has = refusal (refused_owed s (Some vs) refused rest.version has (inr e))
      by_refused false e has = by_block block size few fit (own_whole (n + 1)) so ends (record {
        version = rest.version;
        heard = rest.heard;
        vectors = has;
        queries = ap (λ x. x + 1) rest.queries;
        standing = ap (λ x. Some (record { query = q; revealed = []; given = false; refused = x })) e;
      })

  -- ---- what its replies come to

  pub ran : (replies : List (List ℕ)) (a : Answer) → verdict P block replies ≡ Ok a → (t : S) × (run P.rules block replies ≡ Ok t)
  ran replies a e = by_run (run P.rules block replies) refl e
    where
      by_run : (r : Result S Fault) → run P.rules block replies ≡ r → (r >>= λ s. in_round (length block) (P.finish s)) ≡ Ok a → (t : S) × (run P.rules block replies ≡ Ok t)
      by_run (Ok t) is e = (t, is)
      by_run (Err fault) is e = absurd cc

  -- the honest replies up to this one
  pub own_front : (n : ℕ) (earlier more : List (List ℕ)) (o : List ℕ) → replies_from (honest v depth vs q none n) [] block ≡ earlier ++ o ∷ more → hs ≡ (earlier ++ o ∷ []) ++ more
  own_front n earlier more o front = asked.honest ∙ front ∙ sym (append_assoc earlier (o ∷ []) more)

  pub agree_all : (earlier : List (List ℕ)) (b o u w : List ℕ) → b ++ u ≡ o ++ w → joined (earlier ++ o ∷ []) ++ w ≡ joined (earlier ++ b ∷ []) ++ u
  agree_all earlier b o u w agree = joined_last earlier o w ∙ ap (λ l. joined earlier ++ l) (sym agree) ∙ sym (joined_last earlier b u)

  -- a refusal is read as one
  pub on_refused : (b u w : List ℕ) → b ++ u ≡ refusal_frame v ++ w → (read_reply P.rules P.rules.start b ≡ Err (reasons.Refused want_of_memory)) ⊎ ((read_reply P.rules P.rules.start b ≡ Err reasons.Closed) × (b ≢ refusal_frame v))
  on_refused b u w agree = elim (reads_refusal P.rules P.rules.start b u w (asked.refuses want_of_memory) asked.place (agree ∙ ap (λ x. refusal_frame x ++ w) (sym asked.version))) [
    | inl e ↦ inl e
    | inr e ↦ inr (e.0, λ same. e.1 (same ∙ ap refusal_frame (sym asked.version)))
  ]

  not_both : (b : List ℕ) (x : S) (reason : Reason) → read_reply P.rules P.rules.start b ≡ Ok x → read_reply P.rules P.rules.start b ≡ Err reason → ⊥
  not_both b x reason e f = let both : ◌≡◌ {A = Result S Reason} (Ok x) (Err reason) = sym e ∙ f in cc

  pub whole_not_refused : (b u w : List ℕ) (x : S) → read_reply P.rules P.rules.start b ≡ Ok x → b ++ u ≡ refusal_frame v ++ w → ⊥
  whole_not_refused b u w x e agree = elim (on_refused b u w agree) [
    | inl f ↦ not_both b x (reasons.Refused want_of_memory) e f
    | inr f ↦ not_both b x reasons.Closed e f.0
  ]

  -- accepted replies are the honest ones, and the helper is at rest then
  pub walk_accepted : (s : HelperState) (n : ℕ) → IsAtRest v depth vs s n → Comes v s (messages.Query q) → (b : List ℕ) (bs : List (List ℕ)) (written : Answer) → IsStated P block (b ∷ bs) written → (tail : List Round)
      → ((s2 : HelperState) → IsAtRest v depth vs s2 (n + 1) → b ∷ bs ≡ hs → Walk Last v s2 tail) → Walk Last v s (record { message = messages.Query q; reply = b } ∷ (reveals block bs ++ tail))
  walk_accepted s n rest comes b bs written stated tail on =
      let its = ran (b ∷ bs) written stated.found in
      let own = ran hs (answer depth stream q) asked.stated.found in
      let whole = run_whole P.rules 0 block P.rules.start (b ∷ bs) its.0 its.1 in
      walk_then Last v s (record { message = messages.Query q; reply = b }) (reveals block bs ++ tail) comes
      (walk_query s n rest b bs tail (let few : length bs < length block = omega (arith, stated.all) in few) (so_far P.rules block P.rules.start (b ∷ bs) whole)
      (λ t owes u w agree. absurd (whole_not_refused b u w whole.0 whole.1 agree))
      (λ earlier more last t behind is count split front u w agree.
      let all : hs ≡ (earlier ++ owed t ∷ []) ++ more = own_front (n + 1) earlier more (owed t) front in
      let none_more : more ≡ [] = nil_from_length more (omega (arith, ap (λ (l : List (List ℕ)). length l) all, length-append (earlier ++ owed t ∷ []) more, length-append earlier (owed t ∷ []), length-append earlier (last ∷ []), ap (λ (l : List (List ℕ)). length l) split, stated.all, asked.stated.all)) in
      let exact : hs ≡ earlier ++ owed t ∷ [] = all ∙ ap (λ l. (earlier ++ owed t ∷ []) ++ l) none_more ∙ append-nil (earlier ++ owed t ∷ []) in
      let same = run_same P.rules 0 block P.rules.start hs (b ∷ bs) w u own.0 its.0 own.1 its.1 (stated.all ∙ sym asked.stated.all)
      (ap (λ l. joined l ++ w) exact ∙ agree_all earlier last (owed t) u w agree ∙ ap (λ l. joined l ++ u) (sym split)) in
      then_walk Last v t last tail (last_same earlier last (owed t) (sym split ∙ sym same.0 ∙ exact))
      (on (after_answer t) (record {
        version = is.version;
        heard = is.heard;
        vectors = inr is.vectors;
        queries = is.queries;
        closed = closes (n + 1) v depth vs q none t behind is (let at : length behind + 1 ≡ depth = omega (arith, count, ap (λ (l : List (List ℕ)). length l) none_more) in at);
      }) (sym same.0))))
